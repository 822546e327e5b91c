use Rattle.std.specs.Io.KnownBytes.{Appends}
use Rattle.std.specs.Prelude.{take}
use Rattle.script_session.specs.Session.{refusal_lines}
use Rattle.script_session.proofs.report.write_refused.Given as goal

-- the lines so far are written
abbrev pub invariant-loop-fault : goal.invariant-loop-fault
invariant-loop-fault g l = Appends (g.W.Write.contents l.initial.writer) (g.W.Write.contents l.writer) (refusal_lines l.number (take l.fault-index l.refused))
