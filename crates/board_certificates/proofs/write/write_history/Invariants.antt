use Rattle.std.proofs.Common.{None}
use Rattle.std.specs.Option.{option_map}
use Rattle.board_certificates.specs.Certificates.{certificates}
use Rattle.board_certificates.specs.Posed.{posed_of}
use Rattle.board_certificates.proofs.WriteLemmas.{IsAt}
use Rattle.board_certificates.proofs.write.write_history.Given as goal
use Rattle.mds_board.specs.State.{start}
use Rattle.plan_text.specs.Text.{texts}

-- what was written, and what is left to write
abbrev pub invariant-loop-number : goal.invariant-loop-number
invariant-loop-number g l =
    IsAt l.history.entries l.number (certificates (start l.limit l.active) None l.history.entries)
    (texts (certificates (start l.limit l.active) None l.history.entries)) (g.W.Write.contents l.initial.writer)
    (g.W.Write.contents l.writer) l.replay (option_map posed_of l.last)
