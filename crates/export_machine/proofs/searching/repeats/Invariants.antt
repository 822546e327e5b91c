use Rattle.std.proofs.Common.{◌≡◌, drop}
use Rattle.export_protocol.specs.Step.{repeats}
use Rattle.export_machine.proofs.searching.repeats.Given as goal

-- no directory so far comes again later
abbrev pub invariant-loop-at : goal.invariant-loop-at
invariant-loop-at l = repeats l.dirs ≡ repeats (drop l.at l.dirs)
