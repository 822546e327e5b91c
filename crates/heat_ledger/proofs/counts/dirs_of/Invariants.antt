use Rattle.std.proofs.Common.{◌≡◌, ℕ, take}
use Rattle.heat_ledger.specs.Touched.{times}
use Rattle.heat_ledger.proofs.Pairs.{named}
use Rattle.heat_ledger.proofs.counts.dirs_of.Given as goal

-- a directory is in the list as often as the entries up to here name it
abbrev pub invariant-loop-entry : goal.invariant-loop-entry
invariant-loop-entry l = (d : ℕ) → times l.dirs.items d ≡ named l.counts.pending (take l.entry-index l.entries) d
