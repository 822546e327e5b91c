use Rattle.std.proofs.Common.{◌≡◌, ◌-◌, take}
use Rattle.heat_ledger.specs.Ledger.{weight_of}
use Rattle.heat_ledger.proofs.closing.missing.Given as goal

abbrev pub invariant-loop-share : goal.invariant-loop-share
invariant-loop-share g l = l.left ≡ l.shares - weight_of (take l.share-index l.back)
