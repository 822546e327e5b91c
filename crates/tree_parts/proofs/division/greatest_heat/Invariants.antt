use Rattle.std.proofs.Common.{◌≡◌, take}
use Rattle.tree_parts.specs.Parts.{greatest}
use Rattle.tree_parts.proofs.division.greatest_heat.Given as goal

abbrev pub invariant-loop-part : goal.invariant-loop-part
invariant-loop-part l = l.greatest ≡ greatest (take l.part-index l.parts)
