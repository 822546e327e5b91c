use Rattle.std.proofs.Common.{◌≡◌, [], map}
use Rattle.std.specs.Prelude.{replicate}
use Rattle.export_machine.proofs.records.empty_lists.Given as goal

-- one empty list a round
abbrev pub invariant-loop : goal.invariant-loop
invariant-loop g l = map (λ list. list.items) l.lists.items ≡ replicate l.counter []
