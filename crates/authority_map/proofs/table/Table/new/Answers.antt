use Rattle.std.proofs.Common.{◌≡◌, ◌+◌, ◌/◌, ◌∷◌, [], replicate, rules}
use Rattle.authority_map.proofs.CellLemmas.{runs_none, index_none, cells_none}
use Rattle.authority_map.proofs.table.Table.new.Goals as goal

pub invariant_of-result-clause-table : goal.invariant_of-result-clause-table
invariant_of-result-clause-table g c =
    let starts : c.push_reserved.new.self.items ≡ 0 ∷ [] = search rules in
    let cells : c.push_reserved-2.new.self.items ≡ 0 ∷ [] = search rules in
    let index : c.in_ok-index.index.items ≡ replicate (c.args.limit / 256 + 2) 0 = search rules in
    record {
      shape = rw (starts, cells) (runs_none c.args.limit c.requires.limit.1);
      indexed = rw (starts, index) (index_none c.args.limit);
      room = search rules;
    }

pub invariant_of-result-clause-kept : goal.invariant_of-result-clause-kept
invariant_of-result-clause-kept g c = rw c.requires.prefix (cells_none c.args.limit _ (search rules) (search rules))
