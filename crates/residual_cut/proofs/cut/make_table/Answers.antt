use Rattle.std.proofs.Common.{◌≡◌, ◌∙◌, ◌+◌, arith, rules}
use Rattle.std.specs.Vec.{with_items}
use Rattle.std.proofs.lemmas.List.{with_items_is}
use Rattle.mds_types.specs.CutTable.{cuts_at}
use Rattle.residual_cut.proofs.CutIs.{few_from_table}
use Rattle.residual_cut.proofs.TableLemmas.{first_walked}
use Rattle.residual_cut.proofs.cut.make_table.Goals as goal

pub cut_table-requires : goal.cut_table-requires
cut_table-requires c =
    first_walked c.args.of.rows.now c.deref_mut.result.now c.args.of.bound (c.deref_mut.ensures.value ∙ c.in_ok-table.ensures)

pub returns-clause-few : goal.returns-clause-few
returns-clause-few c =
    let same : (with_items c.in_ok-table.table c.cut_table.new.table).items ≡ c.cut_table.new.table =
    with_items_is c.in_ok-table.table c.cut_table.new.table (search rules) in
    let table = c.in_ok-cut_table.ensures.table in
    rw same
    (few_from_table c.args.of.rows.now c.cut_table.new.table c.args.of.bound (cuts_at c.cut_table.new.table 0 + 1) c.args.of.bound c.args.of.can_cut.forest
    c.args.of.can_cut.some table c.in_ok-cut_table.ensures.counted (omega arith) (λ i l begins. (table.each i l).rest_within))
