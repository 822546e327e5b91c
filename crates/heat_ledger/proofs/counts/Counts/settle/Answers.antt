use Rattle.std.proofs.Common.{length, sym, ◌∙◌, ap, rules}
use Rattle.heat_ledger.specs.Rows.{sums}
use Rattle.heat_ledger.specs.Counts.{CountsData}
use Rattle.heat_ledger.specs.Placed.{data_of}
use Rattle.heat_ledger.proofs.RowLemmas.{sum_row, zero_row}
use Rattle.heat_ledger.proofs.Marks.{tracked_zero}
use Rattle.heat_ledger.proofs.Placing.{same_data, length_column}
use Rattle.heat_ledger.proofs.counts.Counts.settle.Goals as goal

pub invariant_of-self : goal.invariant_of-self
invariant_of-self c = (
  c.move_all.ensures.kept,
  rw c.clear.ensures.items
      (tracked_zero (data_of c.move_all.new.kept).pending c.move_all.ensures.zero),
  search rules,
)

pub returns-clause-into : goal.returns-clause-into
returns-clause-into c =
    let into = c.args.into.now.items in
    let pending = ap (λ (v : CountsData). v.pending) c.self.view_is in
    sum_row c.move_all.new.into.items into (data_of c.self.inside.kept).pending c.move_all.ensures.length
    (ap length pending ∙ sym c.requires.lengths) c.move_all.ensures.sums ∙ ap (sums into) pending

pub returns-clause-zero : goal.returns-clause-zero
returns-clause-zero c =
    let old = c.self.inside.kept in
    let new = c.move_all.new.kept in
    let long = length_column (λ x. x.pending) new.limit new.counts.items new.places.items c.move_all.ensures.kept.few
    ∙ c.move_all.ensures.limit ∙ sym (length_column (λ x. x.pending) old.limit old.counts.items old.places.items c.self.invariant.0.few)
    ∙ ap (λ (v : CountsData). length v.pending) c.self.view_is in
    same_data _ _ (c.move_all.ensures.others.0 ∙ ap (λ (v : CountsData). v.hits) c.self.view_is)
    (zero_row (data_of new).pending (length c.args.self.now.pending) long c.move_all.ensures.zero)
    (c.move_all.ensures.others.1 ∙ ap (λ (v : CountsData). v.begun) c.self.view_is)
