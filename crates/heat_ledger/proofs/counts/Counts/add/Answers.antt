use Rattle.std.proofs.Common.{◌≡◌, ◌∙◌, ◌<◌, List, ℕ, length, vec_len, vec_capacity, ap, sym, rules, arith, subst}
use Rattle.heat_ledger.specs.declared.places.EntryCounts.{EntryCounts}
use Rattle.heat_ledger.specs.Counts.{CountsData}
use Rattle.heat_ledger.specs.Placed.{data_of}
use Rattle.heat_ledger.specs.Touched.{IsTracked}
use Rattle.heat_ledger.proofs.Marks.{tracked_room}
use Rattle.heat_ledger.proofs.Placing.{length_column}
use Rattle.heat_ledger.proofs.counts.Counts.add.Goals as goal

pub note-requires : goal.note-requires
note-requires c = record { room = λ none. room none }
  where
    room : c.add-had.result.pending ≡ 0 → vec_len c.self.inside.unsettled < vec_capacity c.self.inside.unsettled
    room none =
        let i = c.self.inside in
        let pending = (data_of i.kept).pending in
        let long : length pending ≡ i.kept.limit = length_column (λ (x : EntryCounts). x.pending) i.kept.limit i.kept.counts.items
        i.kept.places.items c.self.invariant.0.few in
        let inside : c.args.entry < length pending = omega (
          arith,
          long,
          length_column (λ (x : EntryCounts). x.hits) i.kept.limit i.kept.counts.items i.kept.places.items
              c.self.invariant.0.few,
          ap (λ (v : CountsData). length v.hits) c.self.view_is,
          c.requires.inside,
        ) in
        omega (
          arith,
          tracked_room pending i.unsettled.items c.args.entry c.self.invariant.1 inside
              (sym (ap (λ (x : EntryCounts). x.pending) c.add-had.ensures.had) ∙ none),
          long,
          c.self.invariant.2,
          i.unsettled.ok,
        )

pub invariant_of-self : goal.invariant_of-self
invariant_of-self c =
    let i = c.self.inside in
    let pending = (data_of i.kept).pending in
    let inside : c.args.entry < length pending = omega (
      arith,
      length_column (λ (x : EntryCounts). x.pending) i.kept.limit i.kept.counts.items i.kept.places.items c.self.invariant.0.few,
      length_column (λ (x : EntryCounts). x.hits) i.kept.limit i.kept.counts.items i.kept.places.items c.self.invariant.0.few,
      ap (λ (v : CountsData). length v.hits) c.self.view_is,
      c.requires.inside,
    ) in (
      c.add-had.ensures.kept,
      subst (λ (l : List ℕ). IsTracked l c.note.new.noted.items) (sym (ap (λ (v : CountsData). v.pending) c.add-had.ensures.added))
          (c.note.ensures.tracked pending c.self.invariant.1 inside (sym (ap (λ (x : EntryCounts). x.pending) c.add-had.ensures.had))),
      search rules,
    )
