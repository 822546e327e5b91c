use Rattle.std.proofs.Common.{◌≡◌, ℕ, List, map, rules, subst, IfOk}
use Rattle.std.proofs.lemmas.List.Sorted.{IsNonDecreasingBy-from_sort}
use Rattle.std.specs.List.Sorted.{IsNonDecreasing}
use Rattle.heat_ledger.specs.declared.dir_hits.DirHits.{DirHits}
use Rattle.heat_ledger.specs.Rows.{dir_row, counted_rows}
use Rattle.heat_ledger.specs.Placed.{data_of}
use Rattle.heat_ledger.specs.Touched.{pair_sums, IsTracked}
use Rattle.heat_ledger.proofs.Listed.{sorted_rows}
use Rattle.heat_ledger.proofs.counts.Counts.pending_rows.Goals as goal

pub returns : goal.returns
returns c =
    let pending = c.args.self.now.pending in
    let dirs = c.sort_unstable.new.self.items in
    let noted : c.self.inside.unsettled.items ≡ c.as_slice.result.now = search rules in
    let touched : IsTracked pending c.as_slice.result.now =
    rw (← c.self.view_is) (subst (IsTracked (data_of c.self.inside.kept).pending) noted c.self.invariant.1) in
    let tracked : IsTracked (pair_sums pending) c.in_ok-dirs.dirs.items = c.in_ok-dirs.ensures touched in
    let up : IsNonDecreasing dirs = IsNonDecreasingBy-from_sort (λ (d : ℕ). d) dirs c.sort_unstable.ensures.sorted in
    let rows : map (dir_row pending) dirs ≡ counted_rows pending =
    sorted_rows pending c.in_ok-dirs.dirs.items dirs tracked c.sort_unstable.ensures.permutation up in
    let sorted : c.as_slice-2.result.now ≡ dirs = search rules in
    let whole : map (dir_row pending) c.as_slice-2.result.now ≡ counted_rows pending = rw sorted rows in
    subst (λ (l : List DirHits). IfOk c.with_pending.result (λ found. found.items ≡ l)) whole c.with_pending.ensures
