use Rattle.std.proofs.Common.{◌≡◌, ◌∙◌, ◌<◌, ◌≤◌, ◌^◌, ℕ, List, ap, arith, length, slice_index, subst, sym}
use Rattle.mds_types.specs.declared.problem.ProblemRow.{ProblemRow}
use Rattle.mds_types.specs.Problem.{heat_at, row_at}
use Rattle.mds_types.specs.Sums.{sum_below}
use Rattle.mds_types.proofs.SumsLemmas.{sum_below-term}
use Rattle.ceph_plan.specs.declared.hours.Hour.{Hour}
use Rattle.ceph_plan.specs.Packing.{heat_in, heats_in, pinned_in}
use Rattle.ceph_plan.specs.Shares.{CountFor}
use Rattle.ceph_plan.proofs.HourLists.{small-share}
use Rattle.ceph_plan.proofs.shares.shared.Goals as goal

pub with_shares-requires-clause-small : goal.with_shares-requires-clause-small
with_shares-requires-clause-small c =
    let hours : List Hour = c.args.hours.now in
    let shares : List Hour = c.in_ok-shares.shares.items in
    let n : ℕ = length c.args.rows.now in
    subst (λ (those : List Hour). (h i : ℕ) → h < length those → i < n → heat_in those h i ≤ 2 ^ 57) (sym c.deref-2.ensures.value)
    (λ h i l inside.
    let there : h < length hours = omega (arith, l, c.in_ok-shares.ensures.size) in
    small-share hours shares n (length hours) (slice_index c.deref.result.now h) (slice_index c.args.weights.now h) h i c.requires.hours
    there (c.in_ok-shares.ensures.heats h there) inside)

pub returns : goal.returns
returns c =
    let hours : List Hour = c.args.hours.now in
    let rows : List ProblemRow = c.args.rows.now in
    let weights : List ℕ = c.args.weights.now in
    let shares : List Hour = c.in_ok-shares.shares.items in
    let found : List ProblemRow = c.in_ok-rows.rows.items in
    let rows_are : (i : ℕ) → i < length rows → row_at found i ≡ record (row_at rows i) { heat = sum_below (length hours) (λ h. heat_in shares h i) } = λ i l.
    c.in_ok-rows.ensures.rows i l
    ∙ (ap (λ (those : List Hour). record (row_at rows i) { heat = sum_below (length those) (λ h. heat_in those h i) }) c.deref-2.ensures.value
    ∙ ap (λ (n : ℕ). record (row_at rows i) { heat = sum_below n (λ h. heat_in shares h i) }) c.in_ok-shares.ensures.size) in
    record {
      bounds_size = c.in_ok-bounds.ensures.size;
      bounds = c.in_ok-bounds.ensures.bounds;
      size = c.in_ok-shares.ensures.size;
      heats = subst (λ (bounds : List ℕ). (h : ℕ) → h < length hours
          → CountFor (length hours) (slice_index bounds h) (slice_index weights h) (heats_in hours h) (heats_in shares h))
          c.deref.ensures.value c.in_ok-shares.ensures.heats;
      pinned = subst (λ (bounds : List ℕ). (h : ℕ) → h < length hours
          → CountFor (length hours) (slice_index bounds h) (slice_index weights h) (pinned_in hours h) (pinned_in shares h))
          c.deref.ensures.value c.in_ok-shares.ensures.pinned;
      rows_size = c.in_ok-rows.ensures.size;
      rows_are = rows_are;
      have = λ h l.
          let there : h < length hours = omega (arith, l, c.in_ok-shares.ensures.size) in
          record {
            size = (c.in_ok-shares.ensures.heats h there).size ∙ (c.requires.hours.size h there ∙ sym c.in_ok-rows.ensures.size);
            cool = λ i inside.
                let is : heat_at found i ≡ sum_below (length hours) (λ k. heat_in shares k i) =
                ap (λ (row : ProblemRow). row.heat) (rows_are i (omega (arith, inside, c.in_ok-rows.ensures.size))) in
                omega (arith, is, sum_below-term (length hours) h (λ k. heat_in shares k i) there);
          };
    }
