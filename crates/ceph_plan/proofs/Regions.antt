-- The parts of rows that go to given ranks, with one more row, and what plan they are.
use Rattle.std.proofs.Common.{◌≡◌, ◌≢◌, ◌∙◌, ◌<◌, ◌+◌, ◌⊎◌, ◌==◌, ℕ, Bool, true, false, not, cond, List}
use Rattle.std.proofs.Common.{[], ◌∷◌, ◌++◌, length, length-append, max, slice_index, ap, arith, refl, subst, sym, ⊎_elim}
use Rattle.std.proofs.lemmas.Bool.{cases_Bool, cases_eq, eqb-true, both_ways, or_parts, eqb-false}
use Rattle.mds_types.specs.declared.problem.ProblemRow.{ProblemRow}
use Rattle.mds_types.specs.Problem.{IsForest, parent_at}
use Rattle.mds_types.specs.RankSet.{has_rank}
use Rattle.mds_types.proofs.SumsLemmas.{sum_below-same}
use Rattle.residual_cut.specs.Labels.{IsLabelled, starts}
use Rattle.residual_cut.proofs.LabelLemmas.{labelled_parts, labelled_step, slice_index-last, slice_index-push}
use Rattle.ceph_plan.specs.declared.hours.Hour.{Hour}
use Rattle.ceph_plan.specs.Packing.{IsPacking, greatest_of, heat_in, load, load_in, packed_rank, pinned_at}
use Rattle.ceph_plan.specs.Placements.{AreGoals, AreRegions, IsPlacement, is_border}
use Rattle.ceph_plan.specs.Plans.{moved_inodes}
use Rattle.ceph_plan.specs.declared.plan.Planned.{Planned}
use Rattle.ceph_plan.proofs.Bounds.{greatest-same}
use Rattle.ceph_plan.proofs.HourSums.{max-same}

not-false : (b : Bool) → not b ≡ false → b ≡ true
not-false true is = refl
not-false false is = absurd (both_ways (not false) is refl)

pub region-step : (rows : List ProblemRow) (goals part part2 rank rank2 : List ℕ) (i next : ℕ) → IsForest rows → i < length rows → part2 ≡ part ++ next ∷ []
    → (starts (is_border rows goals) i ≡ true → next ≡ length rank) → (starts (is_border rows goals) i ≡ false → next ≡ slice_index part (parent_at rows i))
    → ((next ≡ length rank) × (rank2 ≡ rank ++ slice_index goals i ∷ [])) ⊎ ((next ≢ length rank) × (rank2 ≡ rank))
    → AreRegions rows goals i part rank → AreRegions rows goals (i + 1) part2 rank2
region-step rows goals part part2 rank rank2 i next forest here part2_is begins goes_on how old =
    let step = labelled_step rows (is_border rows goals) part part2 (length rank) i next forest here old.size part2_is begins goes_on old.labelled in
    let last : slice_index part2 i ≡ next =
    ap (λ (xs : List ℕ). slice_index xs i) part2_is ∙ (ap (slice_index (part ++ next ∷ [])) (sym old.size) ∙ slice_index-last part next) in
    let same : (j : ℕ) → j < i → slice_index part2 j ≡ slice_index part j =
    λ j l. ap (λ (xs : List ℕ). slice_index xs j) part2_is ∙ slice_index-push part next j (omega (arith, l, old.size)) in
    ⊎_elim
    (λ (new : (next ≡ length rank) × (rank2 ≡ rank ++ slice_index goals i ∷ [])).
    let longer : length rank2 ≡ length rank + 1 = ap length new.1 ∙ simp length-append (omega arith) in
    let count : max (length rank) (next + 1) ≡ length rank2 = omega (arith, longer, new.0) in
    record {
      size = step.0;
      few = omega (arith, longer, old.few);
      labelled = subst (λ (n : ℕ). IsLabelled rows (is_border rows goals) (slice_index part2) n (i + 1)) count step.1;
      ranks = λ j l.
          ⊎_elim
          (λ (this : j ≡ i).
          ap (λ (k : ℕ). slice_index rank2 (slice_index part2 k)) this
          ∙ (ap (slice_index rank2) (last ∙ new.0)
          ∙ (ap (λ (xs : List ℕ). slice_index xs (length rank)) new.1 ∙ (slice_index-last rank (slice_index goals i) ∙ ap (slice_index goals) (sym this)))))
          (λ (other : j ≢ i).
          let before : j < i = omega (arith, l, other) in
          ap (slice_index rank2) (same j before)
          ∙ (ap (λ (xs : List ℕ). slice_index xs (slice_index part j)) new.1
          ∙ (slice_index-push rank (slice_index goals i) (slice_index part j) (old.labelled.below j before) ∙ old.ranks j before)))
          (cases_eq j i);
    })
    (λ (old_one : (next ≢ length rank) × (rank2 ≡ rank)).
    let count : max (length rank) (next + 1) ≡ length rank2 = omega (arith, step.2, old_one.0, ap length old_one.1) in
    let on : starts (is_border rows goals) i ≡ false =
    ⊎_elim (λ (is : starts (is_border rows goals) i ≡ true). absurd (old_one.0 (begins is))) (λ (is : starts (is_border rows goals) i ≡ false). is)
    (cases_Bool (starts (is_border rows goals) i)) in
    let parts = or_parts (i == 0) (is_border rows goals i) on in
    let deep : i ≢ 0 = eqb-false i 0 parts.0 in
    let up : parent_at rows i < i = forest.above i (omega (arith, deep)) here in
    let alike : slice_index goals i ≡ slice_index goals (parent_at rows i) =
    eqb-true (slice_index goals i) (slice_index goals (parent_at rows i)) (not-false (slice_index goals i == slice_index goals (parent_at rows i)) parts.1) in
    record {
      size = step.0;
      few = omega (arith, ap length old_one.1, old.few);
      labelled = subst (λ (n : ℕ). IsLabelled rows (is_border rows goals) (slice_index part2) n (i + 1)) count step.1;
      ranks = λ j l.
          ⊎_elim
          (λ (this : j ≡ i).
          ap (λ (k : ℕ). slice_index rank2 (slice_index part2 k)) this
          ∙ (ap (slice_index rank2) (last ∙ goes_on on)
          ∙ (ap (λ (xs : List ℕ). slice_index xs (slice_index part (parent_at rows i))) old_one.1
          ∙ (old.ranks (parent_at rows i) up ∙ (sym alike ∙ ap (slice_index goals) (sym this))))))
          (λ (other : j ≢ i).
          let before : j < i = omega (arith, l, other) in
          ap (slice_index rank2) (same j before) ∙ (ap (λ (xs : List ℕ). slice_index xs (slice_index part j)) old_one.1 ∙ old.ranks j before))
          (cases_eq j i);
    })
    how

-- the loads where rows go to the same ranks
pub load-to : (hours : List Hour) (n r : ℕ) (to those : ℕ → ℕ) → ((i : ℕ) → i < n → to i ≡ those i) → load hours n to r ≡ load hours n those r
load-to hours n r to those same = max-same (length hours) (λ h. load_in hours n to h r) (λ h. load_in hours n those h r) (λ h l.
    ap (λ (x : ℕ). pinned_at hours h r + x)
    (sum_below-same n (λ i. cond (to i == r) (heat_in hours h i) 0) (λ i. cond (those i == r) (heat_in hours h i) 0)
    (λ i inside. ap (λ (x : ℕ). cond (x == r) (heat_in hours h i) 0) (same i inside))))

-- the parts with their ranks are a packing
pub regions-packing : (ranks : ℕ) (hours : List Hour) (rows : List ProblemRow) (goals : List ℕ) (plan : Planned) → 0 < length rows
    → AreGoals ranks (length rows) goals
    → AreRegions rows goals (length rows) plan.part.items plan.packing.rank.items → plan.count ≡ length plan.packing.rank.items
    → length plan.packing.load.items ≡ 64 → ((r : ℕ) → r < 64 → slice_index plan.packing.load.items r ≡ load hours (length rows) (slice_index goals) r)
    → plan.packing.greatest ≡ greatest_of ranks (slice_index plan.packing.load.items)
    → IsPacking ranks hours rows plan.part.items plan.count plan.packing
regions-packing ranks hours rows goals plan some are regions count size loads greatest =
    let to : ℕ → ℕ = packed_rank plan.packing.rank.items plan.part.items in
    let at : (r : ℕ) → r < 64 → slice_index plan.packing.load.items r ≡ load hours (length rows) to r =
    λ r l. loads r l ∙ load-to hours (length rows) r (slice_index goals) to (λ i inside. sym (regions.ranks i inside)) in
    record {
      size = sym count;
      usable = λ p l.
          let used = regions.labelled.all p (omega (arith, l, count)) in
          ap (has_rank ranks) (ap (slice_index plan.packing.rank.items) (sym used.2) ∙ regions.ranks used.0 used.1) ∙ are.usable used.0 used.1;
      root = regions.ranks 0 some ∙ are.root some;
      loads_size = size;
      loads = at;
      greatest = greatest ∙ greatest-same ranks (slice_index plan.packing.load.items) (load hours (length rows) to) at;
    }

pub regions-placed : (ranks : ℕ) (hours : List Hour) (rows : List ProblemRow) (goals : List ℕ) (plan : Planned) → IsForest rows
    → 0 < length rows → AreGoals ranks (length rows) goals
    → AreRegions rows goals (length rows) plan.part.items plan.packing.rank.items → plan.count ≡ length plan.packing.rank.items
    → length plan.packing.load.items ≡ 64 → ((r : ℕ) → r < 64 → slice_index plan.packing.load.items r ≡ load hours (length rows) (slice_index goals) r)
    → plan.packing.greatest ≡ greatest_of ranks (slice_index plan.packing.load.items)
    → plan.moved ≡ moved_inodes rows plan.part.items plan.packing.rank.items (length rows) → IsPlacement ranks hours rows plan
regions-placed ranks hours rows goals plan forest some are regions count size loads greatest moved =
    let parts = labelled_parts rows (is_border rows goals) (slice_index plan.part.items) (length plan.packing.rank.items) forest regions.labelled in
    record {
      forest = forest;
      size = regions.size;
      division = record { below = λ i l. omega (arith, count, parts.division.below i l); connected = parts.division.connected };
      packing = regions-packing ranks hours rows goals plan some are regions count size loads greatest;
      moved = moved;
    }
