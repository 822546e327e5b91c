use Rattle.std.proofs.Common.{◌≡◌, ◌∙◌, ◌⊎◌, ◌*◌, ◌<◌, ◌≤◌, ℕ, Bool, List, ap, arith, length, length-set, refl, set, slice_index, ⊎_elim}
use Rattle.mds_types.specs.declared.problem.ProblemRow.{ProblemRow}
use Rattle.mds_types.specs.Problem.{inodes_at}
use Rattle.ceph_plan.specs.MadeHours.{AreTotals, IsLarge, IsWarm, heat_mark}
use Rattle.ceph_plan.proofs.Making.{decided-kept, decided-none, large, left-kept, left-set, neither, totals-same, warm}
use Rattle.ceph_plan.proofs.PackedParts.{read-value}
use Rattle.ceph_plan.proofs.made.worth.Goals as goal
use Rattle.ceph_plan.proofs.made.worth.Goals.{then-not-may_make, else-not-may_make}

pub loop-i-preserved : goal.loop-i-preserved
loop-i-preserved c =
    let rows : List ProblemRow = c.args.rows.now in
    let free : List Bool = c.args.free.now in
    let heats : List ℕ = c.args.now.now.heats.items in
    let old : List ℕ = c.loop-i.worth.items in
    let new : List ℕ = c.if-not-may_make.worth.items in
    let hot : List ℕ = c.in_ok-hot.hot.items in
    let inodes : List ℕ = c.in_ok-inodes.inodes.items in
    let i : ℕ = c.loop-i.i in
    let inside : i < length rows = c.loop-i-test.true in
    let hot_is : c.index.result.now ≡ slice_index hot i =
    read-value hot hot i c.index.result.now refl (omega (arith, inside, c.in_ok-hot.ensures.size)) c.index.ensures in
    let inodes_is : c.index-in-loop-i.result.now ≡ slice_index inodes i =
    read-value inodes inodes i c.index-in-loop-i.result.now refl (omega (arith, inside, c.in_ok-inodes.ensures.size)) c.index-in-loop-i.ensures in
    let all_is : c.index-in-loop-i-2.result.now ≡ slice_index inodes 0 =
    read-value inodes inodes 0 c.index-in-loop-i-2.result.now refl (omega (arith, inside, c.in_ok-inodes.ensures.size)) c.index-in-loop-i-2.ensures in
    let hot_are : AreTotals rows (heat_mark heats) (slice_index hot) =
    totals-same rows (slice_index c.deref-2.result.now) (heat_mark heats) (slice_index hot)
    (λ v l. ap (λ (xs : List ℕ). slice_index xs v) c.deref-2.ensures.value
    ∙ (c.in_ok-marks.ensures.marks v (omega (arith, l, ap length c.deref.ensures.value, c.requires.size))
    ∙ ap (λ (xs : List ℕ). heat_mark xs v) c.deref.ensures.value))
    c.in_ok-hot.ensures.totals in
    let inodes_are : AreTotals rows (inodes_at rows) (slice_index inodes) =
    totals-same rows (slice_index c.deref-3.result.now) (inodes_at rows) (slice_index inodes)
    (λ v l. ap (λ (xs : List ℕ). slice_index xs v) c.deref-3.ensures.value ∙ c.in_ok-all_inodes.ensures.inodes v l) c.in_ok-inodes.ensures.totals in
    elim c.if-not-may_make.branch [
      | then-not-may_make w ↦
          let no = c.may_make.ensures.no w.if-not-may_make.true in
          let set_is : new ≡ set old i 0 = rw w.worth-is refl in
          let never : ¬ (IsWarm rows heats i ⊎ IsLarge rows i) =
          neither rows heats (slice_index hot) (slice_index inodes) c.requires.forest hot_are inodes_are i inside
          (omega (arith, hot_is, no.0)) (omega (arith, inodes_is, all_is, no.1)) in
          record {
            size = ap length set_is ∙ (length-set old i 0 ∙ c.loop-i.invariant.size);
            done = decided-none rows free heats old new i set_is (omega (arith, inside, c.loop-i.invariant.size)) never c.loop-i.invariant.done;
            left = left-set rows free heats old new i set_is c.loop-i.invariant.left;
          }
      | else-not-may_make w ↦
          let same : new ≡ old = rw w.worth-is refl in
          let why : IsWarm rows heats i ⊎ IsLarge rows i =
          ⊎_elim (λ (some : 0 < c.index.result.now).
          warm rows heats (slice_index hot) (slice_index inodes) c.requires.forest hot_are inodes_are i inside (omega (arith, some, hot_is)))
          (λ (many : c.index-in-loop-i-2.result.now ≤ c.index-in-loop-i.result.now * 50).
          large rows heats (slice_index hot) (slice_index inodes) c.requires.forest hot_are inodes_are i inside (omega (arith, many, inodes_is, all_is)))
          (c.may_make.ensures.yes w.if-not-may_make.false) in
          record {
            size = ap length same ∙ c.loop-i.invariant.size;
            done = decided-kept rows free heats old new i same inside why c.loop-i.invariant.done c.loop-i.invariant.left;
            left = left-kept rows free heats old new i same c.loop-i.invariant.left;
          }
    ]
