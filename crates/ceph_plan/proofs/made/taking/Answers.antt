use Rattle.std.proofs.Common.{◌≡◌, ◌∙◌, ◌⊎◌, ◌↔◌, ◌<◌, ◌≤◌, ℕ, Bool, true, false, List}
use Rattle.std.proofs.Common.{ap, arith, get_or, length, length-append, inl, inr, refl, slice_index, sym, ⊎_elim}
use Rattle.std.proofs.lemmas.Bool.{both_ways}
use Rattle.mds_types.specs.declared.problem.ProblemRow.{ProblemRow}
use Rattle.mds_types.specs.Problem.{inodes_at}
use Rattle.ceph_plan.specs.MadeHours.{AreTotals, MayTake, heat_mark}
use Rattle.ceph_plan.proofs.Making.{may-take, must-take, taking-more, totals-same}
use Rattle.ceph_plan.proofs.PackedParts.{read-value}
use Rattle.ceph_plan.proofs.made.taking.Goals as goal
use Rattle.ceph_plan.proofs.made.taking.Goals.{then-free-i, else-free-i}

pub loop-i-preserved : goal.loop-i-preserved
loop-i-preserved c =
    let rows : List ProblemRow = c.args.rows.now in
    let free : List Bool = c.args.free.now in
    let heats : List ℕ = c.args.now.now.heats.items in
    let old : List Bool = c.loop-i.found.items in
    let new : List Bool = c.push.new.self.items in
    let hot : List ℕ = c.in_ok-hot.hot.items in
    let inodes : List ℕ = c.in_ok-inodes.inodes.items in
    let i : ℕ = c.loop-i.i in
    let inside : i < length rows = c.loop-i-test.true in
    let hot_are : AreTotals rows (heat_mark heats) (slice_index hot) =
    totals-same rows (slice_index c.deref-2.result.now) (heat_mark heats) (slice_index hot)
    (λ v l. ap (λ (xs : List ℕ). slice_index xs v) c.deref-2.ensures.value
    ∙ (c.in_ok-marks.ensures.marks v (omega (arith, l, ap length c.deref.ensures.value, c.requires.size))
    ∙ ap (λ (xs : List ℕ). heat_mark xs v) c.deref.ensures.value))
    c.in_ok-hot.ensures.totals in
    let inodes_are : AreTotals rows (inodes_at rows) (slice_index inodes) =
    totals-same rows (slice_index c.deref-3.result.now) (inodes_at rows) (slice_index inodes)
    (λ v l. ap (λ (xs : List ℕ). slice_index xs v) c.deref-3.ensures.value ∙ c.in_ok-all_inodes.ensures.inodes v l) c.in_ok-inodes.ensures.totals in
    let P : ℕ → Type 0 = λ d. (get_or free d false ≡ true) × MayTake rows heats d in
    let last : c.if-free-i.push ≡ true ↔ P i = elim c.if-free-i.branch [
      | then-free-i w ↦
          let hot_is : w.index.result.now ≡ slice_index hot i =
          read-value hot hot i w.index.result.now refl (omega (arith, inside, c.in_ok-hot.ensures.size)) w.index.ensures in
          let inodes_is : w.index-then-free-i.result.now ≡ slice_index inodes i =
          read-value inodes inodes i w.index-then-free-i.result.now refl (omega (arith, inside, c.in_ok-inodes.ensures.size)) w.index-then-free-i.ensures in
          let all_is : w.index-then-free-i-2.result.now ≡ slice_index inodes 0 =
          read-value inodes inodes 0 w.index-then-free-i-2.result.now refl (omega (arith, inside, c.in_ok-inodes.ensures.size))
          w.index-then-free-i-2.ensures in (
            λ (is : c.if-free-i.push ≡ true). (
              w.if-free-i.true,
              may-take rows heats (slice_index hot) (slice_index inodes) c.requires.forest hot_are inodes_are i inside
                  (⊎_elim (λ (some : 0 < w.index.result.now). inl (omega (arith, some, hot_is)))
                  (λ (rest : (1 < w.index-then-free-i.result.now) ⊎ (w.index-then-free-i-2.result.now ≤ length rows)).
                  inr (⊎_elim (λ (many : 1 < w.index-then-free-i.result.now). inl (omega (arith, many, inodes_is)))
                  (λ (none : w.index-then-free-i-2.result.now ≤ length rows). inr (omega (arith, none, all_is))) rest))
                  (w.may_take.ensures.0 (sym w.push-is ∙ is))),
            ),
            λ (p : P i).
                w.push-is
                ∙ w.may_take.ensures.1
                (⊎_elim (λ (some : 0 < slice_index hot i). inl (omega (arith, some, hot_is)))
                (λ (rest : (1 < slice_index inodes i) ⊎ (slice_index inodes 0 ≤ length rows)).
                inr (⊎_elim (λ (many : 1 < slice_index inodes i). inl (omega (arith, many, inodes_is)))
                (λ (none : slice_index inodes 0 ≤ length rows). inr (omega (arith, none, all_is))) rest))
                (must-take rows heats (slice_index hot) (slice_index inodes) c.requires.forest hot_are inodes_are i inside p.1)),
          )
      | else-free-i w ↦ (
        λ (is : c.if-free-i.push ≡ true). absurd (both_ways c.if-free-i.push (w.push-is ∙ w.if-free-i.false) is),
        λ (p : P i). absurd (both_ways (get_or free i false) w.if-free-i.false p.0),
      )
    ] in
    record {
      size = ap length c.in_ok-push.ensures.items ∙ simp length-append (omega (arith, c.loop-i.invariant.size));
      each = taking-more P old new i c.if-free-i.push c.in_ok-push.ensures.items c.loop-i.invariant.size c.loop-i.invariant.each last;
    }
