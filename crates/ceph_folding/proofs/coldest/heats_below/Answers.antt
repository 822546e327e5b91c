use Rattle.std.proofs.Common.{arith, inl, ◌≡◌, ◌<◌, ◌≤◌, ◌+◌, ◌-◌, ◌∙◌, ℕ, Global, List}
use Rattle.std.proofs.Common.{Option, Some, Vec, ap, get_or, length, length-set, slice_get, slice_index, subst, sym}
use Rattle.std.specs.Option.{option_map_or}
use Rattle.std.specs.Vec.{vec_len}
use Rattle.std.proofs.Math.Nat.{le_refl, lt_trans}
use Rattle.std.proofs.lemmas.List.{get_or_read}
use Rattle.std.proofs.lemmas.Option.{slice_get-get_or}
use Rattle.ceph_snapshot.specs.declared.directory.Directory.{Directory}
use Rattle.ceph_folding.specs.Folding.{IsCappedSum, of_children}
use Rattle.ceph_snapshot.specs.Holding.{heat_at, parent_at}
use Rattle.ceph_snapshot.proofs.Adding.{add-back, before-inside}
use Rattle.ceph_folding.proofs.HeatBelow.{below-more, none-below, parent-inside, rise-more}
use Rattle.ceph_folding.proofs.coldest.heats_below.Goals as goal

-- the places that are read are inside
inside-heats : (heats : Vec ℕ Global) (n i : ℕ) → length heats.items ≡ n → i < n → i < vec_len heats
inside-heats heats n i size inside = subst (λ (m : ℕ). i < m) (sym (heats.ok.0 ∙ size)) inside

pub index-requires : goal.index-requires
index-requires c =
    inside-heats c.loop-at.heats (length c.args.directories.now) _ c.loop-at.invariant.size
    (parent-inside c.args.directories.now c.loop-at.at c.index-directories-at.result c.requires c.loop-at-test.true c.loop-at.auto.at)

pub index-requires-in-loop-at : goal.index-requires-in-loop-at
index-requires-in-loop-at c =
    inside-heats c.loop-at.heats (length c.args.directories.now) (c.loop-at.at - 1) c.loop-at.invariant.size
    (before-inside c.loop-at.at (length c.args.directories.now) c.loop-at-test.true c.loop-at.auto.at).1

pub index_mut-requires : goal.index_mut-requires
index_mut-requires c =
    inside-heats c.loop-at.heats (length c.args.directories.now) _ c.loop-at.invariant.size
    (parent-inside c.args.directories.now c.loop-at.at c.index-directories-at.result c.requires c.loop-at-test.true c.loop-at.auto.at)

pub loop-at-preserved : goal.loop-at-preserved
loop-at-preserved c =
    let ds : List Directory = c.args.directories.now in
    let heats : List ℕ = c.loop-at.heats.items in
    let at : ℕ = c.loop-at.at - 1 in
    let above : ℕ = (get_or ds at c.index-directories-at.result).parent in
    let inside : at < length ds = (before-inside c.loop-at.at (length ds) c.loop-at-test.true c.loop-at.auto.at).1 in
    let read : slice_get ds at ≡ Some (get_or ds at c.index-directories-at.result) = slice_get-get_or ds at c.index-directories-at.result inside in
    let parent : above ≡ parent_at ds at = sym (ap (λ (o : Option Directory). option_map_or (λ (one : Directory). one.parent) o 0) read) in
    let up : above < at = subst (λ (n : ℕ). n < at) (sym parent)
    (c.requires.above at (before-inside c.loop-at.at (length ds) c.loop-at-test.true c.loop-at.auto.at).0 inside) in
    let long : length ds ≡ length heats = sym c.loop-at.invariant.size in
    let child_in : at < length heats = subst (λ (n : ℕ). at < n) long inside in
    let above_in : above < length heats = lt_trans up child_in in
    let both : (c.index.result.now ≤ c.saturating_add.result) × (c.index-in-loop-at.result.now ≤ c.saturating_add.result) =
    (omega (arith, c.saturating_add.ensures), omega (arith, c.saturating_add.ensures)) in
    record {
      size = length-set heats above c.saturating_add.result ∙ c.loop-at.invariant.size;
      some = λ some. (before-inside c.loop-at.at (length ds) c.loop-at-test.true c.loop-at.auto.at).0;
      sums = below-more ds heats at above c.saturating_add.result c.loop-at.invariant.size inside parent up
          (omega (
            arith,
            c.saturating_add.ensures,
            get_or_read heats above c.index.result.now above_in c.index.ensures 0,
            get_or_read heats at c.index-in-loop-at.result.now child_in c.index-in-loop-at.ensures 0,
          ))
          (λ i l. subst (λ (k : ℕ). IsCappedSum (slice_index heats i) (heat_at ds i + of_children ds (slice_index heats) k i))
          (sym (add-back c.loop-at.at c.loop-at-test.true)) (c.loop-at.invariant.sums i l));
      rise = rise-more ds heats at above c.saturating_add.result above_in parent up
          (subst (λ (n : ℕ). n ≤ c.saturating_add.result) (get_or_read heats above c.index.result.now above_in c.index.ensures 0) both.0)
          (subst (λ (n : ℕ). n ≤ c.saturating_add.result) (get_or_read heats at c.index-in-loop-at.result.now child_in c.index-in-loop-at.ensures 0) both.1)
          (λ i some low. c.loop-at.invariant.rise i some (subst (λ (n : ℕ). n ≤ i) (add-back c.loop-at.at c.loop-at-test.true) low));
    }

pub loop-at-init : goal.loop-at-init
loop-at-init c = record {
  size = c.in_ok-heats.ensures.size;
  sums = λ i l. inl (omega (
    arith,
    c.in_ok-heats.ensures.heats i l,
    none-below c.args.directories.now (slice_index c.in_ok-heats.heats.items) (length c.args.directories.now) i
        (le_refl (length c.args.directories.now)),
  ));
  some = λ some. some;
  rise = λ i some low l. absurd (omega (arith, low, l));
}

pub returns-clause-heats : goal.returns-clause-heats
returns-clause-heats c = λ i l.
    subst (λ (k : ℕ). IsCappedSum (slice_index c.loop-at.heats.items i)
    (heat_at c.args.directories.now i + of_children c.args.directories.now (slice_index c.loop-at.heats.items) k i))
    (omega (arith, c.loop-at-test.false, c.loop-at.invariant.some (omega (arith, l)))) (c.loop-at.invariant.sums i l)
