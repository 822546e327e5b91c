use Rattle.std.proofs.Common.{◌≡◌, ◌<◌, ◌≤◌, ◌+◌, ◌++◌, ◌∷◌, [], ◌∙◌, ℕ, Bool, List}
use Rattle.std.proofs.Common.{Option, Some, length, slice_get, slice_index, suc-le-suc, ap, refl, sym, subst, arith}
use Rattle.std.specs.Option.{option_map_or}
use Rattle.std.specs.Vec.{vec_len}
use Rattle.std.proofs.Math.Nat.{le_trans}
use Rattle.std.proofs.lemmas.List.{get_or_read, length_push}
use Rattle.std.proofs.lemmas.Option.{slice_get_read}
use Rattle.ceph_snapshot.specs.declared.directory.Directory.{Directory}
use Rattle.ceph_folding.specs.Folding.{kept_below}
use Rattle.ceph_snapshot.specs.Holding.{parent_at, is_marked}
use Rattle.ceph_folding.proofs.Keys.{parent_le}
use Rattle.ceph_snapshot.proofs.Adding.{values_more}
use Rattle.ceph_folding.proofs.folding.new_parents.Goals as goal

pub index-requires : goal.index-requires
index-requires c =
    let ds : List Directory = c.args.directories.now in
    let at : ℕ = c.loop-at.at in
    let inside : at < length ds = c.loop-at-test.true in
    let read : slice_get ds at ≡ Some c.index-directories-at.result =
    slice_get_read ds (length ds) at c.index-directories-at.result refl inside c.index-directories-at.is in
    let up : c.index-directories-at.result.parent ≤ at =
    subst (λ (o : Option Directory). option_map_or (λ (one : Directory). one.parent) o 0 ≤ at) read (parent_le ds at c.requires.first inside) in
    let size : length ds ≡ vec_len c.in_ok-places.places = sym (c.in_ok-places.places.ok.0 ∙ (c.in_ok-places.ensures.size ∙ c.requires.size)) in
    let home : slice_index c.args.homes.now c.index-directories-at.result.parent < length ds =
    c.requires.inside c.index-directories-at.result.parent (le_trans (suc-le-suc up) inside) in
    subst (λ (n : ℕ). slice_index c.args.homes.now c.index-directories-at.result.parent < n) size home

pub loop-at-preserved : goal.loop-at-preserved
loop-at-preserved c =
    let ds : List Directory = c.args.directories.now in
    let gone : List Bool = c.args.gone.now in
    let homes : List ℕ = c.args.homes.now in
    let places : List ℕ = c.in_ok-places.places.items in
    let parents : List ℕ = c.loop-at.parents.items in
    let at : ℕ = c.loop-at.at in
    let new : ℕ → ℕ = λ i. kept_below (is_marked gone) (slice_index homes (parent_at ds i)) in
    let place : ℕ = c.index.result.now in
    let pushed : c.push.new.self.items ≡ parents ++ place ∷ [] = c.in_ok-push.ensures.items in
    let inside : at < length ds = omega arith in
    let read : slice_get ds at ≡ Some c.index-directories-at.result =
    slice_get_read ds (length ds) at c.index-directories-at.result refl inside c.index-directories-at.is in
    let above : parent_at ds at ≡ c.index-directories-at.result.parent =
    ap (λ (o : Option Directory). option_map_or (λ (one : Directory). one.parent) o 0) read in
    let up : parent_at ds at ≤ at = parent_le ds at c.requires.first inside in
    let home : slice_index homes (parent_at ds at) < length ds = c.requires.inside (parent_at ds at) (omega (arith, up, inside)) in
    let marked : slice_index homes (parent_at ds at) < length gone = omega (arith, home, c.requires.size) in
    let there : slice_index homes c.index-directories-at.result.parent < length places =
    subst (λ (k : ℕ). slice_index homes k < length places) above (omega (arith, marked, c.in_ok-places.ensures.size)) in
    let here : place ≡ new at =
    get_or_read places _ _ there c.index.ensures 0
    ∙ ap (λ (k : ℕ). slice_index places (slice_index homes k)) (sym above)
    ∙ c.in_ok-places.ensures.places (slice_index homes (parent_at ds at)) marked in
    record {
      size = ap length pushed ∙ (length_push parents place ∙ ap (λ (n : ℕ). n + 1) c.loop-at.invariant.size);
      parents = subst (λ (xs : List ℕ). (i : ℕ) → i < at + 1 → slice_index xs i ≡ new i) (sym pushed)
          (values_more 0 new parents place at c.loop-at.invariant.size c.loop-at.invariant.parents here);
    }
