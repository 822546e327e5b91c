use Rattle.std.proofs.Common.{◌≡◌, ◌<◌, ◌+◌, ◌++◌, ◌∷◌, [], ℕ, Bool, List, Option, Some, length, slice_get, slice_index, ap, sym, ◌∙◌, refl, subst, arith}
use Rattle.std.specs.Option.{option_map_or}
use Rattle.std.proofs.lemmas.List.{get_or_read, length_push}
use Rattle.std.proofs.lemmas.Option.{slice_get_read}
use Rattle.ceph_snapshot.specs.declared.directory.Directory.{Directory}
use Rattle.ceph_folding.specs.Folding.{IsHome}
use Rattle.ceph_snapshot.specs.Holding.{parent_at, is_marked}
use Rattle.ceph_folding.proofs.Folds.{home_above, home_here, homes_more, inside_more, later}
use Rattle.ceph_folding.proofs.folding.homes.Goals as goal
use Rattle.ceph_folding.proofs.folding.homes.Goals.{then-gone-at, else-gone-at}

pub index-requires : goal.index-requires
index-requires c =
    let inside : c.loop-at.at < length c.args.directories.now = c.loop-at-test.true in
    let some : 0 < c.loop-at.at = later c.args.gone.now c.loop-at.at c.requires.root c.if-gone-at.true in
    let read : slice_get c.args.directories.now c.loop-at.at ≡ Some c.index-directories-at.result =
    slice_get_read c.args.directories.now (length c.args.directories.now) c.loop-at.at c.index-directories-at.result refl inside c.index-directories-at.is in
    let up : c.index-directories-at.result.parent < c.loop-at.at =
    subst (λ (o : Option Directory). option_map_or (λ (one : Directory). one.parent) o 0 < c.loop-at.at) read
    (c.requires.first.above c.loop-at.at some inside) in
    subst (λ (n : ℕ). c.index-directories-at.result.parent < n) (sym (c.loop-at.homes.ok.0 ∙ c.loop-at.invariant.size)) up

pub loop-at-preserved : goal.loop-at-preserved
loop-at-preserved c =
    let ds : List Directory = c.args.directories.now in
    let gone : List Bool = c.args.gone.now in
    let homes : List ℕ = c.loop-at.homes.items in
    let at : ℕ = c.loop-at.at in
    let home : ℕ = c.if-gone-at.home in
    let pushed : c.push.new.self.items ≡ homes ++ home ∷ [] = c.in_ok-push.ensures.items in
    let inside : at < length ds = omega arith in
    let read : slice_get ds at ≡ Some c.index-directories-at.result =
    slice_get_read ds (length ds) at c.index-directories-at.result refl inside c.index-directories-at.is in
    let parent : parent_at ds at ≡ c.index-directories-at.result.parent =
    ap (λ (o : Option Directory). option_map_or (λ (one : Directory). one.parent) o 0) read in
    let found : IsHome ds (is_marked gone) at home × (home < at + 1) = elim c.if-gone-at.branch [
      | then-gone-at w ↦
          let some : 0 < at = later gone at c.requires.root w.if-gone-at.true in
          let up : parent_at ds at < at = c.requires.first.above at some inside in
          let there : c.index-directories-at.result.parent < length homes = omega (arith, up, parent, c.loop-at.invariant.size) in
          let is : home ≡ slice_index homes (parent_at ds at) = w.home-is
          ∙ (get_or_read homes _ _ there w.index.ensures 0 ∙ ap (slice_index homes) (sym parent)) in (
            home_above ds (is_marked gone) at home w.if-gone-at.true
                (subst (λ (h : ℕ). IsHome ds (is_marked gone) (parent_at ds at) h) (sym is)
                (c.loop-at.invariant.homes (parent_at ds at) up)),
            omega (arith, is, up, c.loop-at.invariant.inside (parent_at ds at) up),
          )
      | else-gone-at w ↦
          (subst (λ (h : ℕ). IsHome ds (is_marked gone) at h) (sym w.home-is) (home_here ds (is_marked gone) at w.if-gone-at.false), omega (arith, w.home-is))
    ] in
    record {
      size = ap length pushed ∙ (length_push homes home ∙ ap (λ (n : ℕ). n + 1) c.loop-at.invariant.size);
      inside = subst (λ (hs : List ℕ). (i : ℕ) → i < at + 1 → slice_index hs i < at + 1) (sym pushed)
          (inside_more homes home at c.loop-at.invariant.size c.loop-at.invariant.inside found.1);
      homes = subst (λ (hs : List ℕ). (i : ℕ) → i < at + 1 → IsHome ds (is_marked gone) i (slice_index hs i)) (sym pushed)
          (homes_more ds (is_marked gone) homes home at c.loop-at.invariant.size c.loop-at.invariant.homes found.0);
    }
