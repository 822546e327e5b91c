-- What is left comes after its parents.
use Rattle.std.proofs.Common.{◌≡◌, ◌<◌, ◌≤◌, ◌+◌, ◌∙◌, ◌⊎◌, ◌∷◌, [], ℕ, zero, suc, Bool, true, false, List, length, slice_get, Option, Some, None}
use Rattle.std.proofs.Common.{ap, arith, inl, inr, is_some, ⊎_elim, refl, subst}
use Rattle.std.specs.Option.{option_map, option_map_or}
use Rattle.std.proofs.lemmas.Bool.{cases_Bool, false≢true}
use Rattle.std.proofs.lemmas.Bool.Decides.{nat_tests}
use Rattle.std.specs.Prelude.{nat_lt}
use Rattle.ceph_snapshot.specs.declared.directory.Directory.{Directory}
use Rattle.ceph_snapshot.specs.Holding.{AreParentsFirst, climb, parent_at}
use Rattle.ceph_folding.specs.Folding.{HasLeft, IsHome, kept_below, with_amounts}
use Rattle.ceph_folding.proofs.Folds.{kept_lt, kept_more, kept_same}
use Rattle.ceph_folding.proofs.Keys.{parent_le}
use Rattle.ceph_folding.proofs.StillKept.{ArePlain, root-stays}

-- what is above a directory comes no later
climb_le : (ds : List Directory) (steps i : ℕ) → AreParentsFirst ds → i < length ds → climb ds steps i ≤ i
climb_le ds zero i first inside = omega arith
climb_le ds (suc steps) i first inside =
    let up : parent_at ds i ≤ i = parent_le ds i first inside in
    omega (arith, up, climb_le ds steps (parent_at ds i) first (omega (arith, up, inside)))

home_le : (ds : List Directory) (gone : ℕ → Bool) (i home : ℕ) → AreParentsFirst ds → i < length ds → IsHome ds gone i home → home ≤ i
home_le ds gone i home first inside is = omega (arith, is.there, climb_le ds is.steps i first inside)

-- the kept directory at a new place
kept_found : (gone : ℕ → Bool) (n place : ℕ) → place < kept_below gone n → (i : ℕ) × (i < n) × (gone i ≡ false) × (kept_below gone i ≡ place)
kept_found gone zero place inside = absurd (omega (arith, inside))
kept_found gone (suc n) place inside =
    ⊎_elim (λ (before : nat_lt place (kept_below gone n) ≡ true).
    let found = kept_found gone n place (grind (arith, nat_tests)) in
    (found.0, omega (arith, found.1), found.2, found.3))
    (λ (behind : nat_lt place (kept_below gone n) ≡ false).
    let past : kept_below gone n ≤ place = grind (arith, nat_tests) in
    let next : suc n ≡ n + 1 = omega arith in
    let more : place < kept_below gone (n + 1) = subst (λ (m : ℕ). place < kept_below gone m) next inside in
    ⊎_elim (λ (goes : gone n ≡ true). absurd (omega (arith, more, past, kept_same gone n goes)))
    (λ (stays : gone n ≡ false). (n, omega arith, stays, omega (arith, more, past, kept_more gone n stays)))
    (cases_Bool (gone n)))
    (cases_Bool (nat_lt place (kept_below gone n)))

-- its new parent
some_within : (ds : List Directory) (i : ℕ) → i < length ds → is_some (slice_get ds i) ≡ true
some_within [] i inside = absurd (omega (arith, inside))
some_within (d ∷ ds) zero inside = refl
some_within (d ∷ ds) (suc i) inside = some_within ds i (omega (arith, inside))

parent_with : (o : Option Directory) (p h w m : ℕ) → is_some o ≡ true
    → option_map_or (λ (d : Directory). d.parent) (option_map (with_amounts p h w m) o) 0 ≡ p
parent_with None p h w m is = absurd (false≢true is)
parent_with (Some d) p h w m is = refl

new_parent : (ds left : List Directory) (gone : ℕ → Bool) (home : ℕ → ℕ) (i : ℕ) → HasLeft ds left gone home → i < length ds → gone i ≡ false
    → parent_at left (kept_below gone i) ≡ kept_below gone (home (parent_at ds i))
new_parent ds left gone home i has inside stays =
    ap (λ (o : Option Directory). option_map_or (λ (d : Directory). d.parent) o 0) (has.kept i inside stays)
    ∙ parent_with (slice_get ds i) (kept_below gone (home (parent_at ds i))) _ _ _ (some_within ds i inside)

-- where only plain directories are gone
root_first : (ds left : List Directory) (gone : ℕ → Bool) (home : ℕ → ℕ) → AreParentsFirst ds → ArePlain ds gone → HasLeft ds left gone home
    → 0 < length ds → parent_at left 0 ≡ 0
root_first ds left gone home first plain has some =
    let up : parent_at ds 0 ≡ 0 = first.root in
    let inside : parent_at ds 0 < length ds = omega (arith, up, some) in
    let low : home (parent_at ds 0) ≤ parent_at ds 0 =
    home_le ds gone (parent_at ds 0) (home (parent_at ds 0)) first inside (has.nearest (parent_at ds 0) inside) in
    let zeroth : home (parent_at ds 0) ≡ 0 = omega (arith, low, up) in
    new_parent ds left gone home 0 has some (root-stays ds gone plain some) ∙ ap (kept_below gone) zeroth

above_first : (ds left : List Directory) (gone : ℕ → Bool) (home : ℕ → ℕ) (place : ℕ) → AreParentsFirst ds → HasLeft ds left gone home
    → 0 < place → place < length left → parent_at left place < place
above_first ds left gone home place first has some within =
    let found = kept_found gone (length ds) place (omega (arith, within, has.size)) in
    let i : ℕ = found.0 in
    let inside : i < length ds = found.1 in
    let later : 0 < i = not_zero gone i place found.3 some in
    let up : parent_at ds i < i = first.above i later inside in
    let there : parent_at ds i < length ds = omega (arith, up, inside) in
    let near = has.nearest (parent_at ds i) there in
    let low : home (parent_at ds i) ≤ parent_at ds i = home_le ds gone (parent_at ds i) (home (parent_at ds i)) first there near in
    let before : home (parent_at ds i) < i = omega (arith, up, low) in
    let less : kept_below gone (home (parent_at ds i)) < kept_below gone i = kept_lt gone (home (parent_at ds i)) i before near.kept in
    let parent : parent_at left (kept_below gone i) ≡ kept_below gone (home (parent_at ds i)) = new_parent ds left gone home i has inside found.2 in
    subst (λ (k : ℕ). parent_at left k < k) found.3 (omega (arith, less, parent))
  where
    not_zero : (gone : ℕ → Bool) (i place : ℕ) → kept_below gone i ≡ place → 0 < place → 0 < i
    not_zero gone zero place is some = omega (arith, is, some)
    not_zero gone (suc i) place is some = omega arith

pub first_left : (ds left : List Directory) (gone : ℕ → Bool) (home : ℕ → ℕ) → AreParentsFirst ds → ArePlain ds gone → HasLeft ds left gone home
    → AreParentsFirst left
first_left ds left gone home first plain has =
    record {
      root = ⊎_elim (λ (none : length ds ≡ 0). root_of_none ds left none (has.size ∙ ap (kept_below gone) none))
          (λ (some : 0 < length ds). root_first ds left gone home first plain has some) (none_or_some (length ds));
      above = λ place some within. above_first ds left gone home place first has some within;
    }
  where
    none_or_some : (n : ℕ) → (n ≡ 0) ⊎ (0 < n)
    none_or_some zero = inl refl
    none_or_some (suc n) = inr (omega arith)

    root_of_none : (ds left : List Directory) → length ds ≡ 0 → length left ≡ 0 → parent_at left 0 ≡ 0
    root_of_none ds [] none is = refl
    root_of_none ds (d ∷ left) none is = absurd (omega (arith, is))
