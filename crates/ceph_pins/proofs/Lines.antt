-- Texts that grow line by line.
use Rattle.std.proofs.Common.{◌≡◌, ◌∙◌, ◌==◌, ◌<◌, ◌+◌, ℕ, Bool, zero, suc, false, true, List}
use Rattle.std.proofs.Common.{[], ◌∷◌, ◌++◌, Option, get_or, length, take, slice_get, refl, ap, sym, arith}
use Rattle.std.specs.Prelude.{if◌then◌else◌}
use Rattle.std.specs.List.{flat_map}
use Rattle.std.proofs.lemmas.Bool.{both_ways}
use Rattle.std.proofs.lemmas.List.{flat_map_more, take_more}
use Rattle.std.proofs.lemmas.List.Elements.{All-append}
use Rattle.ceph_plan.specs.declared.row.PinChange.{PinChange}
use Rattle.ceph_snapshot.specs.declared.directory.Directory.{Directory}
use Rattle.ceph_pins.specs.OwnList.{pin_line_of, own_lines}
use Rattle.ceph_pins.specs.PinsScript.{HasNoNul, change_line, needs_ceph, needs_mount, pins_script, variable_lines}
use Rattle.ceph_pins.specs.declared.pins_script.TheConstants.{HEAD, CHECKS, CEPH, FOOT}

-- one more element's text
pub more_lines : {A : Type 0} (f : A → List ℕ) (old before after : List ℕ) (xs : List A) (i : ℕ) (d : A) → i < length xs
    → before ≡ old ++ flat_map f (take i xs) → after ≡ before ++ f (get_or xs i d) → after ≡ old ++ flat_map f (take (i + 1) xs)
more_lines {A} f old before after xs i d inside before_is after_is =
    after_is
    ∙ (ap (λ (text : List ℕ). text ++ f (get_or xs i d)) before_is
    ∙ (flat_map_more f old (take i xs) (get_or xs i d)
    ∙ ap (λ (those : List A). old ++ flat_map f those) (sym (take_more xs i d inside))))

-- the script of some changes
pub script_of : (mount name fsid : List ℕ) (by_ceph : Bool) (directories : List Directory) (changes : List PinChange) → (length changes == 0) ≡ false
    → HEAD.now ++ variable_lines mount name fsid ++ (if needs_mount by_ceph directories changes then CHECKS.now else [])
    ++ (if needs_ceph by_ceph directories changes then CEPH.now else [])
    ++ flat_map (change_line mount by_ceph directories) changes ++ FOOT.now
    ≡ pins_script mount name fsid by_ceph directories changes
script_of mount name fsid by_ceph directories [] some = absurd (both_ways true some refl)
script_of mount name fsid by_ceph directories (change ∷ changes) some = refl

-- a place without a NUL
pub place_no_nul : (mount path place : List ℕ) → place ≡ mount ++ path → HasNoNul mount → HasNoNul path → HasNoNul place
place_no_nul mount path place is fine others = rw is (All-append (λ byte. 0 < byte) mount path fine others)

-- the lines of the same pins
pub own_lines_same : (directories : List Directory) (f g : ℕ → Option ℕ) (n : ℕ) → ((i : ℕ) → i < n → f i ≡ g i)
    → own_lines directories f n ≡ own_lines directories g n
own_lines_same directories f g zero same = refl
own_lines_same directories f g (suc n) same =
    ap (λ (pin : Option ℕ). pin_line_of pin (slice_get directories n) ++ own_lines directories f n) (same n (omega arith))
    ∙ ap (λ (text : List ℕ). pin_line_of (g n) (slice_get directories n) ++ text) (own_lines_same directories f g n (λ i l. same i (omega (arith, l))))
