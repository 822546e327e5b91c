-- What may not be pinned stays when others are folded.
use Rattle.std.proofs.Common.{◌≡◌, ◌<◌, ◌||◌, ◌∙◌, ℕ, Bool, true, false, List, [], length, slice_get, Option, Some, None, is_some, ap, arith, ⊎_elim, refl}
use Rattle.std.specs.Option.{option_map, option_map_or}
use Rattle.std.proofs.lemmas.Bool.{both_ways, cases_Bool, or_parts}
use Rattle.ceph_snapshot.specs.declared.directory.Directory.{Directory}
use Rattle.ceph_folding.specs.Folding.{AreUnitsLeft, HasLeft, IsFolded, IsPlain, StillKept as Kept, folded, kept_below, with_amounts}
use Rattle.ceph_snapshot.specs.Holding.{is_kept_at, is_spread_at, pin_at}
use Rattle.ceph_snapshot.specs.Policies.{IsLeftKept, KeepUnpinnable, StillKeepUnpinnable}
use Rattle.ceph_folding.proofs.Folds.{kept_lt}

-- only plain directories are gone
abbrev pub ArePlain : List Directory → (ℕ → Bool) → Type 0
ArePlain ds gone = (i : ℕ) → i < length ds → gone i ≡ true → IsPlain ds i

-- one that may not be pinned isn't plain
kept-stays : (ds : List Directory) (gone : ℕ → Bool) (i : ℕ) → ArePlain ds gone → i < length ds → is_kept_at ds i ≡ true → gone i ≡ false
kept-stays ds gone i are inside kept =
    ⊎_elim (λ (goes : gone i ≡ true).
    let free = (are i inside goes).free in
    let fixed = (or_parts (is_some (pin_at ds i)) (is_spread_at ds i || is_kept_at ds i) free).1 in
    absurd (both_ways (is_kept_at ds i) (or_parts (is_spread_at ds i) (is_kept_at ds i) fixed).1 kept))
    (λ (stays : gone i ≡ false). stays)
    (cases_Bool (gone i))

-- the root stays, as it isn't plain
pub root-stays : (ds : List Directory) (gone : ℕ → Bool) → ArePlain ds gone → 0 < length ds → gone 0 ≡ false
root-stays ds gone are some =
    ⊎_elim (λ (goes : gone 0 ≡ true).
    let below = (are 0 some goes).below in
    let none : ⊥ = omega (arith, below) in absurd none)
    (λ (stays : gone 0 ≡ false). stays)
    (cases_Bool (gone 0))

path-same : (o : Option Directory) (p h w m : ℕ) → option_map_or (λ (d : Directory). d.path.items) (option_map (with_amounts p h w m) o) []
    ≡ option_map_or (λ (d : Directory). d.path.items) o []
path-same None p h w m = refl
path-same (Some d) p h w m = refl

policy-same : (o : Option Directory) (p h w m : ℕ)
    → option_map_or (λ (d : Directory). d.policy) (option_map (with_amounts p h w m) o) None
    ≡ option_map_or (λ (d : Directory). d.policy) o None
policy-same None p h w m = refl
policy-same (Some d) p h w m = refl

doubt-same : (o : Option Directory) (p h w m : ℕ) → option_map_or (λ (d : Directory). d.is_doubtful) (option_map (with_amounts p h w m) o)
    false ≡ option_map_or (λ (d : Directory). d.is_doubtful) o false
doubt-same None p h w m = refl
doubt-same (Some d) p h w m = refl

kept-same : (o : Option Directory) (p h w m : ℕ) → option_map_or (λ (d : Directory). d.is_kept) (option_map (with_amounts p h w m) o) false
    ≡ option_map_or (λ (d : Directory). d.is_kept) o false
kept-same None p h w m = refl
kept-same (Some d) p h w m = refl

left-kept : (ds left : List Directory) (gone : ℕ → Bool) (home : ℕ → ℕ) (i : ℕ) → ArePlain ds gone → HasLeft ds left gone home → 0 < i → i < length ds
    → is_kept_at ds i ≡ true → IsLeftKept ds left i
left-kept ds left gone home i are has later inside kept =
    let stays : gone i ≡ false = kept-stays ds gone i are inside kept in
    let root : kept_below gone 0 < kept_below gone i = kept_lt gone 0 i later (root-stays ds gone are (omega (arith, later, inside))) in
    let past : kept_below gone i < kept_below gone (length ds) = kept_lt gone i (length ds) inside stays in
    let is : slice_get left (kept_below gone i) ≡ folded ds gone home i = has.kept i inside stays in
    record {
      place = kept_below gone i;
      below = omega (arith, root);
      inside = omega (arith, past, has.size);
      path = ap (λ (o : Option Directory). option_map_or (λ (d : Directory). d.path.items) o []) is ∙ path-same (slice_get ds i) _ _ _ _;
      policy = ap (λ (o : Option Directory). option_map_or (λ (d : Directory). d.policy) o None) is ∙ policy-same (slice_get ds i) _ _ _ _;
      doubtful = ap (λ (o : Option Directory). option_map_or (λ (d : Directory). d.is_doubtful) o false) is ∙ doubt-same (slice_get ds i) _ _ _ _;
      kept = ap (λ (o : Option Directory). option_map_or (λ (d : Directory). d.is_kept) o false) is ∙ (kept-same (slice_get ds i) _ _ _ _ ∙ kept);
    }

pub folded-kept : (ds left : List Directory) → IsFolded ds left → Kept ds left
folded-kept ds left is i later inside kept = left-kept ds left is.0 is.1 i is.2.plain is.3 later inside kept

pub units-kept : (ds left : List Directory) (is_unit : ℕ → Bool) → AreUnitsLeft ds left is_unit → Kept ds left
units-kept ds left is_unit is i later inside kept = left-kept ds left is.gone is.home i is.plain is.has later inside kept

pub still-unpinnable : (ds left : List Directory) → Kept ds left → KeepUnpinnable ds → StillKeepUnpinnable ds left
still-unpinnable ds left still keep i later inside unpinnable = still i later inside ((keep i later inside).1 unpinnable)

pub still-kept : (ds left : List Directory) → IsFolded ds left → KeepUnpinnable ds → StillKeepUnpinnable ds left
still-kept ds left is = still-unpinnable ds left (folded-kept ds left is)
