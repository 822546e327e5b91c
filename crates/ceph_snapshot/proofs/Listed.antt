-- The places of inode numbers in a listing, from those that were noted so far to one more.
use Rattle.std.proofs.Common.{◌≡◌, ◌≢◌, ◌∙◌, ◌<◌, ◌≤◌, ◌+◌, ◌++◌, ◌∷◌, [], ℕ, Bool, true, false, List, Option, Some}
use Rattle.std.proofs.Common.{None, ap, append-nil, arith, cond, get_or, is_some, length, map, refl, set, slice_get, subst, sym, take, ⊎_elim}
use Rattle.std.specs.List.{filter}
use Rattle.std.specs.Option.{option_map}
use Rattle.std.proofs.lemmas.Bool.{cases_eq, cases_lt}
use Rattle.std.proofs.lemmas.List.{map-append, take_more}
use Rattle.std.proofs.lemmas.List.Elements.{filter-append}
use Rattle.std.proofs.lemmas.Option.{slice_get_past}
use Rattle.ceph_dumps.specs.declared.listing.ListedDir.{ListedDir}
use Rattle.ceph_snapshot.specs.Mounts.{is_number, paths_of}
use Rattle.ceph_snapshot.specs.Places.{IsNumberPlace, path_listed}
use Rattle.ceph_snapshot.proofs.Placing.{at-other, at-same}

-- the paths with a number, with one more entry of a listing
paths_more : (listing : List ListedDir) (at : ℕ) (d : ListedDir) (number : ℕ) → at < length listing → d ≡ get_or listing at d
    → paths_of (take (at + 1) listing) number ≡ paths_of (take at listing) number ++ cond (is_number number d.value) (d.path.items ∷ []) []
paths_more listing at d number inside is =
    ap (λ (ds : List ListedDir). paths_of ds number) (take_more listing at d inside ∙ ap (λ (one : ListedDir). take at listing ++ one ∷ []) (sym is))
    ∙ (ap (map path) (filter-append test (take at listing) (d ∷ []))
    ∙ (map-append path (filter test (take at listing)) (filter test (d ∷ []))
    ∙ ap (λ (ps : List (List ℕ)). paths_of (take at listing) number ++ ps) (end (test d)))) where
      path : ListedDir → List ℕ
      path one = one.path.items

      test : ListedDir → Bool
      test one = is_number number one.value

      end : (b : Bool) → map path (cond b (d ∷ []) []) ≡ cond b (d.path.items ∷ []) []
      end true = refl
      end false = refl

place_more : (listing : List ListedDir) (paths : List (List ℕ)) (at : ℕ) (path : List ℕ) (old : Option (Option ℕ)) (here : Bool)
    → at < length listing → path_listed listing at ≡ path → IsNumberPlace listing paths old
    → IsNumberPlace listing (paths ++ cond here (path ∷ []) []) (cond here (Some (cond (is_some old) None (Some at))) old)
place_more listing paths at path old false inside is was = subst (λ (ps : List (List ℕ)). IsNumberPlace listing ps old) (sym (append-nil paths)) was
place_more listing paths at path None true inside is was =
    (inside, ap (λ (ps : List (List ℕ)). ps ++ path ∷ []) was ∙ ap (λ (p : List ℕ). p ∷ []) (sym is))
place_more listing paths at path (Some (Some k)) true inside is was =
    (path_listed listing k, path, [], ap (λ (ps : List (List ℕ)). ps ++ path ∷ []) was.1)
place_more listing paths at path (Some None) true inside is was =
    (was.0, was.1, was.2 ++ path ∷ [], ap (λ (ps : List (List ℕ)). ps ++ path ∷ []) was.3)

pub noted : (listing : List ListedDir) (at : ℕ) (d : ListedDir) (number : ℕ) (old new : Option (Option ℕ)) → at < length listing
    → d ≡ get_or listing at d → path_listed listing at ≡ d.path.items
    → IsNumberPlace listing (paths_of (take at listing) number) old → new ≡ cond (is_number number d.value) (Some (cond (is_some old) None (Some at))) old
    → IsNumberPlace listing (paths_of (take (at + 1) listing) number) new
noted listing at d number old new inside is path was now =
    subst (IsNumberPlace listing (paths_of (take (at + 1) listing) number)) (sym now)
    (subst (λ (ps : List (List ℕ)). IsNumberPlace listing ps
    (cond (is_number number d.value) (Some (cond (is_some old) None (Some at))) old)) (sym (paths_more listing at d number inside is))
    (place_more listing (paths_of (take at listing) number) at d.path.items old (is_number number d.value) inside path was))

-- one more of a list is named as the mount does
pub named_more : {X C : Type 0} (f g : X → C) (start cur : List X) (at : ℕ) (d new : X) → at < length cur → slice_get start at ≡ Some d → f new ≡ g d
    → ((i : ℕ) → i < at → option_map f (slice_get cur i) ≡ option_map g (slice_get start i)) → (i : ℕ) → i < at + 1
    → option_map f (slice_get (set cur at new) i) ≡ option_map g (slice_get start i)
named_more f g start cur at d new within read is before i l =
    ⊎_elim
    (λ (same : i ≡ at). subst (λ (k : ℕ). option_map f (slice_get (set cur at new) k) ≡ option_map g (slice_get start k)) (sym same)
    (ap (option_map f) (at-same cur at new within) ∙ (ap (λ one. Some one) is ∙ sym (ap (option_map g) read))))
    (λ (other : i ≢ at). ap (option_map f) (at-other cur at i new other) ∙ before i (omega (arith, other, l)))
    (cases_eq i at)

pub all_named : {X C : Type 0} (f g : X → C) (start cur : List X) (at : ℕ) → length start ≤ at
    → ((i : ℕ) → i < at → option_map f (slice_get cur i) ≡ option_map g (slice_get start i))
    → ((i : ℕ) → at ≤ i → slice_get cur i ≡ slice_get start i) → (i : ℕ) → option_map f (slice_get cur i) ≡ option_map g (slice_get start i)
all_named f g start cur at end named rest i =
    ⊎_elim
    (λ (inside : i < at). named i inside)
    (λ (past : at ≤ i).
    let none : slice_get start i ≡ None = slice_get_past start i (omega (arith, past, end)) in
    ap (option_map f) (rest i past ∙ none) ∙ sym (ap (option_map g) none))
    (cases_lt i at)
