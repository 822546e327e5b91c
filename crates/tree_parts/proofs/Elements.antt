-- What is an element of a filtered or mapped list.
use Rattle.std.proofs.Common.{◌≡◌, ℕ, zero, suc, ◌<◌, List, [], ◌∷◌, length, map, sym, ap, ◌∙◌, refl, arith, Bool, true, false, get_or, cond, inl, inr}
use Rattle.std.specs.Prelude.{filter}
use Rattle.std.specs.List.{Contains}
use Rattle.std.proofs.lemmas.Bool.{cases_eq}
use Rattle.std.proofs.lemmas.List.Elements.{Contains-append_cases, Contains-append_left, Contains-append_right, filter-append}
use Rattle.dir_pins.specs.Pins.{below}

one_passes : (test : ℕ → Bool) (d n : ℕ) → d ≡ n → test d ≡ true → Contains (filter test (n ∷ [])) d
one_passes test d n same is = let passes : test n ≡ true = sym (ap test same) ∙ is in rw passes (0, omega arith, sym same)

-- a number below n that passes is among those that are kept
pub kept_below : (test : ℕ → Bool) (n d : ℕ) → d < n → test d ≡ true → Contains (filter test (below n)) d
kept_below test zero d h is = absurd (omega arith)
kept_below test (suc n) d h is = rw (filter-append test (below n) (n ∷ [])) (elim (cases_eq d n) [
  | inl here ↦ Contains-append_right (filter test (below n)) (filter test (n ∷ [])) d (one_passes test d n here is)
  | inr other ↦ Contains-append_left (filter test (below n)) (filter test (n ∷ [])) d (kept_below test n d (omega (arith, h, other)) is)
])

one_kept : (b : Bool) (n d k : ℕ) → k < length (cond b (n ∷ []) []) → get_or (cond b (n ∷ []) []) k d ≡ d → (b ≡ true) × (n ≡ d)
one_kept true n d zero h is = (refl, is)
one_kept true n d (suc k) h is = absurd (omega arith)
one_kept false n d k h is = absurd (omega arith)

-- and what is kept is below n and passes
pub passes_below : (test : ℕ → Bool) (n d : ℕ) → Contains (filter test (below n)) d → (d < n) × (test d ≡ true)
passes_below test zero d h = absurd (omega (arith, h.1))
passes_below test (suc n) d h =
    elim (Contains-append_cases (filter test (below n)) (filter test (n ∷ [])) d (rw (filter-append test (below n) (n ∷ [])) at h)) [
      | inl before ↦ let rest = passes_below test n d before in (omega (arith, rest.0), rest.1)
      | inr last ↦ let one = one_kept (test n) n d last.0 last.1 last.2 in (omega (arith, one.1), sym (ap test one.1) ∙ one.0)
    ]

map_at : {A B : Type 0} (f : A → B) (xs : List A) (k : ℕ) (x : A) → k < length xs → get_or xs k x ≡ x
    → (k < length (map f xs)) × (get_or (map f xs) k (f x) ≡ f x)
map_at f [] k x h is = absurd (omega arith)
map_at f (y ∷ ys) zero x h is = (omega arith, ap f is)
map_at f (y ∷ ys) (suc k) x h is = let rest = map_at f ys k x (omega arith) is in (omega (arith, rest.0), rest.1)

pub Contains-map : {A B : Type 0} (f : A → B) (xs : List A) (x : A) → Contains xs x → Contains (map f xs) (f x)
Contains-map f xs x h = let at = map_at f xs h.0 x h.1 h.2 in (h.0, at.0, at.1)

mapped_at : {A B : Type 0} (f : A → B) (xs : List A) (k : ℕ) (y : B) → k < length (map f xs) → get_or (map f xs) k y ≡ y → (x : A) × Contains xs x × (f x ≡ y)
mapped_at f [] k y h is = absurd (omega arith)
mapped_at f (x ∷ xs) zero y h is = (x, (0, omega arith, refl), is)
mapped_at f (x ∷ xs) (suc k) y h is =
    let rest = mapped_at f xs k y (omega arith) is in
    (rest.0, (suc rest.1.0, omega (arith, rest.1.1), rest.1.2), rest.2)

-- an element of a mapped list is the value of an element
pub Contains-mapped : {A B : Type 0} (f : A → B) (xs : List A) (y : B) → Contains (map f xs) y → (x : A) × Contains xs x × (f x ≡ y)
Contains-mapped f xs y h = mapped_at f xs h.0 y h.1 h.2
