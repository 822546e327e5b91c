-- Refusals that are written one after another.
use Rattle.std.proofs.Common.{◌≡◌, ℕ, zero, suc, ◌+◌, ◌<◌, List, [], ◌∷◌, ◌++◌, length, take}
use Rattle.std.proofs.Common.{drop, get_or, add-one, refl, sym, ap, ◌∙◌, arith, append_assoc, append-nil, Option, subst}
use Rattle.std.specs.List.{flat_map}
use Rattle.std.specs.Io.KnownBytes.{Appends}
use Rattle.std.proofs.KnownBytes.{Appends-trans}
use Rattle.script_engine.specs.Known.{AppendsFront}
use Rattle.script_engine.proofs.KnownLemmas.{front_after, front_wider}

-- one more element's text
flat_map_more : {A : Type 0} (f : A → List ℕ) (xs : List A) (i : ℕ) (d : A) → i < length xs
    → flat_map f (take (i + 1) xs) ≡ flat_map f (take i xs) ++ f (get_or xs i d)
flat_map_more {A} f xs i d h = rw add-one (grown xs i h)
  where
    grown : (xs : List A) (i : ℕ) → i < length xs → flat_map f (take (suc i) xs) ≡ flat_map f (take i xs) ++ f (get_or xs i d)
    grown [] i h = absurd (omega arith)
    grown (x ∷ xs) zero h = append-nil (f x)
    grown (x ∷ xs) (suc i) h = ap (λ (t : List ℕ). f x ++ t) (grown xs i (omega arith)) ∙ sym (append_assoc (f x) (flat_map f (take i xs)) (f (get_or xs i d)))

-- the first elements' texts, and those after them
flat_map_parted : {A : Type 0} (f : A → List ℕ) (xs : List A) (i : ℕ) → flat_map f xs ≡ flat_map f (take i xs) ++ flat_map f (drop i xs)
flat_map_parted f xs zero = refl
flat_map_parted f [] (suc i) = refl
flat_map_parted f (x ∷ xs) (suc i) = ap (λ (t : List ℕ). f x ++ t) (flat_map_parted f xs i)
    ∙ sym (append_assoc (f x) (flat_map f (take i xs)) (flat_map f (drop i xs)))

module _ {A : Type 0} (f : A → List ℕ) (xs : List A) (i : ℕ) (x : A) (inside : i < length xs) (item : get_or xs i x ≡ x)
    (first mid last : Option (List ℕ)) where
  more : flat_map f (take (i + 1) xs) ≡ flat_map f (take i xs) ++ f x
  more = flat_map_more f xs i x inside ∙ ap (λ (y : A). flat_map f (take i xs) ++ f y) item

  -- one more is written
  pub written_more : Appends first mid (flat_map f (take i xs)) → Appends mid last (f x) → Appends first last (flat_map f (take (i + 1) xs))
  written_more before one =
      subst (λ (t : List ℕ). Appends first last t) (sym more) (Appends-trans first mid last (flat_map f (take i xs)) (f x) before one)

  -- a beginning of one more is written
  pub written_front : Appends first mid (flat_map f (take i xs)) → AppendsFront mid last (f x) → AppendsFront first last (flat_map f xs)
  written_front before one =
      subst (λ (t : List ℕ). AppendsFront first last t)
      (ap (λ (t : List ℕ). t ++ flat_map f (drop (i + 1) xs)) (sym more) ∙ sym (flat_map_parted f xs (i + 1)))
      (front_wider first last (flat_map f (take i xs) ++ f x) (flat_map f (drop (i + 1) xs))
      (front_after first mid last (flat_map f (take i xs)) (f x) before one))
