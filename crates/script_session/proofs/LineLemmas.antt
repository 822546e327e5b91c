-- Lines that are written one after another.
use Rattle.std.proofs.Common.{◌≡◌, ℕ, zero, suc, ◌+◌, ◌<◌, List, [], ◌∷◌, ◌++◌, length, take, drop}
use Rattle.std.proofs.Common.{get_or, add-one, refl, sym, ap, ◌∙◌, arith, append_assoc, append-nil, Option, subst, map, ◌-◌}
use Rattle.std.specs.List.{flat_map}
use Rattle.std.specs.Io.KnownBytes.{Appends}
use Rattle.script_engine.specs.Known.{AppendsFront}
use Rattle.script_engine.proofs.KnownLemmas.{front_after, front_wider}
use Rattle.script_session.specs.Printed.{joined}

-- one more element's text
pub flat_map_more : {A : Type 0} (f : A → List ℕ) (xs : List A) (i : ℕ) (d : A) → i < length xs
    → flat_map f (take (i + 1) xs) ≡ flat_map f (take i xs) ++ f (get_or xs i d)
flat_map_more {A} f xs i d h = rw add-one (grown xs i h)
  where
    grown : (xs : List A) (i : ℕ) → i < length xs → flat_map f (take (suc i) xs) ≡ flat_map f (take i xs) ++ f (get_or xs i d)
    grown [] i h = absurd (omega arith)
    grown (x ∷ xs) zero h = append-nil (f x)
    grown (x ∷ xs) (suc i) h = ap (λ (t : List ℕ). f x ++ t) (grown xs i (omega arith)) ∙ sym (append_assoc (f x) (flat_map f (take i xs)) (f (get_or xs i d)))

-- one more line
pub joined_more : (lines : List (List ℕ)) (i : ℕ) → i < length lines → joined (take (i + 1) lines) ≡ joined (take i lines) ++ get_or lines i []
joined_more lines i h = flat_map_more (λ (line : List ℕ). line) lines i [] h

-- the first lines, and those after them
pub joined_parted : (lines : List (List ℕ)) (i : ℕ) → joined lines ≡ joined (take i lines) ++ joined (drop i lines)
joined_parted lines zero = refl
joined_parted [] (suc i) = refl
joined_parted (x ∷ lines) (suc i) = ap (λ (t : List ℕ). x ++ t) (joined_parted lines i) ∙ sym (append_assoc x (joined (take i lines)) (joined (drop i lines)))

-- A chunk was written as far as it went, after what was written before: both are the first lines together.
pub lines_front : (first mid last : Option (List ℕ)) (front chunk : List ℕ) (lines : List (List ℕ)) (i : ℕ)
    → Appends first mid front → AppendsFront mid last chunk → front ++ chunk ≡ joined (take i lines) → AppendsFront first last (joined lines)
lines_front first mid last front chunk lines i written err whole =
    subst (λ (t : List ℕ). AppendsFront first last t) (ap (λ (t : List ℕ). t ++ joined (drop i lines)) whole ∙ sym (joined_parted lines i))
    (front_wider first last (front ++ chunk) (joined (drop i lines)) (front_after first mid last front chunk written err))

-- a line after the first
pub nth_line : {A : Type 0} (first : List ℕ) (f : A → List ℕ) (xs : List A) (i : ℕ) (d : A) → (i ≡ 0 → ⊥) → i < length (first ∷ map f xs)
    → f (get_or xs (i - 1) d) ≡ get_or (first ∷ map f xs) i []
nth_line {A} first f xs zero d some h = absurd (some refl)
nth_line {A} first f xs (suc i) d some h = let same : suc i - 1 ≡ i = omega arith in ap (λ (k : ℕ). f (get_or xs k d)) same ∙ behind xs i (omega arith)
  where
    behind : (xs : List A) (i : ℕ) → i < length (map f xs) → f (get_or xs i d) ≡ get_or (map f xs) i []
    behind [] i h = absurd (omega arith)
    behind (x ∷ xs) zero h = refl
    behind (x ∷ xs) (suc i) h = behind xs i (omega arith)
