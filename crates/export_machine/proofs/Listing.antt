-- Lists of directories and their marks.
use Rattle.std.proofs.Common.{◌≡◌, ℕ, zero, suc, ◌+◌, ◌<◌, Bool, true, false, ◌||◌, eqb, List, [], ◌∷◌, ◌++◌}
use Rattle.std.proofs.Common.{length, get_or, set, take, Option, None, is_some, refl, sym, ap, ◌∙◌, inl, inr, arith}
use Rattle.std.specs.List.{list_all}
use Rattle.std.specs.Prelude.{replicate, IfSome, MatchOption, Some}
use Rattle.std.proofs.lemmas.Bool.{cases_lt, and_parts, cases_Bool, cases_eq, false≢true, ne_eqb, or_cases, or_from, or_left, or_right}
use Rattle.std.proofs.lemmas.List.{get_or-set_same, get_or-set_other, get_or_past}
use Rattle.export_protocol.specs.Authority.{is_among}
use Rattle.export_protocol.specs.Step.{repeats}
use Rattle.export_machine.specs.Kept.{is_listed}
use Rattle.export_protocol.proofs.Lists.{among_push, take_next}
use Rattle.export_machine.proofs.Counts.{push_new, not_before}

-- members of a part of the list

or_none : (a b : Bool) → b ≡ false → (a || b) ≡ a
or_none a b h = grind arith

pub among_take : (xs : List ℕ) (i d : ℕ) → is_among (take i xs) d ≡ true → is_among xs d ≡ true
among_take [] zero d h = h
among_take [] (suc i) d h = h
among_take (x ∷ xs) zero d h = absurd (cc)
among_take (x ∷ xs) (suc i) d h = elim (or_cases (eqb x d) (is_among (take i xs) d) h) [
  | inl e ↦ or_left (eqb x d) (is_among xs d) e
  | inr k ↦ or_right (eqb x d) (is_among xs d) (among_take xs i d k)
]

all_at : (p : ℕ → Bool) (xs : List ℕ) (i d : ℕ) → list_all p xs ≡ true → i < length xs → p (get_or xs i d) ≡ true
all_at p [] i d h l = absurd (omega arith)
all_at p (x ∷ xs) zero d h l = (and_parts (p x) (list_all p xs) h).0
all_at p (x ∷ xs) (suc i) d h l = all_at p xs i d (and_parts (p x) (list_all p xs) h).1 (omega arith)

-- a list of which a member fails the test
pub not_all : (p : ℕ → Bool) (xs : List ℕ) (i d : ℕ) → d ≡ get_or xs i d → i < length xs → p d ≡ false → list_all p xs ≡ true → ⊥
not_all p xs i d e l f h = false≢true (sym f ∙ (ap p e ∙ all_at p xs i d h l))

-- repetitions

repeats_push : (xs : List ℕ) (d : ℕ) → repeats (xs ++ d ∷ []) ≡ (repeats xs || is_among xs d)
repeats_push [] d = refl
repeats_push (x ∷ xs) d =
    ap (λ b. b || repeats (xs ++ d ∷ [])) (among_push xs d x)
    ∙ (ap (λ b. (is_among xs x || eqb d x) || b) (repeats_push xs d)
    ∙ regroup (is_among xs x) (eqb d x) (eqb x d) (repeats xs) (is_among xs d) (either_way (eqb d x) refl))
  where
    regroup : (a b c e f : Bool) → b ≡ c → ((a || b) || (e || f)) ≡ ((a || e) || (c || f))
    regroup a b c e f h = grind arith

    either_way : (b : Bool) → eqb d x ≡ b → eqb d x ≡ eqb x d
    either_way b h = grind arith

pub once_next : (xs : List ℕ) (i d : ℕ) → i < length xs → d ≡ get_or xs i d → repeats (take i xs) ≡ false → is_among (take i xs) d ≡ false
    → repeats (take (i + 1) xs) ≡ false
once_next xs i d l e h k = ap repeats (take_next xs i d l e) ∙ (repeats_push (take i xs) d ∙ or_from (repeats (take i xs)) (is_among (take i xs) d) h k)

-- a member that is also before its place is there twice
pub twice : (xs : List ℕ) (i d : ℕ) → i < length xs → d ≡ get_or xs i d → is_among (take i xs) d ≡ true → repeats xs ≡ true
twice xs i d l e h = elim (cases_Bool (repeats xs)) [
  | inl t ↦ t
  | inr f ↦ absurd (false≢true (sym (not_before xs i d l f) ∙ (ap (is_among (take i xs)) (sym e) ∙ h)))
]

-- marks

pub listed_near : (ps : List (Option ℕ)) (d : ℕ) → is_listed ps d ≡ true → d < length ps
listed_near ps d h = elim (cases_lt d (length ps)) [
  | inl m ↦ m
  | inr m ↦ absurd (false≢true (sym (ap is_some (get_or_past ps d None m)) ∙ h))
]

pub marked_next : (ms : List Bool) (xs : List ℕ) (i d : ℕ) → i < length xs → d ≡ get_or xs i d → d < length ms
    → ((k : ℕ) → get_or ms k false ≡ is_among (take i xs) k) →
    (k : ℕ) → get_or (set ms d true) k false ≡ is_among (take (i + 1) xs) k
marked_next ms xs i d l e near h k = elim (cases_eq k d) [
  | inl s ↦ rw (s, take_next xs i d l e, push_new (take i xs) d) (get_or-set_same ms d true false near)
  | inr n ↦
      get_or-set_other ms d k true false n
      ∙ (h k ∙ sym (ap (λ ys. is_among ys k) (take_next xs i d l e)
      ∙ (among_push (take i xs) d k ∙ or_none (is_among (take i xs) k) (eqb d k) (ne_eqb d k (λ s. n (sym s))))))
]

pub all_clear : (ms : List Bool) → ((k : ℕ) → get_or ms k false ≡ false) → ms ≡ replicate (length ms) false
all_clear [] h = refl
all_clear (m ∷ ms) h = rw (← all_clear ms (λ k. h (suc k))) (ap (λ b. b ∷ ms) (h 0))

pub if_both : {A : Type 0} (P : Type 0) {Q S R : A → Type 0} (o : Option A) → ((a : A) → Q a → S a → R a) → IfSome o Q → MatchOption o P S → IfSome o R
if_both P None f h k = tt
if_both P (Some a) f h k = f a h k
