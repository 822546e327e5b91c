-- Members of lists, and lists without a faulty one.
use Rattle.std.proofs.Common.{◌≡◌, ℕ, zero, suc, ◌+◌, ◌<◌, Bool, true, false, ◌||◌, eqb, cond, List}
use Rattle.std.proofs.Common.{[], ◌∷◌, ◌++◌, length, get_or, take, Option, None, refl, sym, ap, ◌∙◌, arith}
use Rattle.std.proofs.lemmas.Bool.{or_left, or_right}
use Rattle.export_protocol.specs.Cluster.{World}
use Rattle.export_protocol.specs.Authority.{is_among, or_else}
use Rattle.export_protocol.specs.Step.{cannot_leave, least_fault}
use Rattle.export_protocol.proofs.Lookups.{itself}

pub among_push : (xs : List ℕ) (d e : ℕ) → is_among (xs ++ d ∷ []) e ≡ (is_among xs e || eqb d e)
among_push [] d e = flip (eqb d e)
  where
    flip : (b : Bool) → (b || false) ≡ (false || b)
    flip b = grind arith
among_push (x ∷ xs) d e = ap (λ b. eqb x e || b) (among_push xs d e) ∙ assoc (eqb x e) (is_among xs e) (eqb d e)
  where
    assoc : (a b c : Bool) → (a || (b || c)) ≡ ((a || b) || c)
    assoc a b c = grind arith

pub take_push : {A : Type 0} (xs : List A) (i : ℕ) (d : A) → i < length xs → take (suc i) xs ≡ take i xs ++ get_or xs i d ∷ []
take_push [] i d h = absurd (omega arith)
take_push (x ∷ xs) zero d h = refl
take_push (x ∷ xs) (suc i) d h = ap (λ ys. x ∷ ys) (take_push xs i d (omega arith))

-- the next member of a list, in the form of a loop
pub take_next : {A : Type 0} (xs : List A) (i : ℕ) (d : A) → i < length xs → d ≡ get_or xs i d → take (i + 1) xs ≡ take i xs ++ d ∷ []
take_next xs i d h e = ap (λ k. take k xs) (succ i) ∙ (take_push xs i d h ∙ ap (λ m. take i xs ++ m ∷ []) (sym e))
  where
    succ : (k : ℕ) → k + 1 ≡ suc k
    succ k = omega arith

pub among_at : (xs : List ℕ) (i d : ℕ) → i < length xs → is_among xs (get_or xs i d) ≡ true
among_at [] i d h = absurd (omega arith)
among_at (x ∷ xs) zero d h = or_left (eqb x x) (is_among xs x) (itself x)
among_at (x ∷ xs) (suc i) d h = or_right (eqb x (get_or xs i d)) (is_among xs (get_or xs i d)) (among_at xs i d (omega arith))

cond_none : {A : Type 0} (b : Bool) (o : Option A) → (b ≡ true → o ≡ None) → cond b o None ≡ None
cond_none true o h = h refl
cond_none false o h = refl

pub none_else : {A : Type 0} (a b c : Option A) → a ≡ None → b ≡ c → or_else a b ≡ c
none_else a b c h k = rw h k

pub no_fault : (w : World) (from : ℕ) (dirs : List ℕ) (n : ℕ) → ((d : ℕ) → d < n → is_among dirs d ≡ true → cannot_leave w from d ≡ None)
    → least_fault w from dirs n ≡ None
no_fault w from dirs zero h = refl
no_fault w from dirs (suc n) h =
    none_else (least_fault w from dirs n) (cond (is_among dirs n) (cannot_leave w from n) None) None (no_fault w from dirs n (λ d l i. h d (omega arith) i))
    (cond_none (is_among dirs n) (cannot_leave w from n) (h n (omega arith)))
