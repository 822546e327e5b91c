-- Tables in which a list of directories gets the same value.
use Rattle.std.proofs.Common.{◌≡◌, ℕ, zero, suc, ◌+◌, ◌<◌, ◌≤◌, Bool, true, ◌||◌, eqb, cond}
use Rattle.std.proofs.Common.{List, [], ◌∷◌, length, get_or, set, take, refl, sym, ap, ◌∙◌, arith}
use Rattle.std.proofs.lemmas.List.{take_all}
use Rattle.export_protocol.specs.Authority.{is_among}
use Rattle.export_protocol.specs.Step.{map_at}
use Rattle.export_protocol.proofs.Views.{map_at_length}
use Rattle.export_protocol.proofs.Lists.{among_push, take_next, among_at}

pub map_at_same : {A B : Type 0} (f g : ℕ → A → B) → ((k : ℕ) (a : A) → f k a ≡ g k a) → (xs : List A) → map_at f xs ≡ map_at g xs
map_at_same f g h [] = refl
map_at_same f g h (x ∷ xs) = rw (h 0 x) (ap (λ ys. g 0 x ∷ ys) (map_at_same (λ k. f (suc k)) (λ k. g (suc k)) (λ k a. h (suc k) a) xs))

pub unchanged : {A : Type 0} (xs : List A) → map_at (λ k a. a) xs ≡ xs
unchanged [] = refl
unchanged (x ∷ xs) = ap (λ ys. x ∷ ys) (unchanged xs)

pub mark_start : {A : Type 0} (xs : List A) (v : A) → xs ≡ map_at (λ k old. cond (is_among [] k) v old) xs
mark_start xs v = sym (unchanged xs)

cond_same : {A : Type 0} (b c : Bool) (v a : A) → b ≡ c → cond b v a ≡ cond c v a
cond_same b c v a h = ap (λ d. cond d v a) h

pub set_mark : {A : Type 0} (p : ℕ → Bool) (v : A) (xs : List A) (d : ℕ)
    → set (map_at (λ k old. cond (p k) v old) xs) d v ≡ map_at (λ k old. cond (p k || eqb d k) v old) xs
set_mark p v [] zero = refl
set_mark p v [] (suc d) = refl
set_mark p v (x ∷ xs) zero =
    rw (here (p 0)) (ap (λ ys. v ∷ ys)
    (map_at_same (λ k old. cond (p (suc k)) v old) (λ k old. cond (p (suc k) || eqb 0 (suc k)) v old)
    (λ k a. cond_same (p (suc k)) (p (suc k) || eqb 0 (suc k)) v a (there (p (suc k)) k)) xs))
  where
    here : (b : Bool) → (b || eqb 0 0) ≡ true
    here b = grind arith

    there : (b : Bool) (k : ℕ) → b ≡ (b || eqb 0 (suc k))
    there b k = grind arith
set_mark p v (x ∷ xs) (suc d) =
    rw (← first (p 0)) (ap (λ ys. cond (p 0) v x ∷ ys) (set_mark (λ k. p (suc k)) v xs d
    ∙ map_at_same (λ k old. cond (p (suc k) || eqb d k) v old) (λ k old. cond (p (suc k) || eqb (suc d) (suc k)) v old)
    (λ k a. cond_same (p (suc k) || eqb d k) (p (suc k) || eqb (suc d) (suc k)) v a (next (p (suc k)) k)) xs))
  where
    first : (b : Bool) → b ≡ (b || eqb (suc d) 0)
    first b = grind arith

    next : (b : Bool) (k : ℕ) → (b || eqb d k) ≡ (b || eqb (suc d) (suc k))
    next b k = ap (λ c. b || c) (same (eqb d k) refl)
      where
        same : (c : Bool) → eqb d k ≡ c → eqb d k ≡ eqb (suc d) (suc k)
        same c e = grind arith

pub mark_next : {A : Type 0} (xs ys : List A) (v : A) (dirs : List ℕ) (i d : ℕ) → i < length dirs → d ≡ get_or dirs i d →
    ys ≡ map_at (λ k old. cond (is_among (take i dirs) k) v old) xs → set ys d v ≡ map_at (λ k old. cond (is_among (take (i + 1) dirs) k) v old) xs
mark_next xs ys v dirs i d h e s =
    rw s (set_mark (is_among (take i dirs)) v xs d
    ∙ map_at_same (λ k old. cond (is_among (take i dirs) k || eqb d k) v old) (λ k old. cond (is_among (take (i + 1) dirs) k) v old)
    (λ k a. cond_same (is_among (take i dirs) k || eqb d k) (is_among (take (i + 1) dirs) k) v a
    (sym (ap (λ zs. is_among zs k) (take_next dirs i d h e) ∙ among_push (take i dirs) d k))) xs)

pub mark_end : {A : Type 0} (xs ys : List A) (v : A) (dirs : List ℕ) (i : ℕ) → length dirs ≤ i →
    ys ≡ map_at (λ k old. cond (is_among (take i dirs) k) v old) xs → ys ≡ map_at (λ k old. cond (is_among dirs k) v old) xs
mark_end xs ys v dirs i h s = s ∙ ap (λ ds. map_at (λ k old. cond (is_among ds k) v old) xs) (take_all i dirs h)

pub mark_near : {A : Type 0} (xs ys : List A) (v : A) (dirs : List ℕ) (i d : ℕ) → i < length dirs → d ≡ get_or dirs i d
    → ((k : ℕ) → is_among dirs k ≡ true → k < length xs) →
    ys ≡ map_at (λ k old. cond (is_among (take i dirs) k) v old) xs → d < length ys
mark_near xs ys v dirs i d h e near s =
    let k : d < length xs = near d (ap (is_among dirs) e ∙ among_at dirs i d h) in
    rw (s, map_at_length (λ j old. cond (is_among (take i dirs) j) v old) xs) k
