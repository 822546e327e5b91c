-- Entries of rows.
use Rattle.std.proofs.Common.{◌≡◌, ◌≢◌, ℕ, zero, suc, ◌+◌, ◌-◌, ◌<◌, ◌≤◌, List, [], ◌∷◌, set, length, replicate, refl, sym, ap, ◌∙◌, arith, length-set, get_or}
use Rattle.std.proofs.lemmas.List.{get_or-set_same, get_or-set_other, get_or_past, set-get_or, length-replicate}
use native.Mathlib.Decide.{ℕ_discrete}
use Rattle.heat_ledger.specs.Rows.{at, sums, differences, raised, raised_by, evens, IsZero}

pub at_set_same : (xs : List ℕ) (d y : ℕ) → d < length xs → at (set xs d y) d ≡ y
at_set_same xs d y h = get_or-set_same xs d y 0 h

pub at_set_other : (xs : List ℕ) (d y k : ℕ) → k ≢ d → at (set xs d y) k ≡ at xs k
at_set_other xs d y k n = get_or-set_other xs d k y 0 n

pub at_raised_same : (xs : List ℕ) (d : ℕ) → d < length xs → at (raised xs d) d ≡ at xs d + 1
at_raised_same xs d h = at_set_same xs d (at xs d + 1) h

pub at_raised_other : (xs : List ℕ) (d k : ℕ) → k ≢ d → at (raised xs d) k ≡ at xs k
at_raised_other xs d k n = at_set_other xs d (at xs d + 1) k n

pub length-raised : (xs : List ℕ) (d : ℕ) → length (raised xs d) ≡ length xs
length-raised xs d = length-set xs d (at xs d + 1)

-- none more changes nothing
pub raised_by_none : (xs : List ℕ) (d : ℕ) → raised_by xs d 0 ≡ xs
raised_by_none xs d = let e : at xs d + 0 ≡ at xs d = omega arith in ap (set xs d) e ∙ set-get_or xs d 0

pub at_past : (xs : List ℕ) (k : ℕ) → length xs ≤ k → at xs k ≡ 0
at_past xs k h = get_or_past xs k 0 h

-- another default reads the same entry
pub at_within : (xs : List ℕ) (k d : ℕ) → k < length xs → get_or xs k d ≡ at xs k
at_within [] k d h = absurd (omega arith)
at_within (x ∷ xs) zero d h = refl
at_within (x ∷ xs) (suc k) d h = at_within xs k d (omega arith)

pub at_sums : (xs ys : List ℕ) (k : ℕ) → at (sums xs ys) k ≡ at xs k + at ys k
at_sums [] ys k = omega arith
at_sums (x ∷ xs) [] k = omega arith
at_sums (x ∷ xs) (y ∷ ys) zero = refl
at_sums (x ∷ xs) (y ∷ ys) (suc k) = at_sums xs ys k

pub at_differences : (xs ys : List ℕ) (k : ℕ) → at (differences xs ys) k ≡ at xs k - at ys k
at_differences [] ys k = omega arith
at_differences (x ∷ xs) [] k = omega arith
at_differences (x ∷ xs) (y ∷ ys) zero = refl
at_differences (x ∷ xs) (y ∷ ys) (suc k) = at_differences xs ys k

pub length-sums : (xs ys : List ℕ) → length ys ≡ length xs → length (sums xs ys) ≡ length xs
length-sums [] ys e = e
length-sums (x ∷ xs) [] e = refl
length-sums (x ∷ xs) (y ∷ ys) e = let n : length ys ≡ length xs = omega arith in ap suc (length-sums xs ys n)

-- rows with the same counts are the same
pub same_rows : (xs ys : List ℕ) → length xs ≡ length ys → ((k : ℕ) → at xs k ≡ at ys k) → xs ≡ ys
same_rows [] [] e h = refl
same_rows [] (y ∷ ys) e h = absurd (omega arith)
same_rows (x ∷ xs) [] e h = absurd (omega arith)
same_rows (x ∷ xs) (y ∷ ys) e h =
    let head : x ≡ y = h 0 in
    let tail : xs ≡ ys = same_rows xs ys (omega arith) (λ k. h (suc k)) in
    cc

pub at_replicate : (n k : ℕ) → at (replicate n 0) k ≡ 0
at_replicate zero k = refl
at_replicate (suc n) zero = refl
at_replicate (suc n) (suc k) = at_replicate n k

pub zero_row : (xs : List ℕ) (n : ℕ) → length xs ≡ n → IsZero xs → xs ≡ replicate n 0
zero_row xs n e zeros = same_rows xs (replicate n 0) (e ∙ sym (length-replicate n 0)) (λ k. zeros k ∙ sym (at_replicate n k))

pub sum_row : (new xs ys : List ℕ) → length new ≡ length xs → length ys ≡ length xs → ((k : ℕ) → at new k ≡ at xs k + at ys k) → new ≡ sums xs ys
sum_row new xs ys e f h = same_rows new (sums xs ys) (e ∙ sym (length-sums xs ys f)) (λ k. h k ∙ sym (at_sums xs ys k))

-- an entry that moves from one row to another
pub moved_entry : (into from : List ℕ) (d v dir : ℕ) → d < length into → d < length from → v ≡ at into d + at from d
    → at (set into d v) dir + at (set from d 0) dir ≡ at into dir + at from dir
moved_entry into from d v dir inside within is = entry (ℕ_discrete dir d)
  where
    entry : Dec (dir ≡ d) → at (set into d v) dir + at (set from d 0) dir ≡ at into dir + at from dir
    entry (yes e) = omega (
      arith,
      is,
      ap (at (set into d v)) e,
      at_set_same into d v inside,
      ap (at (set from d 0)) e,
      at_set_same from d 0 within,
      ap (at into) e,
      ap (at from) e,
    )
    entry (no n) = omega (arith, at_set_other into d v dir n, at_set_other from d 0 dir n)

pub emptied_entry : (from : List ℕ) (d dir : ℕ) → d < length from → at (set from d 0) dir ≤ at from dir
emptied_entry from d dir within = entry (ℕ_discrete dir d)
  where
    entry : Dec (dir ≡ d) → at (set from d 0) dir ≤ at from dir
    entry (yes e) = omega (arith, ap (at (set from d 0)) e, at_set_same from d 0 within)
    entry (no n) = omega (arith, at_set_other from d 0 dir n)

pub emptied_next : (from noted : List ℕ) (d j k : ℕ) → d ≡ at noted j → d < length from → (k < j → at from (at noted k) ≡ 0) → k < j + 1
    → at (set from d 0) (at noted k) ≡ 0
emptied_next from noted d j k is within before less = entry (ℕ_discrete (at noted k) d) (ℕ_discrete k j)
  where
    entry : Dec (at noted k ≡ d) → Dec (k ≡ j) → at (set from d 0) (at noted k) ≡ 0
    entry (yes e) _ = ap (at (set from d 0)) e ∙ at_set_same from d 0 within
    entry (no n) (yes e) = absurd (n (ap (at noted) e ∙ sym is))
    entry (no n) (no m) = at_set_other from d 0 (at noted k) n ∙ before (omega arith)

at_evens_from : (xs : List ℕ) (d k : ℕ) → k ≡ d + d → at (evens xs) d ≡ at xs k
at_evens_from [] d k e = refl
at_evens_from (x ∷ []) zero zero e = refl
at_evens_from (x ∷ []) zero (suc k) e = absurd (omega arith)
at_evens_from (x ∷ []) (suc d) zero e = absurd (omega arith)
at_evens_from (x ∷ []) (suc d) (suc k) e = refl
at_evens_from (x ∷ y ∷ xs) zero zero e = refl
at_evens_from (x ∷ y ∷ xs) zero (suc k) e = absurd (omega arith)
at_evens_from (x ∷ y ∷ xs) (suc d) zero e = absurd (omega arith)
at_evens_from (x ∷ y ∷ xs) (suc d) (suc zero) e = absurd (omega arith)
at_evens_from (x ∷ y ∷ xs) (suc d) (suc (suc k)) e = at_evens_from xs d k (omega arith)

-- every second entry is a directory's entry for reads
pub at_evens : (xs : List ℕ) (d : ℕ) → at (evens xs) d ≡ at xs (d + d)
at_evens xs d = at_evens_from xs d (d + d) refl

pub length-evens : (xs : List ℕ) (n : ℕ) → length xs ≡ n + n → length (evens xs) ≡ n
length-evens [] n e = omega arith
length-evens (x ∷ []) n e = absurd (omega arith)
length-evens (x ∷ y ∷ xs) zero e = absurd (omega arith)
length-evens (x ∷ y ∷ xs) (suc n) e = ap suc (length-evens xs n (omega arith))

evens_set : (xs : List ℕ) (d k v : ℕ) → k ≡ d + d → evens (set xs k v) ≡ set (evens xs) d v
evens_set [] d k v e = refl
evens_set (x ∷ []) zero zero v e = refl
evens_set (x ∷ []) zero (suc k) v e = absurd (omega arith)
evens_set (x ∷ []) (suc d) zero v e = absurd (omega arith)
evens_set (x ∷ []) (suc d) (suc k) v e = refl
evens_set (x ∷ y ∷ xs) zero zero v e = refl
evens_set (x ∷ y ∷ xs) zero (suc k) v e = absurd (omega arith)
evens_set (x ∷ y ∷ xs) (suc d) zero v e = absurd (omega arith)
evens_set (x ∷ y ∷ xs) (suc d) (suc zero) v e = absurd (omega arith)
evens_set (x ∷ y ∷ xs) (suc d) (suc (suc k)) v e = ap (λ (l : List ℕ). x ∷ l) (evens_set xs d k v (omega arith))

pub evens_raised : (xs : List ℕ) (d : ℕ) → evens (raised xs (d + d)) ≡ raised (evens xs) d
evens_raised xs d = evens_set xs d (d + d) (at xs (d + d) + 1) refl ∙ ap (λ (x : ℕ). set (evens xs) d (x + 1)) (sym (at_evens xs d))

-- the same, as the code writes it
pub evens_raised_at : (xs : List ℕ) (d k a : ℕ) → k ≡ d + d → a ≡ at xs (d + d) → evens (set xs k (a + 1)) ≡ raised (evens xs) d
evens_raised_at xs d k a ek ea = rw (ek, ea) (evens_raised xs d)

pub evens_sums : (xs ys : List ℕ) → length ys ≡ length xs → evens (sums xs ys) ≡ sums (evens xs) (evens ys)
evens_sums [] ys e = refl
evens_sums (x ∷ xs) [] e = absurd (omega arith)
evens_sums (x ∷ []) (y ∷ []) e = refl
evens_sums (x ∷ []) (y ∷ y' ∷ ys) e = absurd (omega arith)
evens_sums (x ∷ x' ∷ xs) (y ∷ []) e = absurd (omega arith)
evens_sums (x ∷ x' ∷ xs) (y ∷ y' ∷ ys) e = ap (λ (l : List ℕ). (x + y) ∷ l) (evens_sums xs ys (omega arith))

evens_zeros_from : (n k : ℕ) → k ≡ n + n → evens (replicate k 0) ≡ replicate n 0
evens_zeros_from zero zero e = refl
evens_zeros_from zero (suc k) e = absurd (omega arith)
evens_zeros_from (suc n) zero e = absurd (omega arith)
evens_zeros_from (suc n) (suc zero) e = absurd (omega arith)
evens_zeros_from (suc n) (suc (suc k)) e = ap (λ (l : List ℕ). 0 ∷ l) (evens_zeros_from n k (omega arith))

pub evens_zeros : (n : ℕ) → evens (replicate (n + n) 0) ≡ replicate n 0
evens_zeros n = evens_zeros_from n (n + n) refl
