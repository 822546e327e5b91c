-- The directories of entries, each once.
use Rattle.std.proofs.Common.{◌≡◌, ◌≢◌, ℕ, zero, suc, ◌+◌, ◌≤◌, List, [], ◌∷◌, ◌++◌, length, refl, sym, ap, ◌∙◌, arith}
use native.Mathlib.Decide.{ℕ_discrete}
use Rattle.heat_ledger.specs.Rows.{at}
use Rattle.heat_ledger.specs.Touched.{times, mark, pair_sums, IsTracked}
use Rattle.heat_ledger.proofs.Marks.{times_same, times_other, times_push, mark_some}

-- this number where the count is 0
abbrev pub where_none : ℕ → ℕ → ℕ
where_none zero n = n
where_none (suc x) n = 0

-- how often these entries name a directory: by its reads, and by its writes where it has no reads
abbrev pub named : List ℕ → List ℕ → ℕ → ℕ
named counts es d = times es (d + d) + where_none (at counts (d + d)) (times es (d + d + 1))

none_more : (x n m : ℕ) → m ≡ 0 → where_none x (n + m) ≡ where_none x n
none_more x n m e = ap (where_none x) (omega arith)

where_zero : (x n : ℕ) → x ≡ 0 → where_none x n ≡ n
where_zero zero n e = refl
where_zero (suc x) n e = absurd (omega arith)

where_some : (x n : ℕ) → 1 ≤ x → where_none x n ≡ 0
where_some zero n e = absurd (omega arith)
where_some (suc x) n e = refl

times_one : (e k : ℕ) → e ≡ k → times (e ∷ []) k ≡ 1
times_one e k s = ap (times (e ∷ [])) (sym s) ∙ times_same e []

times_not : (e k : ℕ) → e ≢ k → times (e ∷ []) k ≡ 0
times_not e k n = times_other e k [] n

-- an entry for reads names its directory
pub named_read : (counts es dirs : List ℕ) (h e : ℕ) → e ≡ h + h → ((d : ℕ) → times dirs d ≡ named counts es d) → (d : ℕ)
    → times (dirs ++ h ∷ []) d ≡ named counts (es ++ e ∷ []) d
named_read counts es dirs h e is was d = step (ℕ_discrete h d)
  where
    other : where_none (at counts (d + d)) (times (es ++ e ∷ []) (d + d + 1)) ≡ where_none (at counts (d + d)) (times es (d + d + 1))
    other = ap (where_none (at counts (d + d))) (times_push es e (d + d + 1))
        ∙ none_more (at counts (d + d)) (times es (d + d + 1)) (times (e ∷ []) (d + d + 1))
        (times_not e (d + d + 1) (λ s. absurd (omega arith)))

    step : Dec (h ≡ d) → times (dirs ++ h ∷ []) d ≡ named counts (es ++ e ∷ []) d
    step (yes s) = omega (arith, times_push dirs h d, times_one h d s, was d, times_push es e (d + d), times_one e (d + d) (omega arith), other)
    step (no n) = omega (arith, times_push dirs h d, times_not h d n, was d, times_push es e (d + d), times_not e (d + d) (λ s. n (omega arith)), other)

write_is_no_read : (es : List ℕ) (h e d : ℕ) → e ≡ h + h + 1 → times (es ++ e ∷ []) (d + d) ≡ times es (d + d)
write_is_no_read es h e d is = omega (arith, times_push es e (d + d), times_not e (d + d) (λ s. absurd (omega arith)))

-- another directory's entry for writes
other_write : (counts es : List ℕ) (h e d : ℕ) → e ≡ h + h + 1 → h ≢ d → named counts (es ++ e ∷ []) d ≡ named counts es d
other_write counts es h e d is n =
    let other : where_none (at counts (d + d)) (times (es ++ e ∷ []) (d + d + 1)) ≡ where_none (at counts (d + d)) (times es (d + d + 1)) =
    ap (where_none (at counts (d + d))) (times_push es e (d + d + 1))
    ∙ none_more (at counts (d + d)) (times es (d + d + 1)) (times (e ∷ []) (d + d + 1))
    (times_not e (d + d + 1) (λ s. n (omega arith))) in
    omega (arith, write_is_no_read es h e d is, other)

-- an entry for writes names its directory where that has no reads
pub named_write : (counts es dirs : List ℕ) (h e : ℕ) → e ≡ h + h + 1 → at counts (h + h) ≡ 0 → ((d : ℕ) → times dirs d ≡ named counts es d)
    → (d : ℕ) → times (dirs ++ h ∷ []) d ≡ named counts (es ++ e ∷ []) d
named_write counts es dirs h e is none was d = step (ℕ_discrete h d)
  where
    step : Dec (h ≡ d) → times (dirs ++ h ∷ []) d ≡ named counts (es ++ e ∷ []) d
    step (yes s) =
        let here : at counts (d + d) ≡ 0 = ap (λ (k : ℕ). at counts (k + k)) (sym s) ∙ none in
        omega (
          arith,
          times_push dirs h d,
          times_one h d s,
          was d,
          write_is_no_read es h e d is,
          times_push es e (d + d + 1),
          times_one e (d + d + 1) (omega arith),
          where_zero (at counts (d + d)) (times es (d + d + 1)) here,
          where_zero (at counts (d + d)) (times (es ++ e ∷ []) (d + d + 1)) here,
        )
    step (no n) = omega (arith, times_push dirs h d, times_not h d n, was d, other_write counts es h e d is n)

-- and not where it has reads, which name it
pub named_again : (counts es dirs : List ℕ) (h e : ℕ) → e ≡ h + h + 1 → 1 ≤ at counts (h + h) → ((d : ℕ) → times dirs d ≡ named counts es d)
    → (d : ℕ) → times dirs d ≡ named counts (es ++ e ∷ []) d
named_again counts es dirs h e is some was d = step (ℕ_discrete h d)
  where
    step : Dec (h ≡ d) → times dirs d ≡ named counts (es ++ e ∷ []) d
    step (yes s) =
        let here : at counts (d + d) ≡ at counts (h + h) = ap (λ (k : ℕ). at counts (k + k)) (sym s) in
        let low : 1 ≤ at counts (d + d) = omega arith in
        omega (
          arith,
          was d,
          write_is_no_read es h e d is,
          where_some (at counts (d + d)) (times es (d + d + 1)) low,
          where_some (at counts (d + d)) (times (es ++ e ∷ []) (d + d + 1)) low,
        )
    step (no n) = omega (arith, was d, other_write counts es h e d is n)

at_pair : (xs : List ℕ) (n d k : ℕ) → length xs ≡ n + n → k ≡ d + d → at (pair_sums xs) d ≡ at xs k + at xs (suc k)
at_pair [] n d k even e = refl
at_pair (x ∷ []) n d k even e = absurd (omega arith)
at_pair (x ∷ y ∷ xs) zero d k even e = absurd (omega arith)
at_pair (x ∷ y ∷ xs) (suc n) zero zero even e = refl
at_pair (x ∷ y ∷ xs) (suc n) zero (suc k) even e = absurd (omega arith)
at_pair (x ∷ y ∷ xs) (suc n) (suc d) zero even e = absurd (omega arith)
at_pair (x ∷ y ∷ xs) (suc n) (suc d) (suc zero) even e = absurd (omega arith)
at_pair (x ∷ y ∷ xs) (suc n) (suc d) (suc (suc k)) even e = at_pair xs n d k (omega arith) (omega arith)

mark_both : (x y : ℕ) → mark x + where_none x (mark y) ≡ mark (x + y)
mark_both zero y = let e : y ≡ 0 + y = omega arith in omega (arith, ap mark e)
mark_both (suc x) y = sym (mark_some (suc x + y) (omega arith))

-- where the entries are those that have a count, the directories are those that have one
pub named_tracked : (counts es dirs : List ℕ) (n : ℕ) → length counts ≡ n + n → ((d : ℕ) → times dirs d ≡ named counts es d)
    → IsTracked counts es → IsTracked (pair_sums counts) dirs
named_tracked counts es dirs n even is t = record { once = λ d. once d }
  where
    once : (d : ℕ) → times dirs d ≡ mark (at (pair_sums counts) d)
    once d =
        let next : suc (d + d) ≡ d + d + 1 = omega arith in
        let reads = t.once (d + d) in
        let writes = ap (where_none (at counts (d + d))) (t.once (d + d + 1)) in
        let both = mark_both (at counts (d + d)) (at counts (d + d + 1)) in
        let pair = ap mark (at_pair counts n d (d + d) even refl ∙ ap (λ (k : ℕ). at counts (d + d) + at counts k) next) in
        omega (arith, is d, reads, writes, both, pair)
