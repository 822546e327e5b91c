-- The heats of earlier hours, as they follow the directories.
use Rattle.std.proofs.Common.{◌≡◌, ◌≢◌, ◌∙◌, ◌<◌, ◌+◌, ◌++◌, ◌∷◌, ℕ, Bool, List, []}
use Rattle.std.proofs.Common.{Global, Vec, false, true, ap, arith, length, refl, slice_index, sym, ⊎_elim}
use Rattle.std.proofs.lemmas.Bool.{both_ways, cases_eq}
use Rattle.std.proofs.lemmas.List.{get_or_append_left, get_or_push}
use Rattle.ceph_snapshot.specs.Holding.{is_marked}
use Rattle.ceph_folding.specs.Folding.{AreHeatsLeft, AreHoursLeft, kept_below}
use Rattle.ceph_folding.proofs.Folds.{all_kept, kept_lt, own_brought}

-- one more heat that is kept
pub keep_more : (gone : List Bool) (heats kept : List ℕ) (x at : ℕ) → length kept ≡ kept_below (is_marked gone) at → x ≡ slice_index heats at
    → ((i : ℕ) → i < at → is_marked gone i ≡ false → slice_index kept (kept_below (is_marked gone) i) ≡ slice_index heats i)
    → (i : ℕ) → i < at + 1 → is_marked gone i ≡ false → slice_index (kept ++ x ∷ []) (kept_below (is_marked gone) i) ≡ slice_index heats i
keep_more gone heats kept x at size is before i l keeps =
    ⊎_elim (λ (last : i ≡ at).
    ap (λ (k : ℕ). slice_index (kept ++ x ∷ []) k) (ap (kept_below (is_marked gone)) last ∙ sym size)
    ∙ (get_or_push kept x 0 (length kept) refl ∙ (is ∙ ap (slice_index heats) (sym last))))
    (λ (other : i ≢ at).
    let inside : i < at = omega (arith, other, l) in
    get_or_append_left kept (x ∷ []) 0 (kept_below (is_marked gone) i) (omega (arith, kept_lt (is_marked gone) i at inside keeps, size))
    ∙ before i inside keeps)
    (cases_eq i at)

-- one more that is gone
pub keep_same : (gone : List Bool) (heats kept : List ℕ) (at : ℕ) → is_marked gone at ≡ true
    → ((i : ℕ) → i < at → is_marked gone i ≡ false → slice_index kept (kept_below (is_marked gone) i) ≡ slice_index heats i)
    → (i : ℕ) → i < at + 1 → is_marked gone i ≡ false → slice_index kept (kept_below (is_marked gone) i) ≡ slice_index heats i
keep_same gone heats kept at goes before i l keeps =
    ⊎_elim (λ (last : i ≡ at). absurd (both_ways (is_marked gone at) (sym (ap (is_marked gone) last) ∙ keeps) goes))
    (λ (other : i ≢ at). before i (omega (arith, other, l)) keeps)
    (cases_eq i at)

-- nothing is gone
heats_same : (heats : List ℕ) → AreHeatsLeft (λ i. false) (λ i. i) heats heats
heats_same heats = record {
  size = sym (all_kept (length heats));
  kept = λ i l is. ap (slice_index heats) (all_kept i) ∙ sym (own_brought (length heats) i (slice_index heats) l);
}

pub hours_same : (hours : List (Vec ℕ Global)) → AreHoursLeft (λ i. false) (λ i. i) hours hours
hours_same [] = tt
hours_same (hour ∷ hours) = (heats_same hour.items, hours_same hours)
