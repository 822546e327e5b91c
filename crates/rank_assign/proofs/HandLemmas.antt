-- Parts move along a way, from its end.
use Rattle.std.proofs.Common.{◌≡◌, ◌≢◌, ◌∙◌, ap, sym, refl, ℕ, ◌+◌, ◌<◌, ◌≤◌, inl, inr, arith, ⊎_elim}
use Rattle.std.proofs.lemmas.Bool.{cases_eq}
use Rattle.rank_assign.specs.Matching.{ArePlaced}
use Rattle.rank_assign.specs.Ways.{ArePaths, IsHandedTo}

-- the parts below s have ranks other than this place; what is there no longer counts
pub record IsHanding (r : ℕ) (owner via turn own : ℕ → ℕ) (s place : ℕ) : Type 0 where
  pub inside : place < r
  pub seen : 0 < turn place
  pub same : (i : ℕ) → i < r → 0 < turn i → turn i < turn place → own i ≡ owner i
  pub placed : (p : ℕ) → p < s → (j : ℕ) × (j < r) × (j ≢ place) × (own j ≡ p + 1)
  pub once : (i j : ℕ) → i < r → j < r → i ≢ place → j ≢ place → 0 < own i → own i ≡ own j → i ≡ j
  pub handed : (p j : ℕ) → j < r → j ≢ place → own j ≡ p + 1 → IsHandedTo owner via turn s p j
  pub free : (j : ℕ) → j < r → j ≢ place → own j ≡ 0 → owner j ≡ 0
  pub owned : (j : ℕ) → j < r → j ≢ place → own j ≤ s

pub handing_start :
    (r : ℕ) (owner via turn : ℕ → ℕ) (s e : ℕ) → e < r → 0 < turn e → owner e ≡ 0 → ArePlaced r owner s
    → IsHanding r owner via turn owner s e
handing_start r owner via turn s e inside seen free parts = record {
  inside = inside;
  seen = seen;
  same = λ i l seen_i before. refl;
  placed = λ p l.
      (let (j, lj, is) = parts.placed p l in
      (j, lj, λ same. omega (arith, ap owner same, is, free), is));
  once = λ i j li lj other_i other_j some same. parts.once i j li lj some same;
  handed = λ p j l other is. inl is;
  free = λ j l other none. none;
  owned = λ j l other. parts.owned j l;
}

pub handing_step :
    (r : ℕ) (owner via turn own own2 : ℕ → ℕ) (s place i : ℕ) → ArePaths r owner via turn → via place ≡ i + 1
    → own2 place ≡ own i → ((j : ℕ) → j ≢ place → own2 j ≡ own j) → IsHanding r owner via turn own s place
    → IsHanding r owner via turn own2 s i
handing_step r owner via turn own own2 s place i paths way here other old =
    let step = paths i place old.inside old.seen way in
    let apart : i ≢ place = λ same. omega (arith, ap turn same, step.before) in
    let was : own i ≡ owner i = old.same i step.inside step.seen step.before in
    record {
      inside = step.inside;
      seen = step.seen;
      same = λ j l seen before.
          other j (λ same. omega (arith, ap turn same, before, step.before)) ∙ old.same j l seen (omega (arith, before, step.before));
      placed = λ p l.
          (let (j, lj, far, is) = old.placed p l in
          ⊎_elim (λ (this : j ≡ i). (place, old.inside, (λ same. apart (sym same)), here ∙ (ap own (sym this) ∙ is)))
          (λ (another : j ≢ i). (j, lj, another, other j far ∙ is))
          (cases_eq j i));
      once = λ x y lx ly other_x other_y some same.
          ⊎_elim
          (λ (x_is : x ≡ place).
          ⊎_elim (λ (y_is : y ≡ place). x_is ∙ sym y_is)
          (λ (y_not : y ≢ place).
          absurd
          (other_y
          (sym
          (old.once i y step.inside ly apart y_not (omega (arith, was, step.owned))
          (sym here ∙ (ap own2 (sym x_is) ∙ (same ∙ other y y_not)))))))
          (cases_eq y place))
          (λ (x_not : x ≢ place).
          ⊎_elim
          (λ (y_is : y ≡ place).
          absurd
          (other_x
          (sym
          (old.once i x step.inside lx apart x_not (omega (arith, was, step.owned))
          (sym here ∙ (ap own2 (sym y_is) ∙ (sym same ∙ other x x_not)))))))
          (λ (y_not : y ≢ place).
          old.once x y lx ly x_not y_not (omega (arith, other x x_not, some)) (sym (other x x_not) ∙ (same ∙ other y y_not)))
          (cases_eq y place))
          (cases_eq x place);
      handed = λ p j l far is.
          ⊎_elim
          (λ (j_is : j ≡ place).
          inr (inl (record {
            from = i;
            way = ap via j_is ∙ way;
            seen = omega (arith, ap turn j_is, old.seen);
            had = sym was ∙ (sym here ∙ (ap own2 (sym j_is) ∙ is));
          })))
          (λ (j_not : j ≢ place). old.handed p j l j_not (sym (other j j_not) ∙ is))
          (cases_eq j place);
      free = λ j l far none.
          ⊎_elim (λ (j_is : j ≡ place). absurd (omega (arith, ap own2 j_is, here, was, step.owned, none)))
          (λ (j_not : j ≢ place). old.free j l j_not (sym (other j j_not) ∙ none))
          (cases_eq j place);
      owned = λ j l far.
          ⊎_elim (λ (j_is : j ≡ place). omega (arith, ap own2 j_is, here, old.owned i step.inside apart))
          (λ (j_not : j ≢ place). omega (arith, other j j_not, old.owned j l j_not))
          (cases_eq j place);
    }

-- the part that is placed takes the first rank
pub handing_end :
    (r : ℕ) (owner via turn own own2 : ℕ → ℕ) (s place : ℕ) → via place ≡ 0
    → own2 place ≡ s + 1 → ((j : ℕ) → j ≢ place → own2 j ≡ own j) → IsHanding r owner via turn own s place
    → ArePlaced r own2 (s + 1)
    × ((p j : ℕ) → j < r → own2 j ≡ p + 1 → IsHandedTo owner via turn s p j)
    × ((j : ℕ) → j < r → own2 j ≡ 0 → owner j ≡ 0)
handing_end r owner via turn own own2 s place way here other old = (
  record {
    owned = λ j l.
        ⊎_elim (λ (j_is : j ≡ place). omega (arith, ap own2 j_is, here))
        (λ (j_not : j ≢ place). omega (arith, other j j_not, old.owned j l j_not))
        (cases_eq j place);
    placed = λ p l.
        ⊎_elim (λ (p_is : p ≡ s). (place, old.inside, here ∙ ap (λ x. x + 1) (sym p_is)))
        (λ (p_not : p ≢ s).
        let (j, lj, far, is) = old.placed p (omega arith) in (j, lj, other j far ∙ is))
        (cases_eq p s);
    once = λ x y lx ly some same.
        ⊎_elim
        (λ (x_is : x ≡ place).
        ⊎_elim (λ (y_is : y ≡ place). x_is ∙ sym y_is)
        (λ (y_not : y ≢ place).
        absurd (omega (arith, ap own2 x_is, here, same, other y y_not, old.owned y ly y_not)))
        (cases_eq y place))
        (λ (x_not : x ≢ place).
        ⊎_elim
        (λ (y_is : y ≡ place).
        absurd (omega (arith, ap own2 y_is, here, same, other x x_not, old.owned x lx x_not)))
        (λ (y_not : y ≢ place).
        old.once x y lx ly x_not y_not (omega (arith, other x x_not, some)) (sym (other x x_not) ∙ (same ∙ other y y_not)))
        (cases_eq y place))
        (cases_eq x place);
  },
  λ p j l is.
      ⊎_elim
      (λ (j_is : j ≡ place).
      inr (inr (record {
        way = ap via j_is ∙ way;
        seen = omega (arith, ap turn j_is, old.seen);
        part = omega (arith, ap own2 j_is, here, is);
      })))
      (λ (j_not : j ≢ place). old.handed p j l j_not (sym (other j j_not) ∙ is))
      (cases_eq j place),
  λ j l none.
      ⊎_elim (λ (j_is : j ≡ place). absurd (omega (arith, ap own2 j_is, here, none)))
      (λ (j_not : j ≢ place). old.free j l j_not (sym (other j j_not) ∙ none))
      (cases_eq j place),
)
