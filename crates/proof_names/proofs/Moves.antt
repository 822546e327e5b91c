-- Each move keeps the rule.
use Rattle.std.proofs.Common.{◌≡◌, ◌≢◌, ℕ, zero, suc, List, [], ◌∷◌, ◌++◌, set, true}
use Rattle.std.proofs.Common.{false, true≢false, refl, sym, ap, ◌∙◌, subst, ⊎_elim, append-nil, append_assoc}
use mathlib.Core.List.{IsPrefix}
use mathlib.Core.Option.{some, some-ne-none, some-injective}
use lib.ListN.{get_elem?}
use Rattle.atomic_table.specs.Table.{Step, Me, Act, Allows, Splits, Joins}
use Rattle.atomic_table.proofs.Lists.{at_set, at_snoc, set_again}
use Rattle.proof_names.specs.declared.rule.TokenState.{TokenState}
use Rattle.proof_names.specs.Growing.{IsGrowing, IsGrowingTable, Grows, Learns, shown_of, state, told}

module _ {E : Type 0} where
  all : (xs : List E) → IsPrefix xs xs
  all xs = ([], append-nil xs)

  follows : (xs ys zs : List E) → IsPrefix xs ys → IsPrefix ys zs → IsPrefix xs zs
  follows xs ys zs p q = (p.0 ++ q.0, sym (append_assoc xs p.0 q.0) ∙ (ap (λ (l : List E). l ++ q.0) p.1 ∙ q.1))

  off : (v : TokenState E) → v.leads ≡ false → v.leads ≡ true → ⊥
  off v n y = true≢false (sym y ∙ n)

  pub begins : IsGrowing {E = E} (state true [] [] ∷ [])
  begins = record { token = 0; log = []; whole = one; part = two }
    where
      one : (by : ℕ) (v : TokenState E) → get_elem? (state {E = E} true [] [] ∷ []) by ≡ some v → v.leads ≡ true → (by ≡ 0) × (v.log ≡ [])
      one zero v e y = (refl, ap (λ (u : TokenState E). u.log) (sym (some-injective (state true [] []) v e)))
      one (suc by) v e y = absurd (some-ne-none v (sym e))

      two : (by : ℕ) (v : TokenState E) → get_elem? (state {E = E} true [] [] ∷ []) by ≡ some v → IsPrefix v.log [] × IsPrefix v.shown []
      two zero v e = subst (λ (u : TokenState E). IsPrefix u.log [] × IsPrefix u.shown []) (some-injective (state true [] []) v e) (all [], all [])
      two (suc by) v e = absurd (some-ne-none v (sym e))

  grows_on : (views : List (TokenState E)) (id : ℕ) (v : TokenState E) (longer : List E) → IsGrowing views → get_elem? views id ≡ some v → v.leads ≡ true
      → IsPrefix v.log longer → IsGrowing (set views id (state true longer v.shown))
  grows_on views id v longer b here leads more =
      let w = state true longer v.shown in
      let mine = b.whole id v here leads in
      let on : (xs : List E) → IsPrefix xs b.log → IsPrefix xs longer =
      λ xs p. follows xs v.log longer (subst (λ (l : List E). IsPrefix xs l) (sym mine.1) p) more in
      record {
        token = b.token;
        log = longer;
        whole = λ by u e y. ⊎_elim
            (λ (x : (by ≡ id) × (w ≡ u)). (x.0 ∙ mine.0, ap (λ (z : TokenState E). z.log) (sym x.1)))
            (λ (x : (by ≢ id) × (get_elem? views by ≡ some u)). absurd (x.0 ((b.whole by u x.1 y).0 ∙ sym mine.0)))
            (at_set views id by w u e);
        part = λ by u e. ⊎_elim
            (λ (x : (by ≡ id) × (w ≡ u)). subst (λ (z : TokenState E). IsPrefix z.log longer × IsPrefix z.shown longer) x.1
            (all longer, on v.shown (b.part id v here).1))
            (λ (x : (by ≢ id) × (get_elem? views by ≡ some u)). (on u.log (b.part by u x.1).0, on u.shown (b.part by u x.1).1))
            (at_set views id by w u e);
      }

  one_more : (views : List (TokenState E)) (id : ℕ) (v : TokenState E) → IsGrowing views → get_elem? views id ≡ some v → IsGrowing (views ++ shown_of v ∷ [])
  one_more views id v b here =
      let n = shown_of v in record {
        token = b.token;
        log = b.log;
        whole = λ by u e y. ⊎_elim
            (λ (old : get_elem? views by ≡ some u). b.whole by u old y)
            (λ (new : n ≡ u). absurd (off u (ap (λ (z : TokenState E). z.leads) (sym new)) y))
            (at_snoc views n u by e);
        part = λ by u e. ⊎_elim
            (λ (old : get_elem? views by ≡ some u). b.part by u old)
            (λ (new : n ≡ u). subst (λ (z : TokenState E). IsPrefix z.log b.log × IsPrefix z.shown b.log) new ((b.part id v here).0, (b.log, refl)))
            (at_snoc views n u by e);
      }

  -- a new token
  pub splits : (id : ℕ) (v : TokenState E) → Splits IsGrowingTable id v v (shown_of v)
  splits id v s b here = subst (λ (vs : List (TokenState E)). IsGrowing (vs ++ shown_of v ∷ [])) (sym (set_again s.views id v here))
      (one_more s.views id v b here)

  -- a token takes in another
  pub joins : (id : ℕ) (v : TokenState E) (other : ℕ) (w : TokenState E) → Joins IsGrowingTable id v other w (told v w) (state false [] [])
  joins id v other w s b here apart there =
      let views = s.views in
      let one = told v w in
      let none : TokenState E = state false [] [] in
      let mid = set views id one in
      let theirs : get_elem? views other ≡ some w = ⊎_elim (λ (t : (other ≡ id) × (one ≡ w)). absurd (apart t.0))
      (λ (t : (other ≢ id) × (get_elem? views other ≡ some w)). t.1) (at_set views id other one w there) in
      record {
        token = b.token;
        log = b.log;
        whole = λ by u e y. ⊎_elim
            (λ (x : (by ≡ other) × (none ≡ u)). absurd (off u (ap (λ (z : TokenState E). z.leads) (sym x.1)) y))
            (λ (x : (by ≢ other) × (get_elem? mid by ≡ some u)). ⊎_elim
            (λ (z : (by ≡ id) × (one ≡ u)).
            let old = b.whole id v here (ap (λ (q : TokenState E). q.leads) z.1 ∙ y) in (z.0 ∙ old.0, ap (λ (q : TokenState E). q.log) (sym z.1) ∙ old.1))
            (λ (z : (by ≢ id) × (get_elem? views by ≡ some u)). b.whole by u z.1 y)
            (at_set views id by one u x.1))
            (at_set mid other by none u e);
        part = λ by u e. ⊎_elim
            (λ (x : (by ≡ other) × (none ≡ u)). subst (λ (z : TokenState E). IsPrefix z.log b.log × IsPrefix z.shown b.log) x.1 ((b.log, refl), (b.log, refl)))
            (λ (x : (by ≢ other) × (get_elem? mid by ≡ some u)). ⊎_elim
            (λ (z : (by ≡ id) × (one ≡ u)). subst (λ (q : TokenState E). IsPrefix q.log b.log × IsPrefix q.shown b.log) z.1
            ((b.part id v here).0, (b.part other w theirs).0))
            (λ (z : (by ≢ id) × (get_elem? views by ≡ some u)). b.part by u z.1)
            (at_set views id by one u x.1))
            (at_set mid other by none u e);
      }

  -- the leading token learns that what it was shown is a beginning of the log
  pub learns : (slots id : ℕ) (me : Me ℕ (TokenState E)) (st : Step ℕ) → me.0.leads ≡ true → Allows IsGrowingTable slots id me 0 (λ n. n) (Learns st me)
  learns slots id me st leads s b homes here fits = (
    me.0,
    Act.keeps,
    tt,
    subst IsGrowing (sym (set_again s.views id me.0 here)) b,
    (refl, subst (λ (l : List E). IsPrefix me.0.shown l) (sym (b.whole id me.0 here leads).1) (b.part id me.0 here).1),
  )

  -- the log goes on
  pub grows : (slots id : ℕ) (me : Me ℕ (TokenState E)) (st : Step ℕ) (longer : List E) → me.0.leads ≡ true → IsPrefix me.0.log longer
      → Allows IsGrowingTable slots id me 0 (λ n. n) (Grows longer st me)
  grows slots id me st longer leads more s b homes here fits = (
    state true longer me.0.shown,
    Act.keeps,
    tt,
    grows_on s.views id me.0 longer b here leads more,
    refl,
  )
