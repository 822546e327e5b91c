-- Each move keeps the rule.
use Rattle.std.proofs.Common.{◌≡◌, ◌≢◌, ℕ, ◌+◌, ◌*◌, ◌≤◌, List, [], ◌∷◌, ◌++◌, set, true, false, true≢false, refl, sym, ap, ◌∙◌, subst, ⊎_elim, arith}
use mathlib.Core.Option.{some}
use lib.ListN.{get_elem?}
use Rattle.atomic_table.specs.Table.{Step, Me, Act, Allows, Splits, Joins}
use Rattle.atomic_table.proofs.Lists.{at_set, at_snoc, set_again}
use Rattle.heat_ledger.specs.declared.tally.TokenState.{TokenState}
use Rattle.heat_ledger.specs.Rows.{at}
use Rattle.heat_ledger.specs.Tally.{sum_over, share_state, most, IsBalanced, IsBalancedTable, both_of, after_issue, CanIssue, IsLearned, Learns}
use Rattle.heat_ledger.proofs.RowLemmas.{at_sums}
use Rattle.heat_ledger.proofs.Totals.{total_set, total_snoc, total_get, total_scaled}

off : (v : TokenState) → v.has_totals ≡ false → v.has_totals ≡ true → ⊥
off v n y = true≢false (sym y ∙ n)

-- a new token with these amounts, of which the authority's totals know
pub issues : (id : ℕ) (v : TokenState) (parts : ℕ) (amounts rest extra : List ℕ) → CanIssue parts amounts rest extra v
    → (views : List TokenState) → IsBalanced views → get_elem? views id ≡ some v
    → IsBalanced (set views id (after_issue parts rest extra v) ++ share_state parts amounts ∷ [])
issues id v parts amounts rest extra can views b here =
    let w = after_issue parts rest extra v in
    let n = share_state parts amounts in
    let mine = b.sums id v here can.has_totals in
    let sum : (f : TokenState → ℕ) → sum_over f (set views id w ++ n ∷ []) + f v
    ≡ sum_over f views + f w + f n = λ f. (let s = total_set f views id v w here in let t = total_snoc f (set views id w) n in
    omega arith) in
    record {
      token = b.token;
      whole = (let s = sum (λ u. u.parts) in let a = b.whole in omega arith);
      sums = λ by u e y. ⊎_elim
          (λ old. ⊎_elim
          (λ (x : (by ≡ id) × (w ≡ u)). (
            x.0 ∙ mine.0,
            λ k. subst (λ (z : TokenState). sum_over (λ q. at q.amounts k) (set views id w ++ n ∷ []) ≡ at z.totals k) x.1
                (let s = sum (λ q. at q.amounts k) in let t = mine.1 k in let a = at_sums v.totals extra k in let d = can.same k in omega arith),
          ))
          (λ (x : (by ≢ id) × (get_elem? views by ≡ some u)). absurd (x.0 ((b.sums by u x.1 y).0 ∙ sym mine.0)))
          (at_set views id by w u old))
          (λ (new : n ≡ u). absurd (off u (ap (λ (z : TokenState). z.has_totals) (sym new)) y))
          (at_snoc (set views id w) n u by e);
      backed = λ by u e k. ⊎_elim
          (λ old. ⊎_elim
          (λ (x : (by ≡ id) × (w ≡ u)). subst (λ (z : TokenState). at z.amounts k ≤ z.parts * most) x.1 (can.left k))
          (λ (x : (by ≢ id) × (get_elem? views by ≡ some u)). b.backed by u x.1 k)
          (at_set views id by w u old))
          (λ (new : n ≡ u). subst (λ (z : TokenState). at z.amounts k ≤ z.parts * most) new (can.backed k))
          (at_snoc (set views id w) n u by e);
    }

pub splits : (id : ℕ) (v : TokenState) (parts : ℕ) (amounts rest extra : List ℕ) → CanIssue parts amounts rest extra v
    → Splits IsBalancedTable id v (after_issue parts rest extra v) (share_state parts amounts)
splits id v parts amounts rest extra can s h here = issues id v parts amounts rest extra can s.views h here

-- a token takes in a holder's token
pub joins : (id : ℕ) (v : TokenState) (other : ℕ) (w : TokenState) → w.has_totals ≡ false → Joins IsBalancedTable id v other w (both_of v w) (share_state 0 [])
joins id v other w held s b here apart there =
    let views = s.views in
    let one = both_of v w in
    let none = share_state 0 [] in
    let mid = set views id one in
    let theirs : get_elem? views other ≡ some w = ⊎_elim (λ (t : (other ≡ id) × (one ≡ w)). absurd (apart t.0))
    (λ (t : (other ≢ id) × (get_elem? views other ≡ some w)). t.1) (at_set views id other one w there) in
    let sum : (f : TokenState → ℕ) → sum_over f (set mid other none) + f w + f v
    ≡ sum_over f views + f one + f none = λ f. (let p = total_set f views id v one here in let q = total_set f mid other w none there in
    omega arith) in
    let amount : (k : ℕ) → sum_over (λ q. at q.amounts k) (set mid other none)
    ≡ sum_over (λ q. at q.amounts k) views = λ k. (let p = sum (λ q. at q.amounts k) in let a = at_sums v.amounts w.amounts k in
    omega arith) in
    record {
      token = b.token;
      whole = (let p = sum (λ u. u.parts) in let a = b.whole in omega arith);
      sums = λ by u e y. ⊎_elim
          (λ (x : (by ≡ other) × (none ≡ u)). absurd (off u (ap (λ (z : TokenState). z.has_totals) (sym x.1)) y))
          (λ (x : (by ≢ other) × (get_elem? mid by ≡ some u)). ⊎_elim
          (λ (z : (by ≡ id) × (one ≡ u)).
          let old = b.sums id v here (ap (λ (q : TokenState). q.has_totals) z.1 ∙ y) in (
            z.0 ∙ old.0,
            λ k. amount k ∙ (old.1 k ∙ ap (λ (q : TokenState). at q.totals k) z.1),
          ))
          (λ (z : (by ≢ id) × (get_elem? views by ≡ some u)). let old = b.sums by u z.1 y in (old.0, λ k. amount k ∙ old.1 k))
          (at_set views id by one u x.1))
          (at_set mid other by none u e);
      backed = λ by u e k. ⊎_elim
          (λ (x : (by ≡ other) × (none ≡ u)). subst (λ (z : TokenState). at z.amounts k ≤ z.parts * most) x.1 (omega arith))
          (λ (x : (by ≢ other) × (get_elem? mid by ≡ some u)). ⊎_elim
          (λ (z : (by ≡ id) × (one ≡ u)). subst (λ (q : TokenState). at q.amounts k ≤ q.parts * most) z.1
          (let p = b.backed id v here k in let q = b.backed other w theirs k in let a = at_sums v.amounts w.amounts k in omega arith))
          (λ (z : (by ≢ id) × (get_elem? views by ≡ some u)). b.backed by u z.1 k)
          (at_set views id by one u x.1))
          (at_set mid other by none u e);
    }

-- what the rule says of one token
pub tells : (views : List TokenState) → IsBalanced views → (id : ℕ) (v : TokenState) → get_elem? views id ≡ some v → IsLearned v
tells views b id v here = record {
  parts = (let p = total_get (λ u. u.parts) views id v here in let a = b.whole in omega arith);
  backed = b.backed id v here;
  within = λ has_totals k.
      let sums = (b.sums id v here has_totals).1 k in
      let p = total_get (λ u. at u.amounts k) views id v here in
      let q = total_scaled (λ u. at u.amounts k) (λ u. u.parts) most views (λ by u e. b.backed by u e k) in
      let a = b.whole in
      (omega arith, omega arith);
  whole = λ has_totals all k.
      let none = share_state 0 [] in
      let sums = (b.sums id v here has_totals).1 k in
      let p = total_set (λ u. u.parts) views id v none here in
      let q = total_set (λ u. at u.amounts k) views id v none here in
      let rest = total_scaled (λ u. at u.amounts k) (λ u. u.parts) most (set views id none) (λ by u e. ⊎_elim
      (λ (x : (by ≡ id) × (none ≡ u)). subst (λ (z : TokenState). at z.amounts k ≤ z.parts * most) x.1 (omega arith))
      (λ (x : (by ≢ id) × (get_elem? views by ≡ some u)). b.backed by u x.1 k)
      (at_set views id by none u e)) in
      let a = b.whole in
      omega arith;
}

pub learns : (slots id : ℕ) (me : Me ℕ TokenState) (st : Step ℕ) → Allows IsBalancedTable slots id me 0 (λ n. n) (Learns st me)
learns slots id me st s b homes here fits = (
  me.0,
  Act.keeps,
  tt,
  subst IsBalanced (sym (set_again s.views id me.0 here)) b,
  (refl, tells s.views b id me.0 here),
)
