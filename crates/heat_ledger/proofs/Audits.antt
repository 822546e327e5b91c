-- What the authority learns while it has all that the shares have.
use Rattle.std.proofs.Common.{◌≡◌, ℕ, ◌+◌, ◌-◌, ◌*◌, ◌≤◌, List, [], ◌∷◌, ◌++◌, sum_by, refl, ap, ◌∙◌, ⊎_elim, arith}
use Rattle.std.proofs.lemmas.List.Sums.{sum_by_push}
use Rattle.heat_ledger.specs.declared.tally.TokenState.{TokenState}
use Rattle.mds_types.specs.declared.kind.Kind.TheVariants.{Read}
use Rattle.heat_ledger.specs.Counts.{CountsData}
use Rattle.heat_ledger.specs.Rows.{at, entry, differences}
use Rattle.heat_ledger.specs.Tally.{most, both_of, after_issue, share_state, CanIssue}
use Rattle.heat_ledger.specs.Ledger.{ShareData, hit_slot, begun_slot, laid_out, IsShare}
use Rattle.heat_ledger.specs.Gathering.{IsAudited}
use Rattle.heat_ledger.proofs.RowLemmas.{at_sums, at_differences, at_evens}
use Rattle.heat_ledger.proofs.Shares.{shown}
use Rattle.heat_ledger.proofs.Slots.{at_laid_out_hits, at_laid_out_begun, entry_is}

-- a share's counts say what its token has
pub laid_amounts : (limit : ℕ) (u : TokenState) (weight : ℕ) (counts : CountsData) → IsShare limit u weight counts → (k : ℕ)
    → at (laid_out counts) k ≡ at u.amounts k
laid_amounts limit u weight counts s k = ⊎_elim
    (λ (h : (d : ℕ) × (k ≡ hit_slot d)).
    let d = h.0 in
    let a = at_laid_out_hits counts d k h.1 in
    let e : at u.amounts k ≡ at u.amounts (hit_slot d) = ap (at u.amounts) h.1 in
    let f = s.known d in
    omega arith)
    (λ (h : (d : ℕ) × (k ≡ begun_slot d)).
    let d = h.0 in
    let a = at_laid_out_begun counts d k h.1 in
    let e : at u.amounts k ≡ at u.amounts (begun_slot d) = ap (at u.amounts) h.1 in
    let f = s.begins d in
    omega arith)
    (entry_is k)

-- with these amounts it is a share again
pub laid_share : (limit : ℕ) (u : TokenState) (weight : ℕ) (counts : CountsData) → IsShare limit u weight counts
    → IsShare limit (share_state weight (laid_out counts)) weight counts
laid_share limit u weight counts s = record {
  holds = refl;
  weighs = refl;
  some = s.some;
  light = s.light;
  known = λ d. (let a = at_laid_out_hits counts d (hit_slot d) refl in let f = s.known d in omega arith);
  begins = λ d. at_laid_out_begun counts d (begun_slot d) refl;
  room = s.room;
  as_hits = s.as_hits;
  as_pending = s.as_pending;
  as_begun = s.as_begun;
}

-- together they rest on their parts
pub backed_both : (v u w : TokenState) → w ≡ both_of v u → ((k : ℕ) → at v.amounts k ≤ v.parts * most)
    → ((k : ℕ) → at u.amounts k ≤ u.parts * most) → (k : ℕ) → at w.amounts k ≤ w.parts * most
backed_both v u w is mine theirs k =
    let m = mine k in
    let t = theirs k in
    let a : at w.amounts k ≡ at v.amounts k + at u.amounts k = ap (λ (h : TokenState). at h.amounts k) is ∙ at_sums v.amounts u.amounts k in
    let p : w.parts * most ≡ (v.parts + u.parts) * most = ap (λ (h : TokenState). h.parts * most) is in
    omega arith

-- the authority can give a share's amounts back
pub can_give_back : (limit : ℕ) (v u w x : TokenState) (weight : ℕ) (counts : CountsData) (left : List ShareData)
    → IsShare limit u weight counts → w ≡ both_of v u → IsAudited w x left
    → ((k : ℕ) → at v.amounts k ≤ v.parts * most) → ((k : ℕ) → at u.amounts k ≤ u.parts * most)
    → CanIssue weight (laid_out counts) (differences x.amounts (laid_out counts)) [] x
can_give_back limit v u w x weight counts left s is audited mine theirs = record {
  has_totals = audited.has_totals;
  few = omega (arith, parts, s.weighs);
  same = λ k. omega (arith, amount k, laid k, at_differences x.amounts (laid_out counts) k);
  backed = λ k. omega (arith, laid k, theirs k, ap (λ (n : ℕ). n * most) s.weighs);
  left = λ k. (let n : (x.parts - weight) * most ≡ v.parts * most = ap (λ (n : ℕ). n * most) (omega (arith, parts, s.weighs)) in
      omega (arith, n, amount k, laid k, mine k, at_differences x.amounts (laid_out counts) k));
}
  where
    parts : x.parts ≡ v.parts + u.parts
    parts = audited.parts ∙ ap (λ (h : TokenState). h.parts) is

    laid : (k : ℕ) → at (laid_out counts) k ≡ at u.amounts k
    laid k = laid_amounts limit u weight counts s k

    amount : (k : ℕ) → at x.amounts k ≡ at v.amounts k + at u.amounts k
    amount k = audited.amounts k ∙ ap (λ (h : TokenState). at h.amounts k) is ∙ at_sums v.amounts u.amounts k

-- The authority has one share more, which it gave its amounts back. The amounts are by entry, and the share has those of each directory.
pub audited_more : (limit : ℕ) (v u w x z : TokenState) (all left : List ShareData) (weight : ℕ) (counts : CountsData)
    → IsShare limit u weight counts → w ≡ both_of v u → IsAudited w x left → all ≡ left ++ shown weight counts ∷ []
    → z ≡ after_issue weight (differences x.amounts (laid_out counts)) [] x → IsAudited v z all
audited_more limit v u w x z all left weight counts s is audited order gave =
    let weighs = s.weighs in
    let p : w.parts ≡ v.parts + u.parts = ap (λ (h : TokenState). h.parts) is in
    let q = audited.parts in
    let amount : (k : ℕ) → at w.amounts k ≡ at v.amounts k + at u.amounts k = λ k. ap (λ (h : TokenState). at h.amounts k) is ∙ at_sums v.amounts u.amounts k in
    let total : (k : ℕ) → at w.totals k ≡ at v.totals k = λ k. ap (λ (h : TokenState). at h.totals k) is in
    let sum : (f : ShareData → ℕ) → sum_by f all ≡ sum_by f left + f (shown weight counts) = λ f. ap (sum_by f) order
    ∙ sum_by_push f left (shown weight counts) in
    record {
      has_totals = ap (λ (h : TokenState). h.has_totals) gave ∙ audited.has_totals;
      parts = omega (arith, ap (λ (h : TokenState). h.parts) gave, p, q, weighs);
      amounts = λ k. omega (
        arith,
        ap (λ (h : TokenState). at h.amounts k) gave,
        at_differences x.amounts (laid_out counts) k,
        audited.amounts k,
        amount k,
        laid_amounts limit u weight counts s k,
      );
      totals = λ k. omega (arith, ap (λ (h : TokenState). at h.totals k) gave, at_sums x.totals [] k, audited.totals k, total k);
      hits = λ every d. omega (
        arith,
        sum (λ s. at s.hits d),
        sum (λ s. at s.pending d),
        audited.hits (omega (arith, p, weighs, every, sum (λ s. s.weight))) d,
        amount (hit_slot d),
        total (hit_slot d),
        s.known d,
      );
      begun = λ every d.
          let e = entry d Read in
          omega (
            arith,
            sum (λ s. at s.begun d),
            audited.begun (omega (arith, p, weighs, every, sum (λ s. s.weight))) d,
            amount (begun_slot e),
            total (begun_slot e),
            s.begins e,
            at_evens counts.begun d,
          );
    }
