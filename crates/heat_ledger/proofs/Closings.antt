-- What a book has when shares are taken back.
use Rattle.std.proofs.Common.{◌≡◌, ℕ, zero, suc, ◌+◌, ◌-◌, ◌*◌, ◌≤◌, List, [], ◌∷◌, ◌++◌, All, replicate, sum_by, refl, sym, ap, ◌∙◌, true, subst, arith}
use Rattle.std.proofs.lemmas.List.Sums.{sum_by_push}
use Rattle.std.proofs.lemmas.List.Elements.{All-append}
use Rattle.heat_ledger.specs.declared.tally.TokenState.{TokenState}
use Rattle.mds_types.specs.declared.kind.Kind.TheVariants.{Read}
use Rattle.heat_ledger.specs.Rows.{at, entry}
use Rattle.heat_ledger.specs.Tally.{most, all_parts, both_of, after_issue, IsLearned}
use Rattle.heat_ledger.specs.Ledger.{ShareData, IsClean, weight_of, hits_of, begun_of, hit_slot, begun_slot, IsShareToken, IsBook}
use Rattle.heat_ledger.specs.Gathering.{IsGathered}
use Rattle.heat_ledger.proofs.RowLemmas.{at_sums}

-- the authority has one share more
pub gathered_more : (parts : ℕ) (v u w : TokenState) (all rest left : List ShareData) (x : ShareData) → rest ≡ left ++ x ∷ []
    → IsGathered parts v all rest → IsClean x
    → IsShareToken u x → ((k : ℕ) → at u.amounts k ≤ u.parts * most) → w ≡ both_of v u → IsGathered parts w all left
gathered_more parts v u w all rest left x is g clean s back now =
    let weighs = s.weighs in
    let np : w.parts ≡ v.parts + u.parts = ap (λ (h : TokenState). h.parts) now in
    let sum : (f : ShareData → ℕ) → sum_by f rest ≡ sum_by f left + f x = λ f. ap (sum_by f) is ∙ sum_by_push f left x in
    let amount : (k : ℕ) → at w.amounts k ≡ at v.amounts k + at u.amounts k = λ k. ap (λ (h : TokenState). at h.amounts k) now
    ∙ at_sums v.amounts u.amounts k in
    record {
      weights = (let a = g.weights in let s = sum (λ s. s.weight) in omega arith);
      hits = λ d. (let a = g.hits d in let t = sum (λ s. at s.hits d) in let m = amount (hit_slot d) in let k = s.known d in let c = clean d in omega arith);
      begun = λ d. (let a = g.begun d in let t = sum (λ s. at s.begun d) in let m = amount (begun_slot (entry d Read)) in let k = s.begins d in omega arith);
      backed = λ k. (let a = g.backed k in let m = amount k in let b = back k in
          let e : w.parts * most ≡ (v.parts + u.parts) * most = ap (λ n. n * most) np in omega arith);
    }

-- all shares of the book were there
pub record IsClosed (shares : ℕ) (counted started : List ℕ) (state : TokenState) (all : List ShareData) : Type 0 where
  pub weights : weight_of all ≡ shares
  pub parts : state.parts ≡ all_parts
  pub hits : (e : ℕ) → at counted e ≡ hits_of all e
  pub begun : (dir : ℕ) → at started (entry dir Read) ≡ begun_of all dir
  pub backed : (k : ℕ) → at state.amounts k ≤ shares * most

pub closed : (limit : ℕ) (v w : TokenState) (shares : ℕ) (counted begun : List ℕ) (all : List ShareData)
    → IsBook limit v shares counted begun → IsGathered v.parts w all [] → w.has_totals ≡ true → w.totals ≡ v.totals → IsLearned w
    → shares - weight_of all ≡ 0 → IsClosed shares counted begun w all
closed limit v w shares counted begun all b g has_totals totals l left =
    let p = b.parts in
    let q = g.weights in
    let r = l.parts in
    let full : w.parts ≡ all_parts = omega arith in
    record {
      weights = omega arith;
      parts = full;
      hits = λ d. (let a = b.known d in let t : at w.totals (hit_slot d)
          ≡ at v.totals (hit_slot d) = ap (λ xs. at xs (hit_slot d)) totals in let h = g.hits d in
          let e = l.whole has_totals full (hit_slot d) in omega arith);
      begun = λ d. (let k = begun_slot (entry d Read) in let a = b.begins (entry d Read) in
          let t : at w.totals k ≡ at v.totals k = ap (λ xs. at xs k) totals in let h = g.begun d in let e = l.whole has_totals full k in
          omega arith);
      backed = λ k. (let a = g.backed k in let m : v.parts * most + shares * most
          ≡ w.parts * most = omega (arith, ap (λ n. n * most) p, ap (λ n. n * most) full) in omega arith);
    }

-- the book goes on, without a share
pub retired : (limit : ℕ) (v w x : TokenState) (shares : ℕ) (counted begun : List ℕ) → IsBook limit v shares counted begun
    → w.has_totals ≡ true → w.totals ≡ v.totals → w.parts ≡ all_parts → x ≡ after_issue shares [] [] w → IsBook limit x shares counted begun
retired limit v w x shares counted begun b has_totals totals full is = subst (λ (h : TokenState). IsBook limit h shares counted begun) (sym is) record {
  has_totals = has_totals;
  all_out = refl;
  parts = (let p = b.parts in omega arith);
  some = b.some;
  known = λ d. (let a = at_sums w.totals [] (hit_slot d) in
      let t : at w.totals (hit_slot d) ≡ at v.totals (hit_slot d) = ap (λ xs. at xs (hit_slot d)) totals in let k = b.known d in
      omega arith);
  begins = λ d. (let a = at_sums w.totals [] (begun_slot d) in
      let t : at w.totals (begun_slot d) ≡ at v.totals (begun_slot d) = ap (λ xs. at xs (begun_slot d)) totals in let k = b.begins d in
      omega arith);
  as_counted = b.as_counted;
  as_begun = b.as_begun;
}

-- the last of a list, and what comes before it
pub all_left : {A : Type 0} (P : A → Type 0) (xs : List A) (x : A) → All P (xs ++ x ∷ []) → All P xs
all_left P [] x h k d less = absurd (omega arith)
all_left P (y ∷ ys) x h zero d less = h zero d (omega arith)
all_left P (y ∷ ys) x h (suc k) d less = all_left P ys x (λ j e l. h (suc j) e (omega arith)) k d (omega arith)

pub all_last : {A : Type 0} (P : A → Type 0) (xs : List A) (x : A) → All P (xs ++ x ∷ []) → P x
all_last P [] x h = h zero x (omega arith)
all_last P (y ∷ ys) x h = all_last P ys x (λ j e l. h (suc j) e (omega arith))

alone : {A : Type 0} (P : A → Type 0) (x : A) → P x → All P (x ∷ [])
alone P x p zero d h = p
alone P x p (suc k) d h = absurd (omega arith)

pub all_more : {A : Type 0} (P : A → Type 0) (xs ys : List A) (x : A) → ys ≡ xs ++ x ∷ [] → All P xs → P x → All P ys
all_more P xs ys x is all p = subst (All P) (sym is) (All-append P xs (x ∷ []) all (alone P x p))

pub replicate_more : {A : Type 0} (n : ℕ) (x : A) → replicate n x ++ x ∷ [] ≡ replicate (suc n) x
replicate_more zero x = refl
replicate_more (suc n) x = ap (λ l. x ∷ l) (replicate_more n x)
