-- What a deposit and a begun request need of the book, and what they keep.
use Rattle.std.proofs.Common.{◌≡◌, ℕ, ◌+◌, ◌*◌, ◌<◌, ◌≤◌, List, [], set, length, refl, sym, ap, ◌∙◌, true, ⊎_elim, arith}
use native.Mathlib.Decide.{ℕ_discrete}
use Rattle.heat_ledger.specs.declared.tally.TokenState.{TokenState}
use Rattle.heat_ledger.specs.Counts.{CountsData}
use Rattle.heat_ledger.specs.Rows.{at, sums, raised}
use Rattle.heat_ledger.specs.Tally.{most}
use Rattle.heat_ledger.specs.Ledger.{hit_slot, begun_slot, spread, unit, IsShare, IsBook}
use Rattle.heat_ledger.proofs.RowLemmas.{at_sums, at_raised_same, at_raised_other, length-raised, length-sums}
use Rattle.heat_ledger.proofs.Slots.{at_spread_hits, at_spread_begun, at_unit_same, at_unit_other, entry_is}
use Rattle.heat_ledger.proofs.Shares.{apart, not_hit}

-- a share's amounts rest on its weight after a deposit
pub deposit_backed : (limit : ℕ) (v : TokenState) (weight : ℕ) (counts : CountsData) → IsShare limit v weight counts → (k : ℕ)
    → at v.amounts k ≤ v.parts * most → at (sums v.amounts (spread counts.pending)) k ≤ v.parts * most
deposit_backed limit v weight counts s k was = ⊎_elim
    (λ (h : (d : ℕ) × (k ≡ hit_slot d)).
    let d = h.0 in
    let a = at_sums v.amounts (spread counts.pending) k in
    let b = at_spread_hits counts.pending d k h.1 in
    let e : at v.amounts k ≡ at v.amounts (hit_slot d) = ap (at v.amounts) h.1 in
    let f = s.known d in
    let r = s.room d in
    let m : v.parts * most ≡ weight * most = ap (λ (n : ℕ). n * most) s.weighs in
    omega arith)
    (λ (h : (d : ℕ) × (k ≡ begun_slot d)).
    let a = at_sums v.amounts (spread counts.pending) k in
    let b = at_spread_begun counts.pending h.0 k h.1 in
    omega arith)
    (entry_is k)

pub deposit_book : (limit : ℕ) (v w : TokenState) (shares : ℕ) (counted begun pending : List ℕ) → IsBook limit v shares counted begun
    → length pending ≡ limit → w.has_totals ≡ true → w.amounts ≡ [] → w.parts ≡ v.parts
    → ((k : ℕ) → at w.totals k ≡ at v.totals k + at (spread pending) k) → IsBook limit w shares (sums counted pending) begun
deposit_book limit v w shares counted begun pending b l has_totals out parts totals = record {
  has_totals = has_totals;
  all_out = out;
  parts = (let p = b.parts in omega arith);
  some = b.some;
  known = λ d. (let t = totals (hit_slot d) in let s = at_spread_hits pending d (hit_slot d) refl in let k = b.known d in
      let u = at_sums counted pending d in omega arith);
  begins = λ d. (let t = totals (begun_slot d) in let s = at_spread_begun pending d (begun_slot d) refl in let k = b.begins d in omega arith);
  as_counted = length-sums counted pending (l ∙ sym b.as_counted) ∙ b.as_counted;
  as_begun = b.as_begun;
}

-- a share's amounts rest on its weight after a request
pub begin_backed : (limit : ℕ) (v w : TokenState) (weight shares : ℕ) (counts : CountsData) (counted booked : List ℕ) (dir : ℕ)
    → IsShare limit v weight counts → IsBook limit w shares counted booked → at booked dir < most
    → (k : ℕ) → at v.amounts k ≤ at w.totals k → at v.amounts k ≤ v.parts * most → at (sums v.amounts (unit (begun_slot dir))) k ≤ v.parts * most
begin_backed limit v w weight shares counts counted booked dir s b room k under was = by-cases (ℕ_discrete k (begun_slot dir))
  where
    by-cases : Dec (k ≡ begun_slot dir) → at (sums v.amounts (unit (begun_slot dir))) k ≤ v.parts * most
    by-cases (yes e) =
        let a = at_sums v.amounts (unit (begun_slot dir)) k in
        let o : at (unit (begun_slot dir)) k ≡ 1 = ap (at (unit (begun_slot dir))) e ∙ at_unit_same (begun_slot dir) in
        let t : at w.totals k ≡ at w.totals (begun_slot dir) = ap (at w.totals) e in
        let x = b.begins dir in
        let n = s.some in
        let w = s.weighs in
        omega arith
    by-cases (no n) =
        let a = at_sums v.amounts (unit (begun_slot dir)) k in
        let o = at_unit_other (begun_slot dir) k n in
        omega arith

-- a share's requests fit after one more
pub begin_fits : (limit : ℕ) (v : TokenState) (weight : ℕ) (counts : CountsData) (dir : ℕ) → IsShare limit v weight counts
    → at (sums v.amounts (unit (begun_slot dir))) (begun_slot dir) ≤ v.parts * most
    → at counts.begun dir + 1 < 18446744073709551616
begin_fits limit v weight counts dir s back =
    let a = at_sums v.amounts (unit (begun_slot dir)) (begun_slot dir) in
    let o = at_unit_same (begun_slot dir) in
    let k = s.begins dir in
    let few = s.light in
    let weighs = s.weighs in
    omega arith

pub begin_book : (limit : ℕ) (v w : TokenState) (shares dir : ℕ) (counted begun : List ℕ) → IsBook limit v shares counted begun
    → w.has_totals ≡ true → w.amounts ≡ [] → w.parts ≡ v.parts
    → ((k : ℕ) → at w.totals k ≡ at v.totals k + at (unit (begun_slot dir)) k) → dir < limit → IsBook limit w shares counted (raised begun dir)
begin_book limit v w shares dir counted begun b has_totals out parts totals inside = record {
  has_totals = has_totals;
  all_out = out;
  parts = (let p = b.parts in omega arith);
  some = b.some;
  known = λ d. (let t = totals (hit_slot d) in let o = at_unit_other (begun_slot dir) (hit_slot d) (not_hit d dir) in let k = b.known d in omega arith);
  begins = λ d. begins d (ℕ_discrete d dir);
  as_counted = b.as_counted;
  as_begun = length-raised begun dir ∙ b.as_begun;
}
  where
    begins : (d : ℕ) → Dec (d ≡ dir) → at w.totals (begun_slot d) ≡ at (raised begun dir) d
    begins d (yes e) =
        let t = totals (begun_slot d) in
        let o : at (unit (begun_slot dir)) (begun_slot d) ≡ 1 = ap (λ (k : ℕ). at (unit (begun_slot dir)) (begun_slot k)) e ∙ at_unit_same (begun_slot dir) in
        let f = b.begins d in
        let g : at begun d ≡ at begun dir = ap (at begun) e in
        let l = b.as_begun in
        let q : at (raised begun dir) d ≡ at begun dir + 1 = ap (at (raised begun dir)) e ∙ at_raised_same begun dir (omega arith) in
        omega arith
    begins d (no n) =
        let t = totals (begun_slot d) in
        let o = at_unit_other (begun_slot dir) (begun_slot d) (apart d dir n) in
        let f = b.begins d in
        let q = at_raised_other begun dir d n in
        omega arith

-- another token with the same totals serves as well
pub same_book : (limit : ℕ) (v w : TokenState) (shares : ℕ) (counted begun : List ℕ) → IsBook limit v shares counted begun
    → w.has_totals ≡ true → w.amounts ≡ [] → w.parts ≡ v.parts → ((k : ℕ) → at w.totals k ≡ at v.totals k)
    → IsBook limit w shares counted begun
same_book limit v w shares counted begun b has_totals out parts totals = record {
  has_totals = has_totals;
  all_out = out;
  parts = (let p = b.parts in omega arith);
  some = b.some;
  known = λ d. (let t = totals (hit_slot d) in let k = b.known d in omega arith);
  begins = λ d. (let t = totals (begun_slot d) in let k = b.begins d in omega arith);
  as_counted = b.as_counted;
  as_begun = b.as_begun;
}

-- the same, as the code writes it
pub begin_book_at : (limit : ℕ) (v w : TokenState) (shares dir row a : ℕ) (counted begun : List ℕ) → IsBook limit v shares counted begun
    → w.has_totals ≡ true → w.amounts ≡ [] → w.parts ≡ v.parts
    → ((k : ℕ) → at w.totals k ≡ at v.totals k + at (unit (begun_slot dir)) k) → dir < limit → row ≡ dir → a ≡ at begun dir
    → IsBook limit w shares counted (set begun row (a + 1))
begin_book_at limit v w shares dir row a counted begun b has_totals out parts totals inside er ea =
    rw (er, ea) (begin_book limit v w shares dir counted begun b has_totals out parts totals inside)
