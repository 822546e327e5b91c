-- What keeps a share a share.
use Rattle.std.proofs.Common.{◌≡◌, ◌≢◌, ℕ, ◌+◌, ◌*◌, ◌<◌, ◌≤◌, List, length, replicate, refl, sym, ap, ◌∙◌, arith}
use native.Mathlib.Decide.{ℕ_discrete}
use Rattle.heat_ledger.specs.declared.tally.TokenState.{TokenState}
use Rattle.heat_ledger.specs.Counts.{CountsData, no_counts, sum_counts}
use Rattle.heat_ledger.specs.Rows.{at, sums, raised, evens}
use Rattle.heat_ledger.specs.Tally.{most, both_of, share_state, IsLearned}
use Rattle.heat_ledger.specs.Ledger.{ShareData, hit_slot, begun_slot, spread, unit, IsShare}
use Rattle.heat_ledger.specs.Opening.{fresh_share}
use Rattle.heat_ledger.proofs.RowLemmas.{at_sums, at_raised_same, at_raised_other, at_replicate, length-raised}
use Rattle.heat_ledger.proofs.RowLemmas.{length-sums, evens_raised, evens_sums, evens_zeros}
use Rattle.std.proofs.lemmas.List.{length-replicate}
use Rattle.heat_ledger.proofs.Slots.{at_spread_hits, at_spread_begun, at_unit_same, at_unit_other}

-- what a share shows of its counts, which has those of begun requests by directory
abbrev pub shown : ℕ → CountsData → ShareData
shown weight counts = record { weight = weight; hits = counts.hits; pending = counts.pending; begun = evens counts.begun }

abbrev pub with_begun : ShareData → List ℕ → ShareData
with_begun share begun = record share { begun = begun }

-- a share that has begun a request, and one that took in another
pub begin_shown : (weight dir : ℕ) (counts now : CountsData) (share : ShareData)
    → now ≡ record counts { begun = raised counts.begun (dir + dir) } → shown weight counts ≡ share
    → shown weight now ≡ with_begun share (raised share.begun dir)
begin_shown weight dir counts now share is view = ap (shown weight) is
    ∙ ap (with_begun (shown weight counts)) (evens_raised counts.begun dir) ∙ ap (λ (s : ShareData). with_begun s (raised s.begun dir)) view

abbrev pub joined : ShareData → ShareData → ShareData
joined s t = record { weight = s.weight + t.weight; hits = sums s.hits t.hits; pending = sums s.pending t.pending; begun = sums s.begun t.begun }

pub join_shown : (n m : ℕ) (counts others now : CountsData) (s t : ShareData) → now ≡ sum_counts counts others → length others.begun ≡ length counts.begun
    → shown n counts ≡ s → shown m others ≡ t → shown (n + m) now ≡ joined s t
join_shown n m counts others now s t is long mine theirs =
    ap (shown (n + m)) is ∙ ap (with_begun (joined (shown n counts) (shown m others))) (evens_sums counts.begun others.begun long)
    ∙ ap (λ (s : ShareData). joined s (shown m others)) mine ∙ ap (joined s) theirs

-- a share that has counted nothing
pub fresh_shown : (limit : ℕ) (counts : CountsData) → counts ≡ no_counts (limit + limit) → shown 1 counts ≡ fresh_share limit
fresh_shown limit counts none = ap (shown 1) none ∙ ap (with_begun (fresh_share limit)) (evens_zeros limit)

-- what a directory's counts are at most
pub hits_fit : (limit : ℕ) (state : TokenState) (weight : ℕ) (counts : CountsData) → IsShare limit state weight counts → (d : ℕ)
    → (at counts.hits d ≤ 65 * most) × (at counts.pending d ≤ 65 * most)
hits_fit limit state weight counts s d = let r = s.room d in let l = s.light in let k = s.known d in (omega arith, omega arith)

pub join_kept : (limit : ℕ) (v w : TokenState) (n m : ℕ) (counts others : CountsData) → IsShare limit v n counts → IsShare limit w m others
    → IsLearned (both_of v w)
    → IsShare limit (both_of v w) (n + m) (sum_counts counts others)
join_kept limit v w n m counts others s t l = record {
  holds = s.holds;
  weighs = (let x = s.weighs in let y = t.weighs in omega arith);
  some = (let x = s.some in omega arith);
  light = (let x = s.weighs in let y = t.weighs in let z = l.parts in omega arith);
  known = λ d. (let x = s.known d in let y = t.known d in let a = at_sums v.amounts w.amounts (hit_slot d) in
      let e = at_sums counts.hits others.hits d in let f = at_sums counts.pending others.pending d in omega arith);
  begins = λ d. (let x = s.begins d in let y = t.begins d in let a = at_sums v.amounts w.amounts (begun_slot d) in
      let e = at_sums counts.begun others.begun d in omega arith);
  room = λ d. (let x = s.room d in let y = t.room d in let e = at_sums counts.hits others.hits d in omega arith);
  as_hits = length-sums counts.hits others.hits (t.as_hits ∙ sym s.as_hits) ∙ s.as_hits;
  as_pending = length-sums counts.pending others.pending (t.as_pending ∙ sym s.as_pending) ∙ s.as_pending;
  as_begun = length-sums counts.begun others.begun (t.as_begun ∙ sym s.as_begun) ∙ s.as_begun;
}

-- what two shares have together fits
pub join_fits : (limit : ℕ) (v w : TokenState) (n m : ℕ) (counts others : CountsData) → IsShare limit v n counts → IsShare limit w m others
    → IsLearned (both_of v w)
    → (n + m ≤ 65) × ((d : ℕ) → (at counts.hits d + at others.hits d ≤ 65 * most) × (at counts.pending d + at others.pending d ≤ 65 * most)
    × (at counts.begun d + at others.begun d ≤ 65 * most))
join_fits limit v w n m counts others s t l =
    let both = join_kept limit v w n m counts others s t l in (
      both.light,
      λ d.
          let fit = hits_fit limit (both_of v w) (n + m) (sum_counts counts others) both d in
          let a = at_sums counts.hits others.hits d in let b = at_sums counts.pending others.pending d in
          let x = s.begins d in let y = t.begins d in
          let e = at_sums v.amounts w.amounts (begun_slot d) in
          let back = l.backed (begun_slot d) in
          let parts = l.parts in
          (omega (arith, fit.0), omega (arith, fit.1), omega arith),
    )

pub deposit_share : (limit : ℕ) (v : TokenState) (weight : ℕ) (counts : CountsData) → IsShare limit v weight counts
    → IsShare limit (share_state v.parts (sums v.amounts (spread counts.pending))) weight (record counts { pending = replicate limit 0 })
deposit_share limit v weight counts s = record {
  holds = refl;
  weighs = s.weighs;
  some = s.some;
  light = s.light;
  known = λ d. (let a = at_sums v.amounts (spread counts.pending) (hit_slot d) in
      let b = at_spread_hits counts.pending d (hit_slot d) refl in let f = s.known d in let n = at_replicate limit d in omega arith);
  begins = λ d. (let a = at_sums v.amounts (spread counts.pending) (begun_slot d) in
      let b = at_spread_begun counts.pending d (begun_slot d) refl in let f = s.begins d in omega arith);
  room = s.room;
  as_hits = s.as_hits;
  as_pending = length-replicate limit 0;
  as_begun = s.as_begun;
}

-- another directory's request isn't this one's
pub apart : (d dir : ℕ) → d ≢ dir → begun_slot d ≢ begun_slot dir
apart d dir n e = n (omega arith)

-- a request isn't a hit
pub not_hit : (d dir : ℕ) → hit_slot d ≢ begun_slot dir
not_hit d dir e = absurd (omega arith)

pub begin_share : (limit : ℕ) (v : TokenState) (weight dir : ℕ) (counts : CountsData) → IsShare limit v weight counts → dir < limit
    → IsShare limit (share_state v.parts (sums v.amounts (unit (begun_slot dir)))) weight (record counts { begun = raised counts.begun dir })
begin_share limit v weight dir counts s inside = record {
  holds = refl;
  weighs = s.weighs;
  some = s.some;
  light = s.light;
  known = λ d. (let x = at_sums v.amounts (unit (begun_slot dir)) (hit_slot d) in
      let o = at_unit_other (begun_slot dir) (hit_slot d) (not_hit d dir) in let f = s.known d in omega arith);
  begins = λ d. begins d (ℕ_discrete d dir);
  room = s.room;
  as_hits = s.as_hits;
  as_pending = s.as_pending;
  as_begun = length-raised counts.begun dir ∙ s.as_begun;
}
  where
    begins : (d : ℕ) → Dec (d ≡ dir) → at (sums v.amounts (unit (begun_slot dir))) (begun_slot d) ≡ at (raised counts.begun dir) d
    begins d (yes e) =
        let x = at_sums v.amounts (unit (begun_slot dir)) (begun_slot d) in
        let o : at (unit (begun_slot dir)) (begun_slot d) ≡ 1 = ap (λ (k : ℕ). at (unit (begun_slot dir)) (begun_slot k)) e ∙ at_unit_same (begun_slot dir) in
        let f = s.begins d in
        let g : at counts.begun d ≡ at counts.begun dir = ap (at counts.begun) e in
        let l = s.as_begun in
        let q : at (raised counts.begun dir) d ≡ at counts.begun dir + 1 = ap (at (raised counts.begun dir)) e
        ∙ at_raised_same counts.begun dir (omega arith) in
        omega arith
    begins d (no n) =
        let x = at_sums v.amounts (unit (begun_slot dir)) (begun_slot d) in
        let o = at_unit_other (begun_slot dir) (begun_slot d) (apart d dir n) in
        let f = s.begins d in
        let q = at_raised_other counts.begun dir d n in
        omega arith
