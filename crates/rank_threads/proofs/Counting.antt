-- What answers count in a share, one after another.
use Rattle.std.proofs.Common.{◌≡◌, ◌≢◌, ℕ, ◌+◌, ◌<◌, ◌==◌, Bool, true, false, List, [], ◌∷◌, ◌++◌, length, Some, refl, sym, ◌∙◌, arith}
use Rattle.std.proofs.lemmas.Bool.Decides.{nat_tests}
use Rattle.std.proofs.lemmas.Slice.Zip.{AllZip-long, all_zipped_more}
use Rattle.std.specs.Prelude.{if◌then◌else◌}
use Rattle.heat_ledger.specs.Ledger.{ShareData}
use Rattle.heat_ledger.specs.Rows.{at, entry, raised, raised_by}
use Rattle.heat_ledger.proofs.RowLemmas.{at_set_same, at_set_other, raised_by_none}
use Rattle.rank_threads.specs.declared.work.Work.{Work}
use Rattle.rank_threads.specs.declared.work.WorkAnswer.{WorkAnswer}
use Rattle.rank_threads.proofs.Returning.{all_short_stay}
use Rattle.rank_threads.specs.Serving.{Fits, IsServed, IsShort, Counted, after_hits, hits_on, begun_on}

pub hits_none : (share : ShareData) (e : ℕ) → share ≡ after_hits share e 0
hits_none share e = rw (raised_by_none share.hits e, raised_by_none share.pending e) refl

-- a row with more at one entry
row_at : (xs : List ℕ) (k n d : ℕ) → d < length xs → at (raised_by xs k n) d ≡ at xs d + (if k == d then n else 0)
row_at xs k n d inside = on (k == d) refl
  where
    on : (b : Bool) → (k == d) ≡ b → at (raised_by xs k n) d ≡ at xs d + (if b then n else 0)
    on true is = let here : k ≡ d = grind (arith, nat_tests) in rw here (at_set_same xs d (at xs d + n) inside)
    on false is =
        let other : d ≢ k = λ here. (let there : k ≡ d = sym here in let bad : (k == d) ≡ true = grind (arith, nat_tests) in let no = sym is ∙ bad in cc) in
        let none : at xs d + 0 ≡ at xs d = omega arith in at_set_other xs k (at xs k + n) d other ∙ sym none

-- a request that began
pub counted_one : (limit n t : ℕ) (s : ShareData) (w : Work) (a : WorkAnswer) → length s.hits ≡ limit + limit
    → length s.pending ≡ limit + limit → length s.begun ≡ limit
    → a.ticket ≡ Some t → a.hits ≡ n
    → Counted limit s (w ∷ []) (a ∷ []) (after_hits (record s { begun = raised s.begun w.dir }) (entry w.dir w.kind) n)
counted_one limit n t s w a lh lp lb ticket hits = record {
  weight = refl;
  hits = λ e inside. (let near : e < length s.hits = omega arith in let more = row_at s.hits (entry w.dir w.kind) n e near in rw hits (omega arith));
  pending = λ e inside. (let near : e < length s.pending = omega arith in let more = row_at s.pending (entry w.dir w.kind) n e near in rw hits (omega arith));
  begun = λ d inside. (let near : d < length s.begun = omega arith in let more = row_at s.begun w.dir 1 d near in rw ticket (omega arith));
}

hits_on_more : (e : ℕ) (works : List Work) (answers : List WorkAnswer) (w : Work) (a : WorkAnswer) → length works ≡ length answers
    → hits_on e (works ++ w ∷ []) (answers ++ a ∷ []) ≡ hits_on e works answers + hits_on e (w ∷ []) (a ∷ [])
hits_on_more e [] [] w a same = omega arith
hits_on_more e (v ∷ works) (b ∷ answers) w a same = let rest : length works ≡ length answers = omega arith in
    let more = hits_on_more e works answers w a rest in omega arith
hits_on_more e _ _ w a same = absurd (cc)

begun_on_more : (d : ℕ) (works : List Work) (answers : List WorkAnswer) (w : Work) (a : WorkAnswer) → length works ≡ length answers
    → begun_on d (works ++ w ∷ []) (answers ++ a ∷ []) ≡ begun_on d works answers + begun_on d (w ∷ []) (a ∷ [])
begun_on_more d [] [] w a same = omega arith
begun_on_more d (v ∷ works) (b ∷ answers) w a same = let rest : length works ≡ length answers = omega arith in
    let e = begun_on_more d works answers w a rest in omega arith
begun_on_more d _ _ w a same = absurd (cc)

pub served_none : (limit : ℕ) (s : ShareData) → IsServed limit s [] [] s
served_none limit s = record {
  fits = tt;
  short = tt;
  counted = record {
    weight = refl;
    hits = λ e inside. omega arith;
    pending = λ e inside. omega arith;
    begun = λ d inside. omega arith;
  };
}

-- one request more
pub served_more : (limit : ℕ) (old mid new : ShareData) (works : List Work) (answers : List WorkAnswer) (w : Work) (a : WorkAnswer)
    → IsServed limit old works answers mid → Fits w a → IsShort limit new w.dir w.kind a.refused → Counted limit mid (w ∷ []) (a ∷ []) new
    → IsServed limit old (works ++ w ∷ []) (answers ++ a ∷ []) new
served_more limit old mid new works answers w a h fits short one =
    let same = sym (AllZip-long Fits works answers h.fits) in record {
      fits = all_zipped_more Fits works answers w a h.fits fits;
      short = all_zipped_more (λ v b. IsShort limit new v.dir v.kind b.refused) works answers w a
          (all_short_stay limit mid new works answers (λ e inside. (let q = one.hits e inside in omega arith)) h.short) short;
      counted = record {
        weight = one.weight ∙ h.counted.weight;
        hits = λ e inside. (let p = h.counted.hits e inside in let q = one.hits e inside in let more = hits_on_more e works answers w a same in omega arith);
        pending = λ e inside. (let p = h.counted.pending e inside in let q = one.pending e inside in
            let more = hits_on_more e works answers w a same in omega arith);
        begun = λ d inside. (let p = h.counted.begun d inside in let q = one.begun d inside in let e = begun_on_more d works answers w a same in omega arith);
      };
    }
