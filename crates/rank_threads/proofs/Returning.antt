-- Shares come back in rank order.
use Rattle.std.proofs.Common.{◌≡◌, ℕ, ◌+◌, ◌<◌, ◌≤◌, Option, Some, List, [], ◌∷◌}
use Rattle.std.proofs.Common.{◌++◌, Vec, Global, sym, ap, arith, ◌∙◌, subst, inl, inr}
use Rattle.std.specs.List.{All, AllZip}
use Rattle.std.proofs.lemmas.List.Elements.{All-push}
use Rattle.heat_ledger.specs.declared.hit_error.HitError.TheVariants as hit
use Rattle.heat_ledger.specs.Ledger.{ShareData, IsClean}
use Rattle.heat_ledger.specs.Rows.{at, entry}
use Rattle.mds_types.specs.declared.kind.Kind.{Kind}
use Rattle.mds_types.specs.declared.kind.Kind.TheVariants.{Read, Write}
use Rattle.mds_board.specs.declared.entry.Entry.{Entry}
use Rattle.mds_board.specs.History.{World}
use Rattle.rank_threads.specs.declared.work.Work.{Work}
use Rattle.rank_threads.specs.declared.work.WorkAnswer.{WorkAnswer}
use Rattle.rank_threads.specs.declared.work.WorkError.{WorkError}
use Rattle.rank_threads.specs.declared.work.WorkError.TheVariants as error
use Rattle.rank_threads.specs.Answered.{AreAnswered, IsRankAnswered}
use Rattle.rank_threads.specs.Asking.{IsRoomFor}
use Rattle.rank_threads.specs.Ways.{Hand, HoldsAsMuch}
use Rattle.rank_threads.specs.Serving.{AreReturned, AreShort, IsDeposited, IsReturned, IsServed, IsShort}

entry_inside : (limit dir : ℕ) (kind : Kind) → dir < limit → entry dir kind < limit + limit
entry_inside limit dir Read inside = omega arith
entry_inside limit dir Write inside = omega arith

-- a share that counts no less is as full
pub short_stays : (limit : ℕ) (mid new : ShareData) (dir : ℕ) (kind : Kind) (refused : Option WorkError)
    → ((e : ℕ) → e < limit + limit → at mid.hits e ≤ at new.hits e)
    → IsShort limit mid dir kind refused → IsShort limit new dir kind refused
short_stays limit mid new dir kind (Some (error.Share hit.NoDir)) more h = h
short_stays limit mid new dir kind (Some (error.Share hit.ShareFull)) more h =
    let grows = more (entry dir kind) (entry_inside limit dir kind h.0) in let full = h.1 in (h.0, omega (arith, grows, full))
short_stays _ _ _ _ _ _ _ _ = tt

pub all_short_stay : (limit : ℕ) (mid new : ShareData) (works : List Work) (answers : List WorkAnswer)
    → ((e : ℕ) → e < limit + limit → at mid.hits e ≤ at new.hits e)
    → AreShort limit mid works answers → AreShort limit new works answers
all_short_stay limit mid new [] [] more h = tt
all_short_stay limit mid new (w ∷ works) (a ∷ answers) more h =
    (short_stays limit mid new w.dir w.kind a.refused more h.0, all_short_stay limit mid new works answers more h.1)
all_short_stay _ _ _ _ _ _ h = absurd h

pub returned : (limit : ℕ) (old mid new : ShareData) (works : List Work) (answers : List WorkAnswer) → IsServed limit old works answers mid
    → IsDeposited mid new
    → IsReturned limit old works answers new
returned limit old mid new works answers h d = record {
  fits = h.fits;
  short = all_short_stay limit mid new works answers
      (λ k inside. (let same : at new.hits k ≡ at mid.hits k = ap (λ (row : List ℕ). at row k) d.0.0 in omega arith)) h.short;
  weight = d.0.2 ∙ h.counted.weight;
  hits = λ k inside. ap (λ (row : List ℕ). at row k) d.0.0 ∙ h.counted.hits k inside;
  begun = λ k inside. ap (λ (row : List ℕ). at row k) d.0.1 ∙ h.counted.begun k inside;
  pending = elim d.1 [
    | inl clean ↦ inl clean
    | inr same ↦ inr (λ k inside. ap (λ (s : ShareData). at s.pending k) same ∙ h.counted.pending k inside)
  ];
}

pub returned_last : (limit : ℕ) (olds : List ShareData) (scripts : List (List Work)) (answers : List (List WorkAnswer)) (news : List ShareData)
    (old : ShareData) (script : List Work) (given : List WorkAnswer) (new : ShareData) → AreReturned limit olds scripts answers news
    → IsReturned limit old script given new
    → AreReturned limit (olds ++ old ∷ []) (scripts ++ script ∷ []) (answers ++ given ∷ []) (news ++ new ∷ [])
returned_last limit [] [] [] [] old script given new all last = (last, tt)
returned_last limit (o ∷ olds) (w ∷ scripts) (a ∷ answers) (n ∷ news) old script given new all last =
    (all.0, returned_last limit olds scripts answers news old script given new all.1 last)
returned_last _ _ _ _ _ _ _ _ _ all _ = absurd all

module _ {A B : Type 0} (R : A → B → Type 0) where
  pub zip_last : (xs : List A) (ys : List B) (x : A) (y : B) → AllZip R (xs ++ x ∷ []) (ys ++ y ∷ []) → AllZip R xs ys × R x y
  zip_last [] [] x y all = (tt, all.0)
  zip_last [] (w ∷ []) x y all = absurd all.1
  zip_last [] (w ∷ v ∷ ys) x y all = absurd all.1
  zip_last (v ∷ []) [] x y all = absurd all.1
  zip_last (v ∷ u ∷ xs) [] x y all = absurd all.1
  zip_last (v ∷ xs) (w ∷ ys) x y all = let rest = zip_last xs ys x y all.1 in ((all.0, rest.0), rest.1)

pub rooms_last : (scripts before : List (Vec Work Global)) (script : Vec Work Global) (rooms rest : List (Vec WorkAnswer Global)) (room : Vec WorkAnswer Global)
    → scripts ≡ before ++ script ∷ [] → rooms ≡ rest ++ room ∷ [] → AllZip IsRoomFor scripts rooms → AllZip IsRoomFor before rest × IsRoomFor script room
rooms_last scripts before script rooms rest room es er all =
    zip_last IsRoomFor before rest script room
    (subst (λ (l : List (Vec WorkAnswer Global)). AllZip IsRoomFor (before ++ script ∷ []) l) er
    (subst (λ (l : List (Vec Work Global)). AllZip IsRoomFor l rooms) es all))

pub clean_last : (news back : List ShareData) (new : ShareData) → back ≡ news ++ new ∷ [] → All (λ s. IsClean s) news → IsClean new → All (λ s. IsClean s) back
clean_last news back new is all last = subst (λ (l : List ShareData). All (λ s. IsClean s) l) (sym is)
    (All-push (λ (s : ShareData). IsClean s) news new all last)

-- the answers of one rank more
pub answered_last : (before : World) (log : List Entry) (hands : List Hand) (scripts : List (List Work)) (answers : List (List WorkAnswer)) (after : List Hand)
    (old : Hand) (works : List Work) (given : List WorkAnswer) (new : Hand) → AreAnswered before log hands scripts answers after
    → IsRankAnswered before log old.way new.way works given → HoldsAsMuch old.way new.way
    → AreAnswered before log (hands ++ old ∷ []) (scripts ++ works ∷ []) (answers ++ given ∷ []) (after ++ new ∷ [])
answered_last before log [] [] [] [] old works given new all last held = (last, held, tt)
answered_last before log (x ∷ hands) (w ∷ scripts) (a ∷ answers) (y ∷ after) old works given new all last held =
    (all.0, all.1, answered_last before log hands scripts answers after old works given new all.2 last held)
answered_last _ _ _ _ _ _ _ _ _ _ all _ _ = absurd all
