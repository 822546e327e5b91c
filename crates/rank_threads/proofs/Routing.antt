-- The rank that a request is asked at, while the thread's way to find ranks goes on.
use Rattle.std.proofs.Common.{◌≡◌, ◌≢◌, ℕ, ◌+◌, zero, suc, List, [], ◌∷◌, ◌++◌, length, Option, Some}
use Rattle.std.proofs.Common.{None, Result, refl, sym, ap, ◌∙◌, subst, inl, inr, append-nil, append_assoc, arith}
use Rattle.std.specs.List.{AllZip}
use mathlib.Core.List.{IsPrefix}
use Rattle.authority_map.specs.Answer.{found_of}
use Rattle.authority_map.specs.Operations.{Operation}
use Rattle.authority_map.specs.declared.found.Found.TheVariants as Found
use Rattle.heat_ledger.specs.Ledger.{ShareData}
use Rattle.mds_board.specs.declared.entry.Entry.{Entry}
use Rattle.mds_board.specs.History.{World}
use Rattle.rank_threads.specs.declared.work.Work.{Work}
use Rattle.rank_threads.specs.declared.work.WorkAnswer.{WorkAnswer}
use Rattle.mds_board.specs.declared.board_error.BoardError.{BoardError}
use Rattle.rank_threads.specs.Answered.{AreAnswered, IsAnswered}
use Rattle.rank_threads.specs.Asking.{AreServed}
use Rattle.rank_threads.specs.Ways.{At, ByMap, Hand, HoldsAsMuch, IsAskedAt, IsFoundAt, Way, hands_of, own_ranks, rank_or_zero}

follows : (xs ys zs : List Operation) → IsPrefix xs ys → IsPrefix ys zs → IsPrefix xs zs
follows xs ys zs p q = (p.0 ++ q.0, sym (append_assoc xs p.0 q.0) ∙ (ap (λ (l : List Operation). l ++ q.0) p.1 ∙ q.1))

pub held_still : (w : Way) → HoldsAsMuch w w
held_still (At rank) = refl
held_still (ByMap ops) = ([], append-nil ops)

pub held_further : (old mid new : Way) → HoldsAsMuch old mid → HoldsAsMuch mid new → HoldsAsMuch old new
held_further (At r) (At s) (At t) h k = k ∙ h
held_further (ByMap old) (ByMap mid) (ByMap new) h k = follows old mid new h k
held_further (At r) (ByMap mid) new h k = absurd h
held_further (ByMap old) (At s) new h k = absurd h
held_further _ _ _ _ k = absurd k

-- found earlier
found_later : (old mid new : Way) (dir found : ℕ) → HoldsAsMuch mid new → IsFoundAt old mid dir found → IsFoundAt old new dir found
found_later (At r) (At s) (At t) dir found k h = h
found_later (ByMap old) (ByMap mid) (ByMap new) dir found k h = (h.0, h.1, follows h.0 mid new h.2 k, h.3)
found_later (At r) (ByMap mid) new dir found k h = absurd h
found_later (ByMap old) (At s) new dir found k h = absurd h
found_later _ _ _ _ _ k _ = absurd k

asked_later : (before : World) (log : List Entry) (old mid new : Way) (dir asked : ℕ) → HoldsAsMuch mid new
    → IsAskedAt before log old mid dir asked → IsAskedAt before log old new dir asked
asked_later before log (At r) mid new dir asked k h = found_later (At r) mid new dir asked k h
asked_later before log (ByMap old) mid new dir asked k (inl h) = inl (found_later (ByMap old) mid new dir asked k h)
asked_later before log (ByMap old) mid new dir asked k (inr h) = inr h

-- found by a thread that goes on from here
found_since : (old mid new : Way) (dir found : ℕ) → HoldsAsMuch old mid → IsFoundAt mid new dir found → IsFoundAt old new dir found
found_since (At r) (At s) (At t) dir found k h = h ∙ k
found_since (ByMap old) (ByMap mid) (ByMap new) dir found k h = (h.0, follows old mid h.0 k h.1, h.2, h.3)
found_since (At r) (ByMap mid) new dir found k h = absurd k
found_since (ByMap old) (At s) new dir found k h = absurd k
found_since _ _ _ _ _ _ h = absurd h

asked_since : (before : World) (log : List Entry) (old mid new : Way) (dir asked : ℕ) → HoldsAsMuch old mid
    → IsAskedAt before log mid new dir asked → IsAskedAt before log old new dir asked
asked_since before log (At r) (At s) new dir asked k h = found_since (At r) (At s) new dir asked k h
asked_since before log (ByMap old) (ByMap mid) new dir asked k (inl h) = inl (found_since (ByMap old) (ByMap mid) new dir asked k h)
asked_since before log (ByMap old) (ByMap mid) new dir asked k (inr h) = inr h
asked_since _ _ _ _ _ _ _ k _ = absurd k

pub one_since : (before : World) (log : List Entry) (old mid new : Way) (w : Work) (a : WorkAnswer) → HoldsAsMuch old mid
    → IsAnswered before log mid new w a → IsAnswered before log old new w a
one_since before log old mid new w a k h = (h.0, asked_since before log old mid new w.dir h.0 k h.1, h.2)

pub each_held : (before : World) (log : List Entry) (old mid new : Way) (works : List Work) (answers : List WorkAnswer) → HoldsAsMuch mid new
    → AllZip (IsAnswered before log old mid) works answers → AllZip (IsAnswered before log old new) works answers
each_held before log old mid new [] [] k h = tt
each_held before log old mid new (w ∷ works) (a ∷ answers) k h =
    ((h.0.0, asked_later before log old mid new w.dir h.0.0 k h.0.1, h.0.2), each_held before log old mid new works answers k h.1)
each_held _ _ _ _ _ _ _ _ h = absurd h

-- what a reader finds

same_rank : (rank : Option ℕ) (r : ℕ) → Found.Rank r ≡ found_of rank → r ≡ rank_or_zero rank
same_rank None r h = absurd (cc)
same_rank (Some s) r h = cc

no_rank : (rank : Option ℕ) → Found.NoDir ≡ found_of rank → 0 ≡ rank_or_zero rank
no_rank None h = refl
no_rank (Some s) h = absurd (cc)

pub rank_found : (rank : Option ℕ) (r : ℕ) → (Found.Rank r ≢ Found.Closed → Found.Rank r ≡ found_of rank) → r ≡ rank_or_zero rank
rank_found rank r h = same_rank rank r (h (λ e. absurd (cc)))

pub none_found : (rank : Option ℕ) → (Found.NoDir ≢ Found.Closed → Found.NoDir ≡ found_of rank) → 0 ≡ rank_or_zero rank
none_found rank h = no_rank rank (h (λ e. absurd (cc)))

-- ranks that ask at their own numbers do so afterwards

own_after : (rank : ℕ) (w : Way) → HoldsAsMuch (At rank) w → w ≡ At rank
own_after rank (At same) h = ap (λ (r : ℕ). At r) h
own_after rank (ByMap ops) h = absurd h

own_later : (before : World) (log : List Entry) (rank n : ℕ) (shares : List ShareData) (scripts : List (List Work))
    (answers : List (List WorkAnswer)) (after : List ShareData) (later : List Way)
    → length shares ≡ n → AreAnswered before log (hands_of shares (own_ranks rank n)) scripts answers (hands_of after later)
    → hands_of after later ≡ hands_of after (own_ranks rank n)
own_later before log rank zero [] [] [] [] later el h = refl
own_later before log rank zero [] [] [] (t ∷ after) [] el h = refl
own_later before log rank (suc n) (s ∷ shares) (w ∷ scripts) (a ∷ answers) (t ∷ after) (v ∷ later) el h =
    ap (λ (l : List Hand). record { share = t; way = v } ∷ l) (own_later before log (rank + 1) n shares scripts answers after later (omega arith) h.2)
    ∙ ap (λ (x : Way). record { share = t; way = x } ∷ hands_of after (own_ranks (rank + 1) n)) (own_after rank v h.1)
own_later before log rank zero (s ∷ shares) scripts answers after later el h = absurd (cc)
own_later before log rank (suc n) [] scripts answers after later el h = absurd (cc)
own_later _ _ _ _ _ _ _ _ _ _ h = absurd h

pub served_own : (limit : ℕ) (before : World) (log : List Entry) (n : ℕ) (shares : List ShareData) (scripts : List (List Work))
    (answers : List (List WorkAnswer)) (after : List ShareData) (later : List Way)
    (deposited : Result Unit BoardError) → length shares ≡ n → AreServed limit before log shares (own_ranks 0 n) scripts answers after later deposited
    → AreServed limit before log shares (own_ranks 0 n) scripts answers after (own_ranks 0 n) deposited
served_own limit before log n shares scripts answers after later deposited long h = record {
  returned = h.returned;
  answered = subst (λ (l : List Hand). AreAnswered before log (hands_of shares (own_ranks 0 n)) scripts answers l)
      (own_later before log 0 n shares scripts answers after later long h.answered) h.answered;
  apart = h.apart;
  clean = h.clean;
  told = h.told;
}

pub own_more : (rank n : ℕ) → own_ranks rank (suc n) ≡ own_ranks rank n ++ At (rank + n) ∷ []
own_more rank zero = ap (λ (r : ℕ). At r ∷ []) (omega arith)
own_more rank (suc n) =
    let same : rank + 1 + n ≡ rank + suc n = omega arith in
    ap (λ (l : List Way). At rank ∷ l) (own_more (rank + 1) n ∙ ap (λ (r : ℕ). own_ranks (rank + 1) n ++ At r ∷ []) same)

pub own_long : (rank n : ℕ) → length (own_ranks rank n) ≡ n
own_long rank zero = refl
own_long rank (suc n) = ap (λ (k : ℕ). suc k) (own_long (rank + 1) n)
