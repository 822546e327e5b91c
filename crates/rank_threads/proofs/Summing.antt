-- The shares of all ranks together count what the answers name.
use Rattle.std.proofs.Common.{◌≡◌, Bool, ℕ, ◌+◌, List, [], ◌∷◌, Vec, Global, map, refl, sym, ap, ◌∙◌, arith}
use Rattle.std.proofs.lemmas.List.Sums.{sum_by-append}
use Rattle.std.specs.List.{sum_by}
use Rattle.heat_ledger.specs.Ledger.{ShareData, weight_of}
use Rattle.heat_ledger.specs.Rows.{at}
use Rattle.mds_board.specs.History.{World}
use Rattle.phased_board.specs.Going.{WentOnWithStops}
use Rattle.rank_threads.specs.declared.phase.Ranks.{Ranks}
use Rattle.rank_threads.specs.declared.work.Work.{Work}
use Rattle.rank_threads.specs.declared.work.WorkAnswer.{WorkAnswer}
use Rattle.rank_threads.specs.Serving.{AreReturned, IsReturned, begun_on, hits_on}
use Rattle.rank_threads.specs.Phases.{AreRequestsServed}
use Rattle.rank_threads.specs.Totals.{CountsAll, RoseByAnswers, over_ranks}
use Rattle.rank_threads.specs.Ways.{Way}

-- where each share rises by what its rank's requests and answers come to, so do all together
pub sums_rise : (limit : ℕ) (f : ShareData → ℕ) (g : List Work → List WorkAnswer → ℕ)
    → ((s : ShareData) (w : List Work) (a : List WorkAnswer) (t : ShareData) → IsReturned limit s w a t → f t ≡ f s + g w a)
    → (olds : List ShareData) (scripts : List (List Work)) (answers : List (List WorkAnswer)) (news : List ShareData)
    → AreReturned limit olds scripts answers news
    → sum_by f news ≡ sum_by f olds + over_ranks g scripts answers
sums_rise limit f g rises [] [] [] [] h = refl
sums_rise limit f g rises (s ∷ olds) (w ∷ scripts) (a ∷ answers) (t ∷ news) h =
    let new : sum_by f (t ∷ news) ≡ (0 + f t) + sum_by f news = sum_by-append f (t ∷ []) news in
    let old : sum_by f (s ∷ olds) ≡ (0 + f s) + sum_by f olds = sum_by-append f (s ∷ []) olds in
    let first = rises s w a t h.0 in
    let rest = sums_rise limit f g rises olds scripts answers news h.1 in omega arith
sums_rise _ _ _ _ _ _ _ _ h = absurd h

over_none : (scripts : List (List Work)) (answers : List (List WorkAnswer)) → over_ranks (λ w a. 0) scripts answers ≡ 0
over_none (w ∷ scripts) (a ∷ answers) = let rest = over_none scripts answers in omega arith
over_none _ _ = refl

-- what a phase leaves to a caller that has all shares

pub whole_after : {J : Type 0} {r x : Bool} {stops : List ℕ} {limit : ℕ} {old new : World} {shares : List ShareData} {ways later : List Way}
    {scripts : List (Vec Work Global)} {ranks : Ranks J} → WentOnWithStops r x stops old new
    → AreRequestsServed limit old new shares ways scripts ranks later → weight_of shares ≡ old.shares → weight_of ranks.shares.items ≡ new.shares
whole_after {limit = limit} {shares = shares} {scripts = scripts} {ranks = ranks} went h whole =
    let works = map (λ (s : Vec Work Global). s.items) scripts in
    let answers = map (λ (a : Vec WorkAnswer Global). a.items) ranks.answers.items in
    let rise = sums_rise limit (λ s. s.weight) (λ w a. 0) (λ s w a t r. (let same = r.weight in omega arith)) shares works answers
    ranks.shares.items h.served.returned in
    let none = over_none works answers in
    let book = went.same_book.1 in
    omega (arith, rise, none, whole, book)

pub totals_after : {J : Type 0} (limit : ℕ) (old new : World) (shares : List ShareData) (scripts : List (Vec Work Global)) (ranks : Ranks J)
    → AreReturned limit shares (map (λ s. s.items) scripts) (map (λ a. a.items) ranks.answers.items) ranks.shares.items
    → CountsAll old shares → CountsAll new ranks.shares.items → weight_of ranks.shares.items ≡ new.shares
    → RoseByAnswers limit old new shares scripts ranks
totals_after limit old new shares scripts ranks h before after whole =
    let works = map (λ (s : Vec Work Global). s.items) scripts in
    let answers = map (λ (a : Vec WorkAnswer Global). a.items) ranks.answers.items in
    record {
      whole = whole;
      begun = λ d inside.
          after.begun d
          ∙ (sums_rise limit (λ s. at s.begun d) (begun_on d) (λ s w a t r. r.begun d inside) shares works answers ranks.shares.items h
          ∙ ap (λ n. n + over_ranks (begun_on d) works answers) (sym (before.begun d)));
      hits = λ e inside.
          after.hits e
          ∙ (sums_rise limit (λ s. at s.hits e) (hits_on e) (λ s w a t r. r.hits e inside) shares works answers ranks.shares.items h
          ∙ ap (λ n. n + over_ranks (hits_on e) works answers) (sym (before.hits e)));
    }
