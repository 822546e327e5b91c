use Rattle.std.proofs.Common.{◌≡◌, ◌∷◌, [], ◌++◌, ◌∙◌, ◌+◌, ℕ, suc, List, ap, map, arith, sym}
use Rattle.std.proofs.lemmas.List.{map-append}
use Rattle.rank_threads.specs.Ways.{At, Way, own_ranks}
use Rattle.rank_threads.specs.declared.route.OwnRank.{OwnRank}
use Rattle.rank_threads.proofs.Routing.{own_more}
use Rattle.rank_threads.proofs.laying.own_ways.Goals as goal

pub loop-number-preserved : goal.loop-number-preserved
loop-number-preserved c =
    let n = c.loop-number.number in
    let own : OwnRank → Way = λ o. At o.rank in
    let rank : c.in-Some.rank ≡ n = c.in-Some.ensures.value in
    let pushed = ap (λ (l : List OwnRank). map own l) c.in_ok-push.ensures.items
    ∙ map-append own c.loop-number.ways.items (record { rank = c.in-Some.rank } ∷ []) in
    pushed ∙ (ap (λ (l : List Way). l ++ At c.in-Some.rank ∷ []) c.loop-number.invariant ∙ (ap (λ (r : ℕ). own_ranks 0 n ++ At r ∷ []) rank ∙ sym (own_next n)))
  where
    own_next : (n : ℕ) → own_ranks 0 (n + 1) ≡ own_ranks 0 n ++ At n ∷ []
    own_next n =
        let one : n + 1 ≡ suc n = omega arith in
        let at : 0 + n ≡ n = omega arith in
        ap (λ (k : ℕ). own_ranks 0 k) one ∙ (own_more 0 n ∙ ap (λ (r : ℕ). own_ranks 0 n ++ At r ∷ []) at)
