-- What a step of the search does to the list of ways.
use Rattle.std.proofs.Common.{◌≡◌, ◌≢◌, ◌∙◌, ap, sym, ℕ, ◌+◌, ◌-◌, ◌<◌, ◌≤◌, inl, inr, List, slice_index_or, arith, ⊎_elim}
use Rattle.std.proofs.lemmas.Bool.{cases_eq}
use Rattle.rank_assign.specs.declared.ways.Way.{Way}
use Rattle.rank_assign.specs.Ways.{no_way, near_at, via_at, turn_at, IsKept, IsTaken, IsImproved, IsReaching, IsReached}
use Rattle.rank_assign.proofs.ReachLemmas.{IsNext, IsTried, reaching_same, reaching_step, reached_end}

-- the rank at one place is marked
pub record IsMarked (ways marked : List Way) (b t : ℕ) : Type 0 where
  pub here : slice_index_or marked b no_way ≡ record (slice_index_or ways b no_way) { turn = t }
  pub other : (j : ℕ) → j ≢ b → slice_index_or marked j no_way ≡ slice_index_or ways j no_way

marked_near : (ways marked : List Way) (b t : ℕ) → IsMarked ways marked b t → (j : ℕ) → near_at marked j ≡ near_at ways j
marked_near ways marked b t is j =
    ⊎_elim (λ (same : j ≡ b). rw same (ap (λ (way : Way). way.near) is.here))
    (λ (other : j ≢ b). ap (λ (way : Way). way.near) (is.other j other))
    (cases_eq j b)

marked_via : (ways marked : List Way) (b t : ℕ) → IsMarked ways marked b t → (j : ℕ) → via_at marked j ≡ via_at ways j
marked_via ways marked b t is j =
    ⊎_elim (λ (same : j ≡ b). rw same (ap (λ (way : Way). way.via) is.here))
    (λ (other : j ≢ b). ap (λ (way : Way). way.via) (is.other j other))
    (cases_eq j b)

-- the nearest rank is marked
pub marked_next :
    (r : ℕ) (ways marked : List Way) (b t : ℕ) → IsMarked ways marked b (t + 1) → b < r → turn_at ways b ≡ 0
    → ((j : ℕ) → j < r → turn_at ways j ≡ 0 → near_at ways b ≤ near_at ways j)
    → IsNext r (near_at marked) (turn_at ways) (turn_at marked) b t
marked_next r ways marked b t is inside unseen least = record {
  inside = inside;
  unseen = unseen;
  least = λ j l unseen_j.
      omega (arith, marked_near ways marked b (t + 1) is j, marked_near ways marked b (t + 1) is b, least j l unseen_j);
  here = ap (λ (way : Way). way.turn) is.here;
  other = λ j l other. ap (λ (way : Way). way.turn) (is.other j other);
}

-- it is free
pub marked_end :
    (r : ℕ) (cell : ℕ → ℕ → ℕ) (u w owner : ℕ → ℕ) (s : ℕ) (ways marked : List Way) (b t : ℕ)
    → IsReaching r cell u w owner s (near_at ways) (via_at ways) (turn_at ways) t → IsMarked ways marked b (t + 1)
    → IsNext r (near_at marked) (turn_at ways) (turn_at marked) b t → owner b ≡ 0
    → IsReached r cell u w owner s (near_at marked) (via_at marked) (turn_at marked) b
marked_end r cell u w owner s ways marked b t old is next free =
    reached_end r cell u w owner s (near_at marked) (via_at marked) (turn_at ways) (turn_at marked) b t
    (reaching_same r cell u w owner s (near_at ways) (via_at ways) (turn_at ways) (near_at marked) (via_at marked) t
    (marked_near ways marked b (t + 1) is) (marked_via ways marked b (t + 1) is) old)
    next free

-- its part moves on
pub marked_step :
    (r : ℕ) (cell : ℕ → ℕ → ℕ) (u w owner : ℕ → ℕ) (s : ℕ) (ways marked new : List Way) (b t : ℕ)
    → IsReaching r cell u w owner s (near_at ways) (via_at ways) (turn_at ways) t → IsMarked ways marked b (t + 1)
    → IsNext r (near_at marked) (turn_at ways) (turn_at marked) b t → 0 < owner b
    → ((j : ℕ) → j < r → u (owner b - 1) ≤ cell (owner b - 1) j + w j)
    → ((j : ℕ) → j < r → IsImproved (slice_index_or marked j no_way) (slice_index_or new j no_way)
    (near_at marked b + (cell (owner b - 1) j + w j - u (owner b - 1))) (b + 1))
    → IsReaching r cell u w owner s (near_at new) (via_at new) (turn_at new) (t + 1)
marked_step r cell u w owner s ways marked new b t old is next has_owner below improved =
    let turns : (j : ℕ) → j < r → turn_at new j ≡ turn_at marked j = λ j l. (improved j l).turn_is in
    let q = owner b - 1 in
    let next2 : IsNext r (near_at marked) (turn_at ways) (turn_at new) b t = record {
      inside = next.inside;
      unseen = next.unseen;
      least = next.least;
      here = turns b next.inside ∙ next.here;
      other = λ j l other. turns j l ∙ next.other j l other;
    } in
    let tried : (j : ℕ) → j < r
    → IsTried cell u w (near_at marked) (via_at marked) (turn_at new) (near_at new) (via_at new) (owner b - 1) b j = λ j l.
    record {
      kept_or_taken =
          ⊎_elim
          (λ (kept : IsKept (slice_index_or marked j no_way) (slice_index_or new j no_way)
          (near_at marked b + (cell (owner b - 1) j + w j - u (owner b - 1)))).
          inl (kept.near_is, kept.via_is, λ unseen. omega (arith, kept.shorter (sym (turns j l) ∙ unseen), below j l)))
          (λ (taken : IsTaken (slice_index_or marked j no_way) (slice_index_or new j no_way)
          (near_at marked b + (cell (owner b - 1) j + w j - u (owner b - 1))) (b + 1)).
          inr (turns j l ∙ taken.unseen, omega (arith, taken.near_is, below j l), taken.via_is, omega (arith, taken.near_is, taken.shorter)))
          (improved j l).either;
    } in
    reaching_step r cell u w owner s (near_at marked) (via_at marked) (turn_at ways) (near_at new) (via_at new) (turn_at new) b t
    (reaching_same r cell u w owner s (near_at ways) (via_at ways) (turn_at ways) (near_at marked) (via_at marked) t
    (marked_near ways marked b (t + 1) is) (marked_via ways marked b (t + 1) is) old)
    next2 has_owner below tried
