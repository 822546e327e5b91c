-- One rank more is reached.
use Rattle.std.proofs.Common.{◌≡◌, ◌≢◌, ◌∙◌, ap, sym, refl, ℕ, ◌+◌, ◌-◌, ◌<◌, ◌≤◌, ◌⊎◌, cond, ltb, arith, ⊎_elim}
use Rattle.std.proofs.lemmas.Bool.{cases_eq, cases_lt, lt-ltb, le-ltb, ltb-true, ltb-false}
use Rattle.mds_types.specs.Sums.{count_below}
use Rattle.mds_types.proofs.SumsLemmas.{sum_below-zero}
use Rattle.rank_assign.specs.Matching.{IsMatching}
use Rattle.rank_assign.specs.Ways.{IsReaching, IsReached}
use Rattle.rank_assign.proofs.CountLemmas.{sum_below_one_more, all_pass, some_fails, distinct_le}

-- at first no rank has been reached
pub reaching_start :
    (r : ℕ) (cell : ℕ → ℕ → ℕ) (u w owner : ℕ → ℕ) (s : ℕ) (near via turn : ℕ → ℕ)
    → ((j : ℕ) → j < r → near j ≡ cell s j + w j) → ((j : ℕ) → j < r → via j ≡ 0) → ((j : ℕ) → j < r → turn j ≡ 0)
    → IsReaching r cell u w owner s near via turn 0
reaching_start r cell u w owner s near via turn near_is via_is turn_is = record {
  recent = λ j l. omega (arith, turn_is j l);
  counted = sum_below-zero r (λ j. cond (ltb 0 (turn j)) 1 0) (λ j l.
      rw (le-ltb 0 (turn j) (omega (arith, turn_is j l))) refl);
  owned = λ j l seen. absurd (omega (arith, turn_is j l));
  order = λ i j li lj seen unseen. absurd (omega (arith, turn_is i li));
  first = λ j l. omega (arith, near_is j l);
  edge = λ i j li lj seen. absurd (omega (arith, turn_is i li));
  direct = λ j l first. near_is j l;
  linked = λ i j l over. absurd (omega (arith, via_is j l));
}

-- a way that was kept, or taken over the part q that moves on from rank b
pub record IsTried (cell : ℕ → ℕ → ℕ) (u w near via turn near2 via2 : ℕ → ℕ) (q b j : ℕ) : Type 0 where
  pub kept_or_taken :
      ((near2 j ≡ near j) × (via2 j ≡ via j) × (turn j ≡ 0 → near j + u q ≤ near b + cell q j + w j))
      ⊎ ((turn j ≡ 0) × (near2 j + u q ≡ near b + cell q j + w j) × (via2 j ≡ b + 1) × (near2 j < near j))

-- rank b is the next that was reached
pub record IsNext (r : ℕ) (near turn turn2 : ℕ → ℕ) (b t : ℕ) : Type 0 where
  pub inside : b < r
  pub unseen : turn b ≡ 0
  pub least : (j : ℕ) → j < r → turn j ≡ 0 → near b ≤ near j
  pub here : turn2 b ≡ t + 1
  pub other : (j : ℕ) → j < r → j ≢ b → turn2 j ≡ turn j

counted_next : (r : ℕ) (near turn turn2 : ℕ → ℕ) (b t : ℕ) → IsNext r near turn turn2 b t
    → count_below r (λ j. ltb 0 (turn2 j)) ≡ count_below r (λ j. ltb 0 (turn j)) + 1
counted_next r near turn turn2 b t next =
    sum_below_one_more r b (λ j. cond (ltb 0 (turn j)) 1 0) (λ j. cond (ltb 0 (turn2 j)) 1 0) next.inside
    (rw (le-ltb 0 (turn b) (omega (arith, next.unseen)), lt-ltb 0 (turn2 b) (omega (arith, next.here))) refl)
    (λ j l other. ap (λ x. cond (ltb 0 x) 1 0) (next.other j l other))

pub reaching_step :
    (r : ℕ) (cell : ℕ → ℕ → ℕ) (u w owner : ℕ → ℕ) (s : ℕ) (near via turn near2 via2 turn2 : ℕ → ℕ) (b t : ℕ)
    → IsReaching r cell u w owner s near via turn t → IsNext r near turn turn2 b t → 0 < owner b
    → ((j : ℕ) → j < r → u (owner b - 1) ≤ cell (owner b - 1) j + w j)
    → ((j : ℕ) → j < r → IsTried cell u w near via turn2 near2 via2 (owner b - 1) b j)
    → IsReaching r cell u w owner s near2 via2 turn2 (t + 1)
reaching_step r cell u w owner s near via turn near2 via2 turn2 b t old next has_owner below tried =
    let q = owner b - 1 in
    let was_seen : (j : ℕ) → j < r → j ≢ b → 0 < turn2 j → 0 < turn j = λ j l other seen.
    omega (arith, next.other j l other) in
    let was_unseen : (j : ℕ) → j < r → turn2 j ≡ 0 → turn j ≡ 0 = λ j l unseen.
    ⊎_elim (λ (same : j ≡ b). absurd (omega (arith, ap turn2 same, next.here)))
    (λ (other : j ≢ b). omega (arith, next.other j l other))
    (cases_eq j b) in
    let stays : (j : ℕ) → j < r → 0 < turn2 j → near2 j ≡ near j = λ j l seen. omega (arith, (tried j l).kept_or_taken) in
    let no_longer : (j : ℕ) → j < r → near2 j ≤ near j = λ j l. omega (arith, (tried j l).kept_or_taken) in
    let lower : (j : ℕ) → j < r → turn2 j ≡ 0 → near b ≤ near2 j = λ j l unseen.
    omega (arith, (tried j l).kept_or_taken, next.least j l (was_unseen j l unseen), below j l) in
    let seen_order : (i : ℕ) → i < r → 0 < turn2 i → near i ≤ near b = λ i l seen.
    ⊎_elim (λ (same : i ≡ b). omega (arith, ap near same))
    (λ (other : i ≢ b). old.order i b l next.inside (was_seen i l other seen) next.unseen)
    (cases_eq i b) in
    record {
      recent = λ j l.
          ⊎_elim (λ (same : j ≡ b). omega (arith, ap turn2 same, next.here))
          (λ (other : j ≢ b). omega (arith, next.other j l other, old.recent j l))
          (cases_eq j b);
      counted = omega (arith, counted_next r near turn turn2 b t next, old.counted);
      owned = λ j l seen.
          ⊎_elim (λ (same : j ≡ b). omega (arith, ap owner same))
          (λ (other : j ≢ b). old.owned j l (was_seen j l other seen))
          (cases_eq j b);
      order = λ i j li lj seen unseen.
          omega (arith, stays i li seen, seen_order i li seen, lower j lj unseen);
      first = λ j l. omega (arith, no_longer j l, old.first j l);
      edge = λ i j li lj seen.
          ⊎_elim
          (λ (same : i ≡ b).
          rw same
          (⊎_elim
          (λ (unseen : turn2 j < 1).
          let near_b : near2 b ≡ near b = stays b next.inside (omega (arith, next.here)) in
          ⊎_elim
          (λ (kept : (near2 j ≡ near j) × (via2 j ≡ via j) × (turn2 j ≡ 0 → near j + u q ≤ near b + cell q j + w j)).
          omega (arith, near_b, kept.0, kept.2 (omega arith)))
          (λ (taken : (turn2 j ≡ 0) × (near2 j + u q ≡ near b + cell q j + w j) × (via2 j ≡ b + 1) × (near2 j < near j)).
          omega (arith, near_b, taken.1))
          (tried j lj).kept_or_taken)
          (λ (seen_j : 1 ≤ turn2 j).
          omega (
            arith,
            stays j lj seen_j,
            stays b next.inside (omega (arith, next.here)),
            seen_order j lj seen_j,
            below j lj,
          ))
          (cases_lt (turn2 j) 1)))
          (λ (other : i ≢ b).
          omega (arith, no_longer j lj, stays i li seen, old.edge i j li lj (was_seen i li other seen)))
          (cases_eq i b);
      direct = λ j l first.
          ⊎_elim
          (λ (kept : (near2 j ≡ near j) × (via2 j ≡ via j) × (turn2 j ≡ 0 → near j + u q ≤ near b + cell q j + w j)).
          kept.0 ∙ old.direct j l (sym kept.1 ∙ first))
          (λ (taken : (turn2 j ≡ 0) × (near2 j + u q ≡ near b + cell q j + w j) × (via2 j ≡ b + 1) × (near2 j < near j)).
          absurd (omega (arith, taken.2)))
          (tried j l).kept_or_taken;
      linked = λ i j l over.
          ⊎_elim
          (λ (kept : (near2 j ≡ near j) × (via2 j ≡ via j) × (turn2 j ≡ 0 → near j + u q ≤ near b + cell q j + w j)).
          let link = old.linked i j l (sym kept.1 ∙ over) in
          let apart : i ≢ b = λ same. omega (arith, ap turn same, link.seen, next.unseen) in
          let turn_i : turn2 i ≡ turn i = next.other i link.inside apart in
          let near_i : near2 i ≡ near i = stays i link.inside (omega (arith, link.seen)) in
          record {
            inside = link.inside;
            seen = omega (arith, link.seen);
            owned = link.owned;
            before = λ seen.
                ⊎_elim (λ (same : j ≡ b). omega (arith, ap turn2 same, next.here, old.recent i link.inside))
                (λ (other : j ≢ b). omega (arith, next.other j l other, link.before (was_seen j l other seen)))
                (cases_eq j b);
            nearer = omega (arith, kept.0, link.nearer);
            exact = omega (arith, kept.0, link.exact);
          })
          (λ (taken : (turn2 j ≡ 0) × (near2 j + u q ≡ near b + cell q j + w j) × (via2 j ≡ b + 1) × (near2 j < near j)).
          let same : i ≡ b = omega (arith, taken.2) in
          let near_b : near2 b ≡ near b = stays b next.inside (omega (arith, next.here)) in
          rw same (record {
            inside = next.inside;
            seen = omega (arith, next.here);
            owned = has_owner;
            before = λ seen. absurd (omega (arith, taken.0));
            nearer = omega (arith, lower j l taken.0);
            exact = omega (arith, taken.1);
          }))
          (tried j l).kept_or_taken;
    }

-- the next rank is free
pub reached_end :
    (r : ℕ) (cell : ℕ → ℕ → ℕ) (u w owner : ℕ → ℕ) (s : ℕ) (near via turn turn2 : ℕ → ℕ) (e t : ℕ)
    → IsReaching r cell u w owner s near via turn t → IsNext r near turn turn2 e t → owner e ≡ 0
    → IsReached r cell u w owner s near via turn2 e
reached_end r cell u w owner s near via turn turn2 e t old next free =
    let was_seen : (j : ℕ) → j < r → j ≢ e → 0 < turn2 j → 0 < turn j = λ j l other seen.
    omega (arith, next.other j l other) in
    record {
      inside = next.inside;
      free = free;
      seen = omega (arith, next.here);
      only = λ j l seen other. old.owned j l (was_seen j l other seen);
      before = λ j l seen.
          ⊎_elim (λ (same : j ≡ e). omega (arith, ap near same))
          (λ (other : j ≢ e). old.order j e l next.inside (was_seen j l other seen) next.unseen)
          (cases_eq j e);
      beyond = λ j l unseen.
          ⊎_elim (λ (same : j ≡ e). absurd (omega (arith, ap turn2 same, next.here)))
          (λ (other : j ≢ e). next.least j l (omega (arith, next.other j l other)))
          (cases_eq j e);
      first = old.first;
      edge = λ i j li lj seen has_owner.
          old.edge i j li lj (was_seen i li (λ same. omega (arith, ap owner same)) seen);
      direct = old.direct;
      linked = λ i j l over.
          (let link = old.linked i j l over in
          let apart : i ≢ e = λ same. omega (arith, ap turn same, link.seen, next.unseen) in
          let turn_i : turn2 i ≡ turn i = next.other i link.inside apart in
          record {
            inside = link.inside;
            seen = omega (arith, link.seen);
            owned = link.owned;
            before = λ seen.
                ⊎_elim (λ (same : j ≡ e). omega (arith, ap turn2 same, next.here, old.recent i link.inside))
                (λ (other : j ≢ e). omega (arith, next.other j l other, link.before (was_seen j l other seen)))
                (cases_eq j e);
            nearer = link.nearer;
            exact = link.exact;
          });
    }

-- while fewer ranks than there are have been reached, some hasn't been
pub unseen_left :
    (r : ℕ) (cell : ℕ → ℕ → ℕ) (u w owner : ℕ → ℕ) (s : ℕ) (near via turn : ℕ → ℕ) (t : ℕ)
    → IsReaching r cell u w owner s near via turn t → t < r → (j : ℕ) × (j < r) × (turn j ≡ 0)
unseen_left r cell u w owner s near via turn t old few =
    let (j, l, unseen) = some_fails r (λ j. ltb 0 (turn j)) (omega (arith, old.counted)) in
    (j, l, omega (arith, ltb-false 0 (turn j) unseen))

-- not all ranks are reached before a free one is
pub not_all_reached :
    (k r : ℕ) (cell : ℕ → ℕ → ℕ) (u w owner : ℕ → ℕ) (s : ℕ) (near via turn : ℕ → ℕ)
    → IsReaching r cell u w owner s near via turn r → IsMatching k r cell u w owner s → s < r → ⊥
not_all_reached k r cell u w owner s near via turn all matching free =
    let has_owner : (j : ℕ) → j < r → 0 < owner j = λ j l.
    all.owned j l (ltb-true 0 (turn j) (all_pass r j (λ i. ltb 0 (turn i)) all.counted l)) in
    omega (
      arith,
      distinct_le r s (λ j. owner j - 1) (λ j l. omega (arith, has_owner j l, matching.parts.owned j l))
          (λ i j li lj same. matching.parts.once i j li lj (has_owner i li) (omega (arith, same, has_owner i li, has_owner j lj))),
    )

-- the same over ways that are as long and go the same way
pub reaching_same :
    (r : ℕ) (cell : ℕ → ℕ → ℕ) (u w owner : ℕ → ℕ) (s : ℕ) (near via turn near2 via2 : ℕ → ℕ) (t : ℕ)
    → ((j : ℕ) → near2 j ≡ near j) → ((j : ℕ) → via2 j ≡ via j)
    → IsReaching r cell u w owner s near via turn t → IsReaching r cell u w owner s near2 via2 turn t
reaching_same r cell u w owner s near via turn near2 via2 t nears vias old = record {
  recent = old.recent;
  counted = old.counted;
  owned = old.owned;
  order = λ i j li lj seen unseen. omega (arith, nears i, nears j, old.order i j li lj seen unseen);
  first = λ j l. omega (arith, nears j, old.first j l);
  edge = λ i j li lj seen. omega (arith, nears i, nears j, old.edge i j li lj seen);
  direct = λ j l first. nears j ∙ old.direct j l (sym (vias j) ∙ first);
  linked = λ i j l over.
      (let link = old.linked i j l (sym (vias j) ∙ over) in
      record {
        inside = link.inside;
        seen = link.seen;
        owned = link.owned;
        before = link.before;
        nearer = omega (arith, nears i, nears j, link.nearer);
        exact = omega (arith, nears i, nears j, link.exact);
      });
}
