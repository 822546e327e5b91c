-- Prices that were raised along the ways.
use Rattle.std.proofs.Common.{◌≡◌, ◌≢◌, ◌∙◌, ℕ, ◌+◌, ◌-◌, ◌^◌, ◌<◌, ◌≤◌, arith, ⊎_elim}
use Rattle.std.proofs.lemmas.Bool.{cases_eq, cases_lt, cases_order}
use Rattle.rank_assign.specs.Matching.{ArePlaced, IsMatching}
use Rattle.rank_assign.specs.Ways.{ArePaths, IsHandedTo, IsHandedOn, IsHandedFirst, IsReached}

-- how long the way to the free rank is
pub far_small :
    (k r : ℕ) (cell : ℕ → ℕ → ℕ) (u w owner : ℕ → ℕ) (s : ℕ) (near via turn : ℕ → ℕ) (e : ℕ)
    → IsMatching k r cell u w owner s → IsReached r cell u w owner s near via turn e
    → ((p j : ℕ) → p < k → j < r → cell p j ≤ 2 ^ 48) → s < k → near e ≤ 2 ^ 48
far_small k r cell u w owner s near via turn e old reached small l =
    omega (arith, reached.first e reached.inside, old.free e reached.inside reached.free, small s e l reached.inside)

-- the ways lead back to a first step
pub reached_paths :
    (r : ℕ) (cell : ℕ → ℕ → ℕ) (u w owner : ℕ → ℕ) (s : ℕ) (near via turn : ℕ → ℕ) (e : ℕ)
    → IsReached r cell u w owner s near via turn e → ArePaths r owner via turn
reached_paths r cell u w owner s near via turn e reached = λ i j l seen over.
    (let link = reached.linked i j l over in
    record { inside = link.inside; seen = link.seen; owned = link.owned; before = link.before seen })

-- new prices
pub record AreRaised (r : ℕ) (u w owner near u2 w2 : ℕ → ℕ) (s far : ℕ) : Type 0 where
  pub debts : (j : ℕ) → j < r → w2 j ≡ w j + (far - near j)
  pub owners : (p j : ℕ) → p ≢ s → j < r → owner j ≡ p + 1 → u2 p ≡ u p + (far - near j)
  pub part : u2 s ≡ far
  pub others : (p : ℕ) → p ≢ s → ((j : ℕ) → j < r → owner j ≢ p + 1) → u2 p ≡ u p

module _
    (k r : ℕ) (cell : ℕ → ℕ → ℕ) (u w owner : ℕ → ℕ) (s : ℕ) (near via turn : ℕ → ℕ) (e : ℕ) (u2 w2 : ℕ → ℕ)
    (old : IsMatching k r cell u w owner s) (reached : IsReached r cell u w owner s near via turn e)
    (raised : AreRaised r u w owner near u2 w2 s (near e)) (l : s < k) where
  -- a part that has a rank
  has_rank_below :
      (p i j : ℕ) → p < k → p ≢ s → i < r → j < r → owner i ≡ p + 1 → u2 p ≤ cell p j + w2 j
  has_rank_below p i j lp other li lj has =
      let price = raised.owners p i other li has in
      let debt = raised.debts j lj in
      ⊎_elim
      (λ (unseen : turn i < 1).
      omega (arith, price, debt, reached.beyond i li (omega arith), old.below p j lp lj))
      (λ (seen : 1 ≤ turn i).
      let same : owner i - 1 ≡ p = omega (arith, has) in
      let edge : near j + u p ≤ near i + cell p j + w j =
      rw same at (reached.edge i j li lj seen (omega (arith, has))) in
      omega (arith, price, debt, edge, reached.before i li seen))
      (cases_lt (turn i) 1)

  pub raised_below : (p j : ℕ) → p < k → j < r → u2 p ≤ cell p j + w2 j
  raised_below p j lp lj =
      ⊎_elim
      (λ (this : p ≡ s). rw this (omega (arith, raised.part, raised.debts j lj, reached.first j lj)))
      (⊎_elim
      (λ (before : p < s).
      let (i, li, has) = old.parts.placed p before in
      has_rank_below p i j lp (λ same. omega arith) li lj has)
      (λ (after : s < p).
      omega (
        arith,
        raised.others p (λ same. omega arith) (λ i li has. omega (arith, old.parts.owned i li, has)),
        raised.debts j lj,
        old.below p j lp lj,
      )))
      (cases_order p s)

  pub raised_tight : (p j : ℕ) → p < k → j < r → owner j ≡ p + 1 → u2 p ≡ cell p j + w2 j
  raised_tight p j lp lj has =
      omega (
        arith,
        raised.owners p j (λ same. omega (arith, old.parts.owned j lj, has)) lj has,
        raised.debts j lj,
        old.tight p j lp lj has,
      )

  pub raised_free : (j : ℕ) → j < r → owner j ≡ 0 → w2 j ≡ 0
  raised_free j lj none =
      ⊎_elim (λ (this : j ≡ e). rw this (omega (arith, raised.debts e reached.inside, old.free e reached.inside reached.free)))
      (λ (other : j ≢ e).
      ⊎_elim
      (λ (unseen : turn j < 1).
      omega (arith, raised.debts j lj, old.free j lj none, reached.beyond j lj (omega arith)))
      (λ (seen : 1 ≤ turn j). absurd (omega (arith, reached.only j lj seen other, none)))
      (cases_lt (turn j) 1))
      (cases_eq j e)

  -- the first step of a way costs nothing
  pub raised_direct : (j : ℕ) → j < r → 0 < turn j → via j ≡ 0 → u2 s ≡ cell s j + w2 j
  raised_direct j lj seen first =
      omega (arith, raised.part, raised.debts j lj, reached.direct j lj first, reached.before j lj seen)

  -- nor do the others
  pub raised_linked : (p i j : ℕ) → j < r → 0 < turn j → via j ≡ i + 1 → owner i ≡ p + 1 → u2 p ≡ cell p j + w2 j
  raised_linked p i j lj seen over has =
      let link = reached.linked i j lj over in
      let same : owner i - 1 ≡ p = omega (arith, has) in
      let exact : near j + u p ≡ near i + cell p j + w j = rw same at link.exact in
      omega (
        arith,
        exact,
        raised.owners p i (λ is. omega (arith, old.parts.owned i link.inside, has)) link.inside has,
        raised.debts j lj,
        reached.before j lj seen,
        reached.before i link.inside link.seen,
      )

  -- so the parts are where they cost least once they were handed on
  pub matched :
      (owner2 : ℕ → ℕ) → ((p j : ℕ) → p < k → j < r → cell p j ≤ 2 ^ 48) → ArePlaced r owner2 (s + 1)
      → ((p j : ℕ) → j < r → owner2 j ≡ p + 1 → IsHandedTo owner via turn s p j)
      → ((j : ℕ) → j < r → owner2 j ≡ 0 → owner j ≡ 0) → IsMatching k r cell u2 w2 owner2 (s + 1)
  matched owner2 small parts handed free = record {
    parts = parts;
    below = raised_below;
    tight = λ p j lp lj has.
        ⊎_elim (λ (stays : owner j ≡ p + 1). raised_tight p j lp lj stays)
        (⊎_elim
        (λ (on : IsHandedOn owner via turn p j). raised_linked p on.from j lj on.seen on.way on.had)
        (λ (first : IsHandedFirst via turn s p j). rw first.part (raised_direct j lj first.seen first.way)))
        (handed p j lj has);
    free = λ j lj none. raised_free j lj (free j lj none);
    fresh = λ p after lp.
        raised.others p (λ same. omega arith) (λ i li has. omega (arith, old.parts.owned i li, has))
        ∙ old.fresh p (omega arith) lp;
    small = λ j lj.
        omega (
          arith,
          raised.debts j lj,
          old.small j lj,
          far_small k r cell u w owner s near via turn e old reached small l,
        );
  }
