-- The first of the cheapest plans, with one more.
use Rattle.std.proofs.Common.{◌≡◌, ◌≢◌, ◌<◌, ◌≤◌, ◌+◌, ◌⊎◌, ℕ, List, ap, arith, inl, inr, length, subst, sym, ⊎_elim}
use Rattle.std.proofs.lemmas.Bool.{cases_eq, cases_lt}
use Rattle.ceph_plan.specs.declared.candidate.Candidate.{Candidate}
use Rattle.ceph_plan.specs.declared.choice.Wanted.{Wanted}
use Rattle.ceph_plan.specs.Candidates.{IsAllowed, IsCheaperAt, greatest_at, heats_at, moves_at}

-- one pair of numbers comes before another
abbrev pub IsLess : ℕ → ℕ → ℕ → ℕ → Type 0
IsLess a x b y = (a < b) ⊎ ((a ≡ b) × (x < y))

less-trans : (a x b y c z : ℕ) → IsLess a x b y → IsLess b y c z → IsLess a x c z
less-trans a x b y c z one other =
    ⊎_elim
    (λ (less : a < b).
    ⊎_elim (λ (more : b < c). inl (omega (arith, less, more))) (λ (same : (b ≡ c) × (y < z)). inl (omega (arith, less, same.0))) other)
    (λ (like : (a ≡ b) × (x < y)).
    ⊎_elim (λ (more : b < c). inl (omega (arith, like.0, more)))
    (λ (same : (b ≡ c) × (y < z)). inr (omega (arith, like.0, same.0), omega (arith, like.1, same.1))) other)
    one

-- what is less than the least comes before all others
less-than : (a x b y c z : ℕ) → IsLess a x b y → ¬ IsLess c z b y → IsLess a x c z
less-than a x b y c z one never =
    ⊎_elim (λ (less : c < b). absurd (never (inl less)))
    (λ (above : b ≤ c).
    ⊎_elim
    (λ (less : z < y).
    ⊎_elim (λ (same : c ≡ b). absurd (never (inr (same, less))))
    (λ (apart : c ≢ b).
    ⊎_elim (λ (under : a < b). inl (omega (arith, under, above))) (λ (like : (a ≡ b) × (x < y)). inl (omega (arith, like.0, above, apart))) one)
    (cases_eq c b))
    (λ (le : y ≤ z).
    ⊎_elim (λ (under : a < b). inl (omega (arith, under, above)))
    (λ (like : (a ≡ b) × (x < y)).
    ⊎_elim (λ (same : c ≡ b). inr (omega (arith, like.0, same), omega (arith, like.1, le)))
    (λ (apart : c ≢ b). inl (omega (arith, like.0, above, apart))) (cases_eq c b))
    one)
    (cases_lt z y))
    (cases_lt c b)

-- of the plans so far that fit, the best is the first of the cheapest
pub record IsBestSoFar (limit : ℕ) (wanted : Wanted) (candidates : List Candidate) (at best : ℕ) : Type 0 where
  pub place : (best ≡ length candidates) ⊎ (best < at)
  pub size : best ≤ length candidates
  pub within : best < length candidates → greatest_at candidates best ≤ limit
  pub few : best < length candidates → IsAllowed wanted candidates best
  pub cheapest : (v : ℕ) → v < at → greatest_at candidates v ≤ limit → IsAllowed wanted candidates v
      → (best < length candidates) × ¬ IsCheaperAt candidates v best
  pub first : (v : ℕ) → v < best → v < at → greatest_at candidates v ≤ limit → IsAllowed wanted candidates v → IsCheaperAt candidates best v

module _ (limit : ℕ) (wanted : Wanted) (candidates : List Candidate) (at best : ℕ) (inside : at < length candidates)
    (old : IsBestSoFar limit wanted candidates at best) where
  -- the next one is better
  pub best-new : greatest_at candidates at ≤ limit → IsAllowed wanted candidates at → (best ≡ length candidates) ⊎ IsCheaperAt candidates at best
      → IsBestSoFar limit wanted candidates (at + 1) at
  best-new cool has better = record {
    place = inr (omega arith);
    size = omega (arith, inside);
    within = λ l. cool;
    few = λ l. has;
    cheapest = λ v l fits few. (
      inside,
      λ cheaper.
          ⊎_elim (λ (this : v ≡ at). absurd (self v at this cheaper))
          (λ (other : v ≢ at).
          let before = old.cheapest v (omega (arith, l, other)) fits few in
          ⊎_elim (λ (none : best ≡ length candidates). absurd (omega (arith, none, before.0)))
          (λ (less : IsCheaperAt candidates at best). before.1 (less-trans _ _ _ _ _ _ cheaper less)) better)
          (cases_eq v at),
    );
    first = λ v l under fits few.
        let before = old.cheapest v l fits few in
        ⊎_elim (λ (none : best ≡ length candidates). absurd (omega (arith, none, before.0)))
        (λ (less : IsCheaperAt candidates at best). less-than _ _ _ _ _ _ less before.1) better;
  }
    where
      self : (v w : ℕ) → v ≡ w → IsCheaperAt candidates v w → ⊥
      self v w same cheaper =
          ⊎_elim (λ (less : moves_at candidates v < moves_at candidates w). let none : ⊥ = omega (arith, less, ap (moves_at candidates) same) in none)
          (λ (like : (moves_at candidates v ≡ moves_at candidates w) × (heats_at candidates v < heats_at candidates w)).
          let none : ⊥ = omega (arith, like.1, ap (heats_at candidates) same) in none)
          cheaper

  -- the next one isn't better
  pub best-old : (greatest_at candidates at ≤ limit → IsAllowed wanted candidates at → (best < length candidates) × ¬ IsCheaperAt candidates at best)
      → IsBestSoFar limit wanted candidates (at + 1) best
  best-old never = record {
    place = ⊎_elim (λ (none : best ≡ length candidates). inl none) (λ (l : best < at). inr (omega (arith, l))) old.place;
    size = old.size;
    within = old.within;
    few = old.few;
    cheapest = λ v l fits few.
        ⊎_elim
        (λ (this : v ≡ at).
        subst (λ (k : ℕ). (best < length candidates) × ¬ IsCheaperAt candidates k best) (sym this) (here v this fits few))
        (λ (other : v ≢ at). old.cheapest v (omega (arith, l, other)) fits few) (cases_eq v at);
    first = λ v less l fits few.
        ⊎_elim
        (λ (this : v ≡ at).
        ⊎_elim (λ (none : best ≡ length candidates). absurd (omega (arith, none, (here v this fits few).0)))
        (λ (under : best < at). absurd (omega (arith, under, this, less))) old.place)
        (λ (other : v ≢ at). old.first v less (omega (arith, l, other)) fits few) (cases_eq v at);
  }
    where
      here : (v : ℕ) → v ≡ at → greatest_at candidates v ≤ limit → IsAllowed wanted candidates v → (best < length candidates) × ¬ IsCheaperAt candidates at best
      here v this fits few = never (subst (λ (k : ℕ). greatest_at candidates k ≤ limit) this fits) (subst (λ (k : ℕ). IsAllowed wanted candidates k) this few)

-- nothing comes before the best
pub not-before : (candidates : List Candidate) (at best : ℕ) → best ≤ length candidates → ¬ ((best ≡ length candidates) ⊎ IsCheaperAt candidates at best)
    → (best < length candidates) × ¬ IsCheaperAt candidates at best
not-before candidates at best le never = (
  ⊎_elim (λ (same : best ≡ length candidates). absurd (never (inl same))) (λ (other : best ≢ length candidates). omega (arith, le, other))
      (cases_eq best (length candidates)),
  λ cheaper. never (inr cheaper),
)
