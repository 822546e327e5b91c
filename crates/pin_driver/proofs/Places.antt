-- Lists of places that rise or fall by one.
use Rattle.std.proofs.Common.{ℕ, suc, ◌<◌, ◌≤◌, List, [], ◌∷◌, inl, inr, arith}
use Rattle.std.proofs.lemmas.Bool.{cases_lt}
use Rattle.pin_driver.specs.Exchanges.{Ascends, Descends, HasPlace}

pub ascends_lists : (from to : ℕ) (places : List ℕ) → Ascends from to places → (i : ℕ) → from ≤ i → i < to → HasPlace i places
ascends_lists from to [] up i low high = absurd (omega (arith, up))
ascends_lists from to (place ∷ places) up i low high = elim (cases_lt from i) [
  | inl more ↦ inr (ascends_lists (suc place) to places up.1 i (omega (arith, up.0)) high)
  | inr here ↦ inl (omega (arith, up.0))
]

pub descends_lists : (from to : ℕ) (places : List ℕ) → Descends from to places → (i : ℕ) → i < from → to ≤ i → HasPlace i places
descends_lists from to [] down i high low = absurd (omega (arith, down))
descends_lists from to (place ∷ places) down i high low = elim (cases_lt i place) [
  | inl less ↦ inr (descends_lists place to places down.1 i less low)
  | inr here ↦ inl (omega (arith, down.0))
]

-- no place below the lowest is in a list that falls
pub descends_above : (from to : ℕ) (places : List ℕ) → Descends from to places → to ≤ from
descends_above from to [] down = omega (arith, down)
descends_above from to (place ∷ places) down = omega (arith, down.0, descends_above place to places down.1)

pub descends_below : (from to : ℕ) (places : List ℕ) → Descends from to places → (i : ℕ) → HasPlace i places → i < from
descends_below from to [] down i has = absurd has
descends_below from to (place ∷ places) down i has = elim has [
  | inl here ↦ omega (arith, down.0, here)
  | inr more ↦ let less : i < place = descends_below place to places down.1 i more in omega (arith, down.0, less)
]

pub ascends_above : (from to : ℕ) (places : List ℕ) → Ascends from to places → (i : ℕ) → HasPlace i places → from ≤ i
ascends_above from to [] up i has = absurd has
ascends_above from to (place ∷ places) up i has = elim has [
  | inl here ↦ omega (arith, up.0, here)
  | inr more ↦ let less : suc place ≤ i = ascends_above (suc place) to places up.1 i more in omega (arith, up.0, less)
]
