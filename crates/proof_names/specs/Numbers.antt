-- What the tokens of numbers know, and the rule over all of them.
use Rattle.std.specs.Prelude.{◌≡◌, ◌≢◌, ◌≤◌, ◌+◌, ◌==◌, ℕ, Bool, true, false, List, [], ◌∷◌, ◌++◌, count_by, sum_by}
use mathlib.Core.Option.{some}
use lib.ListN.{get_elem?}
use Rattle.atomic_table.specs.Table.{State, Step, Me}
use Rattle.proof_names.specs.declared.numbers_rule.HolderState.{HolderState}

-- none of these tickets is this one
abbrev pub IsNew : ℕ → List ℕ → Type 0
IsNew ticket [] = Unit {0}
IsNew ticket (t ∷ tickets) = (ticket ≢ t) × IsNew ticket tickets

-- no two of these tickets are the same
abbrev pub AreApart : List ℕ → Type 0
AreApart [] = Unit {0}
AreApart (t ∷ tickets) = IsNew t tickets × AreApart tickets

abbrev pub holding : Bool → ℕ → List ℕ → HolderState
holding leads next numbers = record { leads = leads; next = next; numbers = numbers }

-- a token that has only these numbers
abbrev pub only : List ℕ → HolderState
only numbers = holding false 0 numbers

-- the token that leads, when it has given this number
abbrev pub after_giving : ℕ → HolderState → HolderState
after_giving number v = holding v.leads (number + 1) v.numbers

-- a token that has another's numbers too
abbrev pub taken_in : HolderState → HolderState → HolderState
taken_in v w = holding v.leads v.next (v.numbers ++ w.numbers)

-- how often a token has the number
abbrev pub how_often : ℕ → HolderState → ℕ
how_often number v = count_by (λ m. m == number) v.numbers

-- The tokens have each number at most once, and none from the number on that the token that leads knows.
pub record AreGivenOnce (views : List HolderState) : Type 0 where
  pub token : ℕ
  pub next : ℕ
  pub leader : (by : ℕ) (v : HolderState) → get_elem? views by ≡ some v → v.leads ≡ true
      → (by ≡ token) × (v.next ≡ next)
  pub once : (number : ℕ) → sum_by (how_often number) views ≤ 1
  pub below : (number : ℕ) → next ≤ number → sum_by (how_often number) views ≡ 0

abbrev pub IsNumberTable : State ℕ HolderState → Type 0
IsNumberTable s = AreGivenOnce s.views

-- it is a new token, without numbers
abbrev pub IsBlank : Step ℕ → Me ℕ HolderState → ℕ → Me ℕ HolderState → Type 0
IsBlank s me found now = now ≡ (only [], [])

-- nothing changed, and the token has no number twice
abbrev pub HasEachOnce : Step ℕ → Me ℕ HolderState → ℕ → Me ℕ HolderState → Type 0
HasEachOnce s me found now = (now ≡ me) × AreApart me.0.numbers
