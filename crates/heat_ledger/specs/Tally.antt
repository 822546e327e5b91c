-- Lists of totals that holders have in parts: what each token knows, and the rule over all of them.
use Rattle.std.specs.Prelude.{◌≡◌, ℕ, ◌+◌, ◌-◌, ◌*◌, ◌≤◌, true, false, List, [], ◌∷◌}
use mathlib.Core.Option.{some}
use lib.ListN.{get_elem?}
use Rattle.atomic_table.specs.Seated.{TableId}
use Rattle.atomic_table.specs.declared.shared.Seat.{Seat}
use Rattle.atomic_table.specs.Table.{State, Step, Me}
use Rattle.heat_ledger.specs.declared.tally.TokenState.{TokenState}
use Rattle.heat_ledger.specs.Rows.{at, sums}

-- the values of f on the tokens' states, added up
abbrev pub sum_over : (TokenState → ℕ) → List TokenState → ℕ
sum_over f [] = 0
sum_over f (v ∷ vs) = f v + sum_over f vs

-- what a holder's token knows
abbrev pub share_state : ℕ → List ℕ → TokenState
share_state parts amounts = record { has_totals = false; parts = parts; amounts = amounts; totals = [] }

-- what the authority knows when all amounts are out
abbrev pub authority_state : ℕ → List ℕ → TokenState
authority_state parts totals = record { has_totals = true; parts = parts; amounts = []; totals = totals }

-- all parts that there are
abbrev pub all_parts : ℕ
all_parts = 65

-- what a part may carry in each entry
abbrev pub most : ℕ
most = 72057594037927936

-- There is one authority at most, and its totals are the sums of all amounts. A token's amounts rest on its parts.
pub record IsBalanced (views : List TokenState) : Type 0 where
  pub token : ℕ
  pub whole : sum_over (λ v. v.parts) views ≡ all_parts
  pub sums : (by : ℕ) (v : TokenState) → get_elem? views by ≡ some v → v.has_totals ≡ true
      → (by ≡ token) × ((k : ℕ) → sum_over (λ u. at u.amounts k) views ≡ at v.totals k)
  pub backed : (by : ℕ) (v : TokenState) → get_elem? views by ≡ some v → (k : ℕ) → at v.amounts k ≤ v.parts * most

abbrev pub IsBalancedTable : State ℕ TokenState → Type 0
IsBalancedTable s = IsBalanced s.views

-- what a token's state becomes that takes in another
abbrev pub both_of : TokenState → TokenState → TokenState
both_of v w = record {
  has_totals = v.has_totals;
  parts = v.parts + w.parts;
  amounts = sums v.amounts w.amounts;
  totals = v.totals;
}

-- what the authority's state becomes that lets parts go, keeps these amounts and adds more to its totals
abbrev pub after_issue : ℕ → List ℕ → List ℕ → TokenState → TokenState
after_issue parts rest extra v = record {
  has_totals = v.has_totals;
  parts = v.parts - parts;
  amounts = rest;
  totals = sums v.totals extra;
}

-- it is a token of this table, and nothing else is out
pub record IsTokenOf (tokens : TableId) (token : Seat ℕ TokenState) : Type 0 where
  pub words : tokens.words ≡ 1
  pub table : token.table_id ≡ tokens
  pub none_out : token.me.1 ≡ []

-- the authority can let these parts and amounts go, keep the rest, and add the extra to its totals
pub record CanIssue (parts : ℕ) (amounts rest extra : List ℕ) (v : TokenState) : Type 0 where
  pub has_totals : v.has_totals ≡ true
  pub few : parts ≤ v.parts
  pub same : (k : ℕ) → at amounts k + at rest k ≡ at v.amounts k + at extra k
  pub backed : (k : ℕ) → at amounts k ≤ parts * most
  pub left : (k : ℕ) → at rest k ≤ (v.parts - parts) * most

-- what the rule says of one token
pub record IsLearned (v : TokenState) : Type 0 where
  pub parts : v.parts ≤ all_parts
  pub backed : (k : ℕ) → at v.amounts k ≤ v.parts * most
  pub within : v.has_totals ≡ true → (k : ℕ) → (at v.amounts k ≤ at v.totals k) × (at v.totals k ≤ all_parts * most)
  pub whole : v.has_totals ≡ true → v.parts ≡ all_parts → (k : ℕ) → at v.amounts k ≡ at v.totals k

-- nothing changed, and that was learned
abbrev pub Learns : Step ℕ → Me ℕ TokenState → ℕ → Me ℕ TokenState → Type 0
Learns s me found now = (now ≡ me) × IsLearned me.0
