-- What the tokens of a log know, and the rule over all of them.
use Rattle.std.specs.Prelude.{◌≡◌, ℕ, Bool, true, false, List, []}
use mathlib.Core.List.{IsPrefix}
use mathlib.Core.Option.{some}
use lib.ListN.{get_elem?}
use Rattle.atomic_table.specs.Seated.{TableId}
use Rattle.atomic_table.specs.Table.{State, Step, Me}
use Rattle.atomic_table.specs.declared.shared.Seat.{Seat}
use Rattle.proof_names.specs.declared.rule.TokenState.{TokenState}

-- the name of no table
abbrev pub no_name : TableId
no_name = record { words = 0; slots = 0; views_name = 0; atom = 0; block = 0; offset = 0; slot_names = [] }

-- it is a token of this table, and nothing else is out
pub record IsSeatOf {V : Type 0} (tokens : TableId) (token : Seat ℕ V) : Type 0 where
  pub words : tokens.words ≡ 1
  pub table : token.table_id ≡ tokens
  pub none_out : token.me.1 ≡ []

module _ {E : Type 0} where
  abbrev pub state : Bool → List E → List E → TokenState E
  state leads log shown = record { leads = leads; log = log; shown = shown }

  -- a new token that knows what the leading one knows
  abbrev pub shown_of : TokenState E → TokenState E
  shown_of v = state false v.log []

  -- a token that was shown what another knows
  abbrev pub told : TokenState E → TokenState E → TokenState E
  told v w = state v.leads v.log w.log

  -- There is one log. The token that leads knows it whole, and each token knows beginnings of it.
  pub record IsGrowing (views : List (TokenState E)) : Type 0 where
    pub token : ℕ
    pub log : List E
    pub whole : (by : ℕ) (v : TokenState E) → get_elem? views by ≡ some v → v.leads ≡ true
        → (by ≡ token) × (v.log ≡ log)
    pub part : (by : ℕ) (v : TokenState E) → get_elem? views by ≡ some v → IsPrefix v.log log × IsPrefix v.shown log

  abbrev pub IsGrowingTable : State ℕ (TokenState E) → Type 0
  IsGrowingTable s = IsGrowing s.views

  -- nothing changed, and what the token was shown is a beginning of the log
  abbrev pub Learns : Step ℕ → Me ℕ (TokenState E) → ℕ → Me ℕ (TokenState E) → Type 0
  Learns s me found now = (now ≡ me) × IsPrefix me.0.shown me.0.log

  -- the log went on to this one
  abbrev pub Grows : List E → Step ℕ → Me ℕ (TokenState E) → ℕ → Me ℕ (TokenState E) → Type 0
  Grows log s me found now = now ≡ (state true log me.0.shown, me.1)
