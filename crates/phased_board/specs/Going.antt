-- How a board goes on in a phase.
use Rattle.std.specs.Prelude.{◌≡◌, ◌≤◌, ◌++◌, ◌⊎◌, ℕ, Bool, true, false, List, [], All, drop, length, take}
use Rattle.std.specs.List.{Contains}
use Rattle.authority_map.specs.Operations.{Operation}
use Rattle.export_protocol.specs.declared.event.Event.TheVariants.{Abort, Ask, Begin, Deliver}
use Rattle.export_protocol.specs.declared.event.Event.TheVariants.{End, Froze, Notify, Start, Stop}
use Rattle.mds_board.specs.declared.change.Change.{Change}
use Rattle.mds_board.specs.declared.change.Change.TheVariants.{Deposit, Step}
use Rattle.mds_board.specs.State.{State}
use Rattle.mds_board.specs.declared.entry.Entry.{Entry}
use Rattle.mds_board.specs.History.{World, IsReplay, after}

-- a request begins or ends, or hits are deposited
abbrev pub is_of_requests : Change → Bool
is_of_requests (Step (Begin rank dir)) = true
is_of_requests (Step (End ticket)) = true
is_of_requests (Deposit hits) = true
is_of_requests _ = false

-- An export is started, goes on, or is aborted. The phase aborts none of the
-- `before` exports that were started before it.
abbrev pub IsOfPhase : ℕ → Change → Type 0
IsOfPhase before (Step (Start from to dirs)) = Unit {0}
IsOfPhase before (Step (Deliver message)) = Unit {0}
IsOfPhase before (Step (Froze x)) = Unit {0}
IsOfPhase before (Step (Notify x)) = Unit {0}
IsOfPhase before (Step (Ask x)) = Unit {0}
IsOfPhase before (Step (Abort x)) = before ≤ x
IsOfPhase before _ = ⊥

-- one of these ranks stops
abbrev pub IsOfStops : List ℕ → Change → Type 0
IsOfStops stops (Step (Stop rank)) = Contains stops rank
IsOfStops stops _ = ⊥

-- In a phase with requests it is of these, in one with exports of the phase's own, which come after the `earlier` ones,
-- and in one in which ranks may stop, a stop of one of these.
abbrev pub IsOfKind : Bool → Bool → List ℕ → ℕ → Change → Type 0
IsOfKind requests exports stops earlier change =
    ((requests ≡ true) × (is_of_requests change ≡ true))
    ⊎ (((exports ≡ true) × IsOfPhase earlier change) ⊎ IsOfStops stops change)

-- the entries that a board's history has beyond those of an earlier board
abbrev pub added : World → World → List Entry
added old new = drop (length old.history) new.history

-- As much of the map is published as before or, where it was published in between in a phase with exports, all
-- operations of the entries until then.
abbrev pub IsPublished : Bool → World → List Entry → List Operation → Type 0
IsPublished exports old more published =
    (published ≡ old.published)
    ⊎ ((exports ≡ true) × (first : List Entry) × (rest : List Entry) × (more ≡ first ++ rest)
    × (published ≡ (after old.state first).map))

-- The new board is the old one with only changes of requests and of exports, as far as the phase has these, and stops
-- of these ranks on top of its history, and their replay.
pub record WentOnWithStops (requests exports : Bool) (stops : List ℕ) (old new : World) : Type 0 where
  pub kept : take (length old.history) new.history ≡ old.history
  pub alone : All (λ e. IsOfKind requests exports stops (length old.state.cluster.orders) e.change) (added old new)
  pub replay : IsReplay old.state (added old new) new.state
  pub same_book : (new.is_open ≡ old.is_open) × (new.shares ≡ old.shares)
  pub same_map : IsPublished exports old (added old new) new.published

-- ... and no rank stopped
abbrev pub WentOnBy : Bool → Bool → World → World → Type 0
WentOnBy requests exports old new = WentOnWithStops requests exports [] old new

-- tree, pins, heats, weights, mask, counts and the plan in force are as they were
pub record KeepsRest (old new : State) : Type 0 where
  pub directories : new.directories ≡ old.directories
  pub pins : new.pins ≡ old.pins
  pub heats : new.heats ≡ old.heats
  pub weights : new.weights ≡ old.weights
  pub mask : new.mask ≡ old.mask
  pub counted : new.counted ≡ old.counted
  pub begun : new.begun ≡ old.begun
  pub in_force : new.in_force ≡ old.in_force
