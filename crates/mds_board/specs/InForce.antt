-- The plan in force, as the history has it.
use Rattle.std.specs.Option.{option_and_then}
use Rattle.std.specs.Prelude.{ℕ, List, slice_get, Option, Some, None}
use Rattle.mds_types.specs.declared.plan.Plan.{Plan}
use Rattle.mds_types.specs.Certificate.{IsBest}
use Rattle.mds_board.specs.declared.change.Change.{Change}
use Rattle.mds_board.specs.declared.change.Change.TheVariants.{Adopt}
use Rattle.mds_board.specs.State.{Force}
use Rattle.mds_board.specs.declared.entry.Entry.{Entry}
use Rattle.mds_board.specs.History.{World}

-- the plan that a change adopts
abbrev pub adopted : Change → Option Plan
adopted (Adopt plan) = Some plan
adopted _ = None

abbrev pub adopted_at : List Entry → ℕ → Option Plan
adopted_at history event = option_and_then (λ e. adopted e.change) (slice_get history event)

-- the plan that the event adopted which put a plan in force
abbrev pub plan_of : List Entry → Option Force → Option Plan
plan_of history None = None
plan_of history (Some force) = adopted_at history force.event

abbrev pub plan_in_force : World → Option Plan
plan_in_force w = plan_of w.history w.state.in_force

-- a plan is in force, and this one is best for its problem
abbrev pub IsBestInForce : Option Force → Plan → Type 0
IsBestInForce None plan = ⊥
IsBestInForce (Some force) plan = IsBest force.problem plan
