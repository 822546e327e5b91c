-- What contracts see of a plan of pins.
use Rattle.std.specs.Prelude.{ℕ, List}
use Rattle.pin_driver.specs.declared.plan.EarlierPin.{EarlierPin}
use Rattle.pin_driver.specs.declared.plan.PlannedChange.{PlannedChange}

-- its name, the changes in order, and the pins that were set before
pub record PlanParts : Type 0 where
  pub identity : List ℕ
  pub changes : List PlannedChange
  pub earlier : List EarlierPin

-- the plan of these parts
abbrev pub made_plan : List ℕ → List PlannedChange → List EarlierPin → PlanParts
made_plan identity changes earlier = record { identity = identity; changes = changes; earlier = earlier }
