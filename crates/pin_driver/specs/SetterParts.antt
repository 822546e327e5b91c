-- What contracts see of a setter of pins.
use Rattle.pin_driver.specs.declared.setter_state.SetterState.{SetterState}
use Rattle.pin_driver.specs.declared.task.Task.{Task}

-- its task, and how far it is
pub record SetterParts : Type 0 where
  pub task : Task
  pub state : SetterState

-- the setter of these parts
abbrev pub setter_parts : Task → SetterState → SetterParts
setter_parts task state = record { task = task; state = state }
