-- What contracts see of a restorer of pins.
use Rattle.pin_driver.specs.declared.restorer_state.RestorerState.{RestorerState}
use Rattle.pin_driver.specs.declared.task.Task.{Task}

-- its task, and how far it is
pub record RestorerParts : Type 0 where
  pub task : Task
  pub state : RestorerState

-- the restorer of these parts
abbrev pub restorer_parts : Task → RestorerState → RestorerParts
restorer_parts task state = record { task = task; state = state }
