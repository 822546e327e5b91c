-- That room is kept once it is taken, and why an event is refused that also asks for memory.
use Rattle.std.specs.Prelude.{◌≡◌, ℕ, true, None, Some, ◌⊎◌}
use Rattle.export_machine.specs.declared.records.Records.{Records}
use Rattle.export_protocol.specs.declared.step_error.StepError.{StepError}
use Rattle.export_protocol.specs.declared.step_error.StepError.TheVariants.{Memory}
use Rattle.export_protocol.specs.Cluster.{World}
use Rattle.export_protocol.specs.Step.{refusal}
use Rattle.export_protocol.specs.declared.event.Event.{Event}
use Rattle.export_machine.specs.Columns.{has_spare}
use Rattle.export_machine.specs.Kept.{State, is_ready, has_place}

-- where there was room for an event, there is
abbrev pub KeepsRoom : State → State → Type 0
KeepsRoom old new = (e : Event) → is_ready old e ≡ true → is_ready new e ≡ true

-- the same, list by list
pub record IsAsRoomy (old new : Records) : Type 0 where
  pub dirs : old.dirs.spare ≡ true → new.dirs.spare ≡ true
  pub marks : has_spare old.marks ≡ true → has_spare new.marks ≡ true
  pub exports : old.exports.spare ≡ true → new.exports.spare ≡ true
  pub sent : has_spare old.sent ≡ true → has_spare new.sent ≡ true
  pub tickets : has_spare old.tickets ≡ true → has_spare new.tickets ≡ true
  pub tickets_at : (rank : ℕ) → has_place old.tickets_at.items rank ≡ true → has_place new.tickets_at.items rank ≡ true
  pub open_at : (rank : ℕ) → has_place old.open_at.items rank ≡ true → has_place new.open_at.items rank ≡ true
  pub journals : (rank : ℕ) → has_place old.journals.items rank ≡ true → has_place new.journals.items rank ≡ true

-- the event is refused for its first cause or, where it has none, as out of memory
abbrev pub IsRefusal : World → Event → StepError → Type 0
IsRefusal w e error = (refusal w e ≡ Some error) ⊎ ((refusal w e ≡ None) × (error ≡ Memory))
