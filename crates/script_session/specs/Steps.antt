-- What the steps of exports and requests print, one by one.
use Rattle.std.specs.Prelude.{ℕ, List, [], ◌∷◌, ◌++◌, codes, decimal}
use Rattle.export_protocol.specs.declared.event.Event.{Event}
use Rattle.export_protocol.specs.declared.event.Event.TheVariants as event
use Rattle.export_protocol.specs.declared.event.Reply.{Reply}
use Rattle.export_protocol.specs.declared.event.Reply.TheVariants as reply
use Rattle.script_commands.specs.declared.step.NumberedStep.{NumberedStep}
use Rattle.script_commands.specs.declared.step.NumberedStep.TheVariants as step

-- the event that a step with a number is
abbrev pub event_of : NumberedStep → Event
event_of (step.Deliver message) = event.Deliver message
event_of (step.Froze export) = event.Froze export
event_of (step.Notify export) = event.Notify export
event_of (step.Abort export) = event.Abort export
event_of (step.Ask export) = event.Ask export
event_of (step.End ticket) = event.End ticket

-- the one line on a step: the reply to it
abbrev pub step_line : Reply → List ℕ
step_line (reply.Dir d) = codes "dir " ++ decimal d ++ 10 ∷ []
step_line (reply.Ticket ticket) = codes "ticket " ++ decimal ticket ++ 10 ∷ []
step_line (reply.Export export message) =
    codes "export " ++ decimal export ++ codes " message " ++ decimal message ++ 10 ∷ []
step_line (reply.Sent message) = codes "sent " ++ decimal message ++ 10 ∷ []
step_line reply.Changed = codes "changed" ++ 10 ∷ []
step_line reply.Ignored = codes "ignored" ++ 10 ∷ []
