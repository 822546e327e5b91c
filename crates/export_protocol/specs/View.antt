-- When an answer of the code is a step, and which worlds events lead to.
use Rattle.std.specs.Prelude.{◌≡◌, ◌≢◌, ℕ, ◌≤◌, List, [], ◌∷◌, Result, Ok, Err, None, ◌⊎◌, All}
use Rattle.export_protocol.specs.declared.event.Reply.{Reply}
use Rattle.export_protocol.specs.declared.step_error.StepError.{StepError}
use Rattle.export_protocol.specs.declared.step_error.StepError.TheVariants.{Memory}
use Rattle.export_protocol.specs.Cluster.{World}
use Rattle.export_protocol.specs.Step.{step, refusal, run, start}
use Rattle.export_protocol.specs.declared.event.Event.{Event}

-- the answer to an event is that of the definition; `Memory` is answered only where no cause applies, and nothing
-- has changed then
abbrev pub IsAnswer : World → Event → Result Reply StepError → World → Type 0
IsAnswer old e (Ok reply) new = step old e ≡ (Ok reply, new)
IsAnswer old e (Err error) new =
    ((step old e ≡ (Err error, old)) ⊎ ((error ≡ Memory) × (refusal old e ≡ None))) × (new ≡ old)

-- some list of events leads from the start to this world
abbrev pub IsReached : World → Type 0
IsReached w =
    ∥ ((limit : ℕ) × (ranks : ℕ) × (events : List Event) × (1 ≤ ranks) × (run (start limit ranks) events ≡ w)) ∥₁

-- the answers to a list of events, one after the other
abbrev pub AreAnswers : World → List Event → List (Result Reply StepError) → World → Type 0
AreAnswers old [] [] new = new ≡ old
AreAnswers old (e ∷ es) (r ∷ rs) new = (next : World) × IsAnswer old e r next × AreAnswers next es rs new
AreAnswers old [] (r ∷ rs) new = ⊥
AreAnswers old (e ∷ es) [] new = ⊥

-- none of them is `Memory`
abbrev pub NoneIsMemory : List (Result Reply StepError) → Type 0
NoneIsMemory rs = All (λ r. r ≢ Err Memory) rs
