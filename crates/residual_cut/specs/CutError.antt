-- The answers of a cut that fails.
use Rattle.std.specs.Prelude.{ℕ, Bool, true, false, Result, Ok, Err}
use Rattle.mds_types.specs.declared.refusal.Refusal.{Refusal}
use Rattle.mds_types.specs.declared.refusal.Refusal.TheVariants as refusal
use Rattle.residual_cut.specs.declared.cut.Cut.{Cut}
use Rattle.residual_cut.specs.declared.cut.CutError.{CutError}
use Rattle.residual_cut.specs.declared.cut.CutError.TheVariants.{Memory, Heavy}

-- what holds of the row of a heavy refusal
abbrev pub IfHeavy : CutError → (ℕ → Type 0) → Type 0
IfHeavy Memory P = Unit {0}
IfHeavy (Heavy i) P = P i

abbrev pub is_memory_error : CutError → Bool
is_memory_error Memory = true
is_memory_error (Heavy i) = false

-- the answer is that there is no memory
abbrev pub is_memory : Result Cut CutError → Bool
is_memory (Ok cut) = false
is_memory (Err e) = is_memory_error e

-- what is printed for it
abbrev pub refusal_of : CutError → Refusal
refusal_of Memory = refusal.Memory
refusal_of (Heavy i) = refusal.Heavy i
