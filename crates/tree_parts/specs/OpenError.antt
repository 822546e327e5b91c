-- The refusals of a board without a problem.
use Rattle.mds_types.specs.declared.refusal.Refusal.{Refusal}
use Rattle.mds_types.specs.declared.refusal.Refusal.TheVariants as refusal
use Rattle.tree_parts.specs.declared.open_error.OpenError.{OpenError}
use Rattle.tree_parts.specs.declared.open_error.OpenError.TheVariants as error

-- what is printed for it
abbrev pub refusal_of : OpenError → Refusal
refusal_of error.Memory = refusal.Memory
refusal_of error.BalancerOff = refusal.BalancerOff
