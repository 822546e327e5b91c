-- How the refusals of the pins are printed.
use Rattle.std.specs.Prelude.{ℕ, List}
use Rattle.mds_types.specs.declared.refusal.Refusal.{Refusal}
use Rattle.mds_types.specs.declared.refusal.Refusal.TheVariants as refusal
use Rattle.mds_types.specs.Refusal.{name}
use Rattle.dir_pins.specs.declared.pin_error.PinError as error

abbrev pub refusal_of : error.PinError → Refusal
refusal_of error.TheVariants.NoDir = refusal.NoDir
refusal_of error.TheVariants.NoRank = refusal.NoRank

-- the number and the name
abbrev pub words : error.PinError → List ℕ
words e = name (refusal_of e)
