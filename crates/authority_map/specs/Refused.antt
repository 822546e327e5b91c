-- The numbered refusals of the map.
use Rattle.mds_types.specs.declared.refusal.Refusal.{Refusal}
use Rattle.mds_types.specs.declared.refusal.Refusal.TheVariants as refusal
use Rattle.authority_map.specs.declared.map_error.MapError as error

abbrev pub refusal_of : error.MapError → Refusal
refusal_of error.TheVariants.Memory = refusal.Memory
refusal_of error.TheVariants.NoReader = refusal.NoReader
