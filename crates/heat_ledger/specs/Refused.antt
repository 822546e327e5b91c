-- The numbered refusals of shares and books.
use Rattle.mds_types.specs.declared.refusal.Refusal.{Refusal}
use Rattle.mds_types.specs.declared.refusal.Refusal.TheVariants as refusal
use Rattle.heat_ledger.specs.declared.hit_error.HitError as error
use Rattle.heat_ledger.specs.declared.missing.Missing.{Missing}

abbrev pub refusal_of : error.HitError → Refusal
refusal_of error.TheVariants.NoDir = refusal.NoDir
refusal_of error.TheVariants.ShareFull = refusal.ShareFull

abbrev pub refusal_of_missing : Missing → Refusal
refusal_of_missing missing = refusal.Missing missing.0
