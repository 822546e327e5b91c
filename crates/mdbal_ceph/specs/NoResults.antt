-- Which error of a run an error of a library is.
use Rattle.std.specs.Prelude.{◌≡◌, ⊤, ℕ, List, string_bytes}
use Rattle.ceph_dumps.specs.declared.dump_error.DumpError.{DumpError}
use Rattle.ceph_pins.specs.declared.script_error.ScriptError.{ScriptError}
use Rattle.ceph_pins.specs.declared.script_error.ScriptError.TheVariants as script
use Rattle.ceph_plan.specs.declared.plan_error.PlanError.{PlanError}
use Rattle.ceph_plan.specs.declared.plan_error.PlanError.TheVariants as plan
use Rattle.ceph_snapshot.specs.declared.snapshot_error.SnapshotError.{SnapshotError}
use Rattle.ceph_snapshot.specs.declared.snapshot_error.SnapshotError.TheVariants as doubt
use Rattle.pin_driver.specs.declared.text_error.TextError.{TextError}
use Rattle.mdbal_ceph.specs.declared.no_result.FileFault.{FileFault}
use Rattle.mdbal_ceph.specs.declared.no_result.FileFault.TheVariants as fault
use Rattle.mdbal_ceph.specs.declared.no_result.NoPlan.TheVariants as no
use Rattle.mdbal_ceph.specs.declared.no_result.NoResult.{NoResult}
use Rattle.mdbal_ceph.specs.declared.no_result.NoResult.TheVariants as why

-- of what is added to what was gathered, or taken from it
abbrev pub growth_error : SnapshotError → NoResult
growth_error doubt.Memory = why.Memory
growth_error other = why.TooMany

-- of the claims of ranks
abbrev pub claim_error : SnapshotError → NoResult
claim_error (doubt.TwoClaims path first second) = why.Gathered (doubt.TwoClaims path first second)
claim_error other = growth_error other

-- of all that was gathered
abbrev pub doubt_error : SnapshotError → NoResult
doubt_error doubt.Elsewhere = why.Gathered doubt.Elsewhere
doubt_error (doubt.Unclaimed path by authority) = why.Gathered (doubt.Unclaimed path by authority)
doubt_error other = growth_error other

abbrev pub planned_error : PlanError → NoResult
planned_error plan.Memory = why.Memory
planned_error other = why.NoPlan (no.Refused other)

abbrev pub script_error : ScriptError → NoResult
script_error script.Memory = why.Memory
script_error other = why.NoPlan (no.Unwritable other)

-- the fault that this error of a reader is
abbrev pub IsRefusedFor : DumpError → FileFault → Type 0
IsRefusedFor error one = one ≡ fault.Refused error

abbrev pub IsStoredFor : TextError → FileFault → Type 0
IsStoredFor error one = one ≡ fault.Stored error

-- the file of this name can't be written, or memory was refused
abbrev pub IsUnwrittenOf : List ℕ → NoResult → Type 0
IsUnwrittenOf name why.Memory = ⊤
IsUnwrittenOf name (why.Unwritten told error) = string_bytes told ≡ name
IsUnwrittenOf name other = ⊥
