-- Why no more can be gathered.
use Rattle.std.specs.Prelude.{⊤}
use Rattle.ceph_snapshot.specs.declared.snapshot_error.SnapshotError.{SnapshotError}
use Rattle.ceph_snapshot.specs.declared.snapshot_error.SnapshotError.TheVariants.{Memory, TooMany, TwoClaims}

-- memory was refused, or there are too many for this cause
abbrev pub IsGrowthError : Type 0 → SnapshotError → Type 0
IsGrowthError Cause Memory = ⊤
IsGrowthError Cause TooMany = Cause
IsGrowthError Cause other = ⊥

-- or two ranks claim one fragment
abbrev pub IsClaimOrGrowth : Type 0 → SnapshotError → Type 0
IsClaimOrGrowth Cause (TwoClaims path first second) = ⊤
IsClaimOrGrowth Cause other = IsGrowthError Cause other
