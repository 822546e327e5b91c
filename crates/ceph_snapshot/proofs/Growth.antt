-- From one cause of an error to another.
use Rattle.ceph_snapshot.specs.declared.snapshot_error.SnapshotError.{SnapshotError}
use Rattle.ceph_snapshot.specs.declared.snapshot_error.SnapshotError.TheVariants as cause
use Rattle.ceph_snapshot.specs.Growth.{IsClaimOrGrowth, IsGrowthError}

pub growth_for : (Cause Other : Type 0) (error : SnapshotError) → (Cause → Other) → IsGrowthError Cause error → IsGrowthError Other error
growth_for Cause Other cause.Memory so is = tt
growth_for Cause Other cause.TooMany so is = so is
growth_for Cause Other other so is = absurd is

pub claim_for : (Cause Other : Type 0) (error : SnapshotError) → (Cause → Other) → IsClaimOrGrowth Cause error → IsClaimOrGrowth Other error
claim_for Cause Other cause.Memory so is = tt
claim_for Cause Other cause.TooMany so is = so is
claim_for Cause Other (cause.TwoClaims path first second) so is = tt
claim_for Cause Other cause.Elsewhere so is = absurd is
claim_for Cause Other (cause.Unclaimed path by authority) so is = absurd is

pub claim_growth : (Cause : Type 0) (error : SnapshotError) → IsGrowthError Cause error → IsClaimOrGrowth Cause error
claim_growth Cause cause.Memory is = tt
claim_growth Cause cause.TooMany is = is
claim_growth Cause (cause.TwoClaims path first second) is = tt
claim_growth Cause cause.Elsewhere is = absurd is
claim_growth Cause (cause.Unclaimed path by authority) is = absurd is
