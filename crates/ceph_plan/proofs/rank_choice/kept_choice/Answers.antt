use Rattle.std.proofs.Common.{◌≡◌, ◌≤◌, ◌+◌, ◌^◌, ℕ, List, arith, true}
use Rattle.mds_types.specs.RankSet.{has_rank}
use Rattle.ceph_plan.specs.declared.hours.Hour.{Hour}
use Rattle.ceph_plan.specs.Balance.{load_of_parts}
use Rattle.ceph_plan.proofs.Bounds.{greatest-le, rank-small}
use Rattle.ceph_plan.proofs.Means.{worst-small}
use Rattle.ceph_plan.proofs.rank_choice.kept_choice.Goals as goal

pub with_percent-limit-requires : goal.with_percent-limit-requires
with_percent-limit-requires c =
    let hours : List Hour = c.args.parts.now.hours.now in
    let heats : List ℕ = c.args.parts.now.heats.now in
    let rank : List ℕ = c.args.even.now.rank.items in
    let each : (r : ℕ) → has_rank c.args.parts.now.ranks r ≡ true → load_of_parts hours heats rank r ≤ 2 ^ 57 + 2 ^ 56 = λ r has.
    worst-small hours heats rank r c.args.parts.now.are.hours_are (rank-small c.args.parts.now.ranks r has) in
    omega (arith, c.requires.greatest, greatest-le c.args.parts.now.ranks (2 ^ 57 + 2 ^ 56) (load_of_parts hours heats rank) each)
