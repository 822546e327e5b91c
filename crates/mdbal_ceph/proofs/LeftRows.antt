-- A directory that is to be left is to be where it is.
use Rattle.std.proofs.Common.{◌≡◌, ◌∙◌, ◌<◌, ℕ, List, ap, arith, length}
use Rattle.mds_types.specs.declared.problem.ProblemRow.{ProblemRow}
use Rattle.mds_types.specs.Problem as problem
use Rattle.ceph_snapshot.specs.declared.directory.Directory.{Directory}
use Rattle.ceph_snapshot.specs.declared.held.Held.{Held}
use Rattle.ceph_snapshot.specs.declared.held.Held.TheVariants.{Free}
use Rattle.ceph_snapshot.specs.Holding.{held_at, now_at}
use Rattle.ceph_snapshot.specs.Policies.{dir_path_at}
use Rattle.ceph_plan.specs.declared.choice.Wanted.{Wanted}
use Rattle.ceph_plan.specs.declared.plan.Planned.{Planned}
use Rattle.ceph_plan.specs.declared.proposal.OwnPins.{OwnPins}
use Rattle.ceph_plan.specs.declared.row.PinRow.{PinRow}
use Rattle.ceph_plan.specs.Asked.{ArePinRows}
use Rattle.ceph_plan.specs.Packing.{packed_rank}
use Rattle.ceph_plan.specs.Proposals.{KeepsWithin}
use Rattle.ceph_plan.specs.Rule.{target_at}
use Rattle.ceph_pins.specs.Left.{IsLeft}
use Rattle.ceph_pins.specs.OwnPins.{AreOwnPins}
use Rattle.ceph_report.specs.Amounts.{goal_at, goal_of}

pub left_stays : (directories : List Directory) (leave : List (List ℕ)) (holds : List Held) (rows : List ProblemRow) (own : List OwnPins)
    (wanted : Wanted) (plan : Planned)
    (found : List PinRow) → length rows ≡ length directories → ((i : ℕ) → i < length directories → problem.now_at rows i ≡ now_at directories i)
    → AreOwnPins directories leave (length directories) own
    → ArePinRows rows plan.part.items plan.packing.rank.items own (length rows) wanted.rests found → KeepsWithin rows wanted own plan
    → (i : ℕ) → i < length directories → IsLeft leave (dir_path_at directories i) → held_at holds i ≡ Free → goal_at holds found i ≡ now_at directories i
left_stays directories leave holds rows own wanted plan found size now own_is asked keeps i inside left free =
    let there : i < length rows = omega (arith, inside, size) in
    let goal : goal_at holds found i ≡ target_at found i = ap (λ (hold : Held). goal_of hold (target_at found i)) free in
    let target : target_at found i ≡ packed_rank plan.packing.rank.items plan.part.items i = ap (λ (one : PinRow). one.target) (asked.asked i there) in
    let stays : packed_rank plan.packing.rank.items plan.part.items i ≡ problem.now_at rows i = keeps.left i there ((own_is.each i inside).left.1 left) in
    goal ∙ (target ∙ (stays ∙ now i inside))
