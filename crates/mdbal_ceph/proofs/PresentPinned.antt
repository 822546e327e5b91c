-- What is pinned in the first of the hours that are planned for is what is held now.
use Rattle.std.proofs.Common.{◌≡◌, ◌∙◌, ◌<◌, ◌++◌, ℕ, List, [], ◌∷◌, ap, arith, length, refl, subst}
use Rattle.ceph_plan.specs.ChosenHours.{AreChosenHours}
use Rattle.ceph_plan.specs.Packing.{IsPinnedHeat, pinned_in}
use Rattle.ceph_plan.specs.declared.hours.Hour.{Hour}
use Rattle.ceph_plan.specs.declared.made.MadeHour.{MadeHour}
use Rattle.ceph_plan.specs.declared.proposal.OwnPins.{OwnPins}
use Rattle.ceph_plan.specs.declared.choice.Wanted.{Wanted}
use Rattle.ceph_plan.specs.HourPlans.{AreCountable}
use Rattle.mds_types.specs.declared.problem.ProblemRow.{ProblemRow}
use Rattle.ceph_snapshot.specs.declared.directory.Directory.{Directory}
use Rattle.ceph_snapshot.specs.declared.held.Held.{Held}
use Rattle.mdbal_ceph.specs.Hours.{AreGivenHours, ArePlannedFor}
use Rattle.mdbal_ceph.specs.declared.hours.PastHour.{PastHour}

-- the first of two lists of hours has the first hour
first_pinned : (xs ys : List Hour) → 0 < length xs → pinned_in (xs ++ ys) 0 ≡ pinned_in xs 0
first_pinned [] ys some = absurd (omega arith)
first_pinned (x ∷ xs) ys some = refl

given_pinned : (directories : List Directory) (holds : List Held) (rows : List ProblemRow) (pinned : List ℕ) (past : List PastHour) (given : List Hour)
    → AreGivenHours directories holds rows pinned past given → pinned_in given 0 ≡ pinned
given_pinned directories holds rows pinned past given are =
    ap (λ (hours : List Hour). pinned_in hours 0) are.are ∙ (first_pinned are.now are.rest (omega (arith, are.one.one)) ∙ are.one.pinned_is)

pub present_pinned : (directories : List Directory) (holds : List Held) (rows : List ProblemRow) (pinned : List ℕ) (past : List PastHour)
    (given : List Hour) (ranks : ℕ) (wanted : Wanted) (own : List OwnPins) (most : ℕ)
    (chosen : List ℕ) (made : List MadeHour) (hours : List Hour) (weights : List ℕ) → AreGivenHours directories holds rows pinned past given
    → AreChosenHours ranks given rows wanted own most chosen
    → ArePlannedFor given chosen made hours weights → AreCountable hours weights (length rows) → IsPinnedHeat pinned
present_pinned directories holds rows pinned past given ranks wanted own most chosen made hours weights given_are chosen_are planned_are countable =
    let some : 0 < length planned_are.seen = omega (arith, chosen_are.some, planned_are.those.size) in
    let first : pinned_in hours 0 ≡ pinned_in planned_are.seen 0 = ap (λ (those : List Hour). pinned_in those 0) planned_are.are
    ∙ first_pinned planned_are.seen planned_are.added some in
    let place : pinned_in planned_are.seen 0 ≡ pinned_in given 0 = planned_are.those.pinned 0 chosen_are.some ∙ ap (pinned_in given) chosen_are.first in
    subst IsPinnedHeat (first ∙ (place ∙ given_pinned directories holds rows pinned past given given_are)) (countable.hours_are.pinned 0 countable.some)
