use Rattle.std.proofs.Common.{◌∙◌, ◌++◌, ◌∷◌, [], ℕ, Bool, List, ap, length, subst, sym}
use Rattle.mds_types.specs.declared.problem.ProblemRow.{ProblemRow}
use Rattle.ceph_plan.specs.declared.hours.Hour.{Hour}
use Rattle.ceph_plan.specs.declared.candidate.Candidate.{Candidate}
use Rattle.ceph_plan.specs.declared.proposal.OwnPins.{OwnPins}
use Rattle.ceph_plan.specs.Candidates.{ColdStays}
use Rattle.ceph_plan.specs.Packing.{HaveParts}
use Rattle.ceph_plan.specs.Placements.{AreAsWanted, IsPlacementAt}
use Rattle.ceph_plan.proofs.Proposed.{begun-first, begun-more, placed-parts, present-at}
use Rattle.ceph_plan.proofs.candidate.begun.Goals as goal
use Rattle.ceph_plan.proofs.candidate.begun.Goals.{then-branch+in_ok-push-2, else-branch}

pub loop-first-init : goal.loop-first-init
loop-first-init c =
    let ranks : ℕ = c.args.of.now.ranks in
    let rows : List ProblemRow = c.args.of.now.rows.now in
    let one : Candidate = c.in_ok-stays.stays in
    begun-first ranks c.args.of.now.hours.now rows c.args.own.now c.args.wanted.rests c.push.new.self.items one
    (c.in_ok-push.ensures.items ∙ ap (λ (xs : List Candidate). xs ++ one ∷ []) c.new-found.ensures.items)
    c.in_ok-stays.ensures.candidate
    (present-at ranks rows c.in_ok-now.now.items c.in_ok-present.present.items one.plan c.in_ok-now.ensures.now
    (subst (λ (xs : List ℕ). AreAsWanted ranks xs (length rows) c.in_ok-present.present.items) c.deref.ensures.value c.in_ok-present.ensures.kept)
    (subst (λ (xs : List ℕ). IsPlacementAt rows xs one.plan) c.deref-2.ensures.value c.in_ok-stays.ensures.at))

pub leaves_cold-requires : goal.leaves_cold-requires
leaves_cold-requires c =
    let rows : List ProblemRow = c.args.of.now.rows.now in
    let one : Candidate = c.in_ok-one.one in
    record {
      parts = subst (λ (part : List ℕ). HaveParts rows part (length c.deref-in-loop-first-5.result.now)) (sym c.deref-in-loop-first-4.ensures.value)
          (subst (λ (rank : List ℕ). HaveParts rows one.plan.part.items (length rank)) (sym c.deref-in-loop-first-5.ensures.value)
          (placed-parts c.args.of.now.ranks c.args.of.now.hours.now rows one.plan c.in_ok-one.ensures.candidate.placed));
    }

pub loop-first-preserved : goal.loop-first-preserved
loop-first-preserved c =
    let ranks : ℕ = c.args.of.now.ranks in
    let hours : List Hour = c.args.of.now.hours.now in
    let rows : List ProblemRow = c.args.of.now.rows.now in
    let own : List OwnPins = c.args.own.now in
    let rests : Bool = c.args.wanted.rests in
    let one : Candidate = c.in_ok-one.one in
    elim c.if-branch.branch [
      | then-branch+in_ok-push-2 w ↦
          let cold : ColdStays ranks rows one.plan.part.items one.plan.packing.rank.items (length rows) =
          subst (λ (part : List ℕ). ColdStays ranks rows part one.plan.packing.rank.items (length rows)) c.deref-in-loop-first-4.ensures.value
          (subst (λ (rank : List ℕ). ColdStays ranks rows c.deref-in-loop-first-4.result.now rank (length rows)) c.deref-in-loop-first-5.ensures.value
          (c.in_ok-leaves_cold.ensures w.if-branch.true)) in
          rw w.found-is (begun-more ranks hours rows own rests c.loop-first.found.items _ one w.in_ok-push-2.ensures.items
          c.in_ok-one.ensures.candidate cold c.loop-first.invariant)
      | else-branch w ↦ rw w.found-is c.loop-first.invariant
    ]

pub returns-clause-begun : goal.returns-clause-begun
returns-clause-begun c = c.loop-first.invariant
