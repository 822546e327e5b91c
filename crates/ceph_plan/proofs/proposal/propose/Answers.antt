use Rattle.std.proofs.Common.{◌≡◌, ◌<◌, ℕ, List, Some, length, refl, subst, sym}
use Rattle.std.proofs.lemmas.Option.{slice_get_read}
use Rattle.std.proofs.lemmas.Result.{err_from_is_err_and}
use Rattle.std.specs.List.{slice_get}
use Rattle.mds_types.specs.declared.problem.ProblemRow.{ProblemRow}
use Rattle.ceph_plan.specs.declared.candidate.Candidate.{Candidate}
use Rattle.ceph_plan.specs.declared.proposal.OwnPins.{OwnPins}
use Rattle.ceph_plan.specs.declared.row.PinRow.{PinRow}
use Rattle.ceph_plan.specs.Candidates.{IsPicked}
use Rattle.ceph_plan.specs.Changes.{AreChangesFor}
use Rattle.ceph_plan.specs.Rule.{AreRows}
use Rattle.ceph_plan.proofs.Proposed.{candidate-at, plan-placed, proposed, refused-proposal, some-candidate}
use Rattle.ceph_plan.proofs.proposal.propose.Goals as goal

pub candidates-requires-clause-placed : goal.candidates-requires-clause-placed
candidates-requires-clause-placed c = plan-placed c.args.ranks c.args.hours.now c.args.rows.now c.in_ok-plan.field-0.plan
    c.in_ok-plan.ensures.chosen.choice.plan

pub picked-at-requires : goal.picked-at-requires
picked-at-requires c =
    subst (λ (xs : List Candidate). 0 < length xs) (sym c.deref.ensures.value)
    (some-candidate c.args.ranks c.args.hours.now c.args.rows.now c.args.own.now c.args.wanted.rests c.in_ok-plan.field-0.plan
    c.in_ok-found.found.items c.in_ok-found.ensures.candidates)

pub changes_for-requires : goal.changes_for-requires
changes_for-requires c =
    let candidates : List Candidate = c.in_ok-found.found.items in
    let taken : Candidate = c.swap_remove-taken.result in
    let k : ℕ = c.picked-at.result in
    let inside : k < length candidates = subst (λ (xs : List Candidate). k < length xs) c.deref.ensures.value c.picked-at.ensures.inside in
    let there : slice_get candidates k ≡ Some taken = slice_get_read candidates (length candidates) k taken refl inside c.swap_remove-taken.ensures.value in
    subst AreRows (sym c.deref-2.ensures.value)
    (candidate-at c.args.ranks c.args.hours.now c.args.rows.now c.args.own.now c.args.wanted.rests c.in_ok-plan.field-0.plan candidates
    k taken c.in_ok-found.ensures.candidates there).rows_are

pub returns-in_err-found-clause-refused : goal.returns-in_err-found-clause-refused
returns-in_err-found-clause-refused c =
    let e = err_from_is_err_and c.from_residual-in_err-found.result c.from_residual-in_err-found.ensures.1 in
    rw (e.1, e.2) (refused-proposal c.args.ranks c.args.hours.now c.args.rows.now c.args.wanted c.args.own.now _
    c.in_ok-plan.ensures.chosen.choice.plannable c.in_err-found.ensures.refused)

pub returns-clause-proposal : goal.returns-clause-proposal
returns-clause-proposal c =
    let ranks : ℕ = c.args.ranks in
    let rows : List ProblemRow = c.args.rows.now in
    let own : List OwnPins = c.args.own.now in
    let candidates : List Candidate = c.in_ok-found.found.items in
    let taken : Candidate = c.swap_remove-taken.result in
    let k : ℕ = c.picked-at.result in
    let inside : k < length candidates = subst (λ (xs : List Candidate). k < length xs) c.deref.ensures.value c.picked-at.ensures.inside in
    let there : slice_get candidates k ≡ Some taken = slice_get_read candidates (length candidates) k taken refl inside c.swap_remove-taken.ensures.value in
    proposed ranks c.args.hours.now rows c.args.wanted own c.in_ok-plan.field-0.limit k c.in_ok-plan.field-0.plan candidates taken _
    c.in_ok-plan.ensures.chosen c.in_ok-found.ensures.candidates
    there (subst (λ (xs : List Candidate). IsPicked c.in_ok-plan.field-0.limit c.args.wanted xs k) c.deref.ensures.value c.picked-at.ensures.picked) refl refl
    (subst (λ (xs : List PinRow). AreChangesFor xs c.in_ok-changes.changes.items) c.deref-2.ensures.value c.in_ok-changes.ensures) c.is_within-is_within.ensures
