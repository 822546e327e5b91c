use Rattle.std.proofs.lemmas.Result.{err_from_is_err_and}
use Rattle.std.proofs.Common.{◌≡◌, ◌∙◌, ◌<◌, ◌+◌, ℕ, List, length, map, min, slice_index, subst, sym, ap, arith}
use Rattle.mds_types.specs.declared.problem.ProblemRow.{ProblemRow}
use Rattle.ceph_dumps.specs.PathList.{path_bytes}
use Rattle.ceph_snapshot.specs.declared.directory.Directory.{Directory}
use Rattle.ceph_snapshot.specs.declared.held.Held.{Held}
use Rattle.ceph_snapshot.specs.Holding.{held_below, most_heat}
use Rattle.ceph_snapshot.specs.Rows.{AreRowsOf}
use Rattle.ceph_plan.specs.declared.hours.Hour.{Hour}
use Rattle.ceph_plan.specs.declared.proposal.OwnPins.{OwnPins}
use Rattle.ceph_plan.specs.declared.proposal.Proposal.{Proposal}
use Rattle.ceph_plan.specs.Packing.{IsOneHour}
use Rattle.ceph_report.specs.Amounts.{AreAmounts, cold_inodes, goal_at, heat_going, inodes_from, inodes_to}
use Rattle.mdbal_ceph.specs.Hours.{AreGivenHours, IsPlanOfHours}
use Rattle.mdbal_ceph.specs.Outcomes.{IsHeldHeat}
use Rattle.mdbal_ceph.specs.declared.planning.PlanAsked.{PlanAsked}
use Rattle.mdbal_ceph.proofs.LeftRows.{left_stays}
use Rattle.mdbal_ceph.proofs.Refusals.{refused_decision}
use Rattle.mdbal_ceph.proofs.SharedRows.{shared_first, shared_now, shared_size}
use Rattle.mdbal_ceph.proofs.Untouched.{untouched}
use Rattle.mdbal_ceph.proofs.outcome.decided.Goals as goal

pub returns-clause-decision : goal.returns-clause-decision
returns-clause-decision c =
    let directories : List Directory = c.args.directories.now in
    let n : ℕ = length directories in
    let holds : List Held = c.in_ok-holds.holds.items in
    let rows : List ProblemRow = c.in_ok-rows.rows.items in
    let pinned : List ℕ = c.in_ok-pinned.pinned.items in
    let own : List OwnPins = c.in_ok-own.own.items in
    let held_is : c.as_slice-held.result.now ≡ holds = c.as_slice-held.ensures.value in
    let rows_of : AreRowsOf directories holds n rows = subst (λ (others : List Held). AreRowsOf directories others n rows) held_is c.in_ok-rows.ensures in
    let proposal : Proposal = c.in_ok-plan.plan.proposal in
    let asked : PlanAsked = c.args.asked.now in
    let given : List Hour = c.in_ok-given.given.items in
    let one : IsOneHour rows pinned c.in_ok-present.present.items =
    subst (λ (heats : List ℕ). IsOneHour rows heats c.in_ok-present.present.items) c.deref-2.ensures.value
    (subst (λ (others : List ProblemRow). IsOneHour others c.deref-2.result.now c.in_ok-present.present.items) c.deref.ensures.value
    c.in_ok-present.ensures.one) in
    let more = rw held_is at c.in_ok-given.ensures in
    let given_are : AreGivenHours directories holds rows pinned c.args.past.now given =
    record { now = c.in_ok-present.present.items; rest = more.0; one = one; rest_are = more.1; are = more.2 } in
    let leave : List (List ℕ) = path_bytes c.args.leave.now in
    let plan : IsPlanOfHours asked directories holds rows own given proposal c.in_ok-plan.plan.hours.items
    (map (λ name. name.items) c.in_ok-plan.plan.left.items) =
    rw (held_is, c.deref-3.ensures.value, c.deref-4.ensures.value, c.deref-5.ensures.value) at c.in_ok-plan.ensures.plan in
    let shares = plan.found_is.shares in
    let proposed = rw (sym plan.proposal_is) at plan.found_is.proposal in
    let size = shared_size directories holds rows asked.ranks plan.planned plan.weights shares rows_of plan.found_is.shares_are in
    let goals_are : (i : ℕ) → i < n → slice_index c.in_ok-goals.goals.items i ≡ goal_at holds proposal.rows.items i =
    λ i l. rw (held_is, c.deref-6.ensures.value) at
    (c.in_ok-goals.ensures.goals i (let inside : i < length c.deref-6.result.now =
    omega (arith, l, ap length c.deref-6.ensures.value, proposed.targets.size, size) in inside)) in
    record {
      size = c.in_ok-holds.ensures.size;
      held = c.in_ok-holds.ensures.held
          (shared_first directories holds rows asked.ranks plan.planned plan.weights shares rows_of plan.found_is.shares_are
          proposed.chosen.plan.forest);
      pinned = record {
        size = c.in_ok-pinned.ensures.size;
        at = subst (λ (others : List Held). (r : ℕ) → r < 64
            → slice_index pinned r ≡ min most_heat (slice_index c.args.spread.now r + held_below directories others r n))
            held_is c.in_ok-pinned.ensures.heats;
      };
      planned = record {
        rows = rows;
        own = own;
        rows_of = rows_of;
        own_pins = c.in_ok-own.ensures;
        given = given;
        given_are = given_are;
        plan = plan;
      };
      untouched = untouched directories leave shares.rows.items proposal.plan.part.items proposal.plan.packing.rank.items own
          (length shares.rows.items) asked.wanted.rests proposal.rows.items proposal.changes.items
          size c.in_ok-own.ensures proposed.targets proposed.changes.untouched;
      goals = goals_are;
      left = λ within i inside left free. goals_are i inside
          ∙ left_stays directories leave holds shares.rows.items own asked.wanted proposal.plan proposal.rows.items size
          (shared_now directories holds rows asked.ranks plan.planned plan.weights shares rows_of plan.found_is.shares_are)
          c.in_ok-own.ensures proposed.targets (proposed.within.0 within) i inside left free;
      now = c.in_ok-sums.ensures.now;
      into =
          subst (λ (others : List Held). AreAmounts c.in_ok-sums.sums.into.items (λ r. inodes_to directories others c.in_ok-goals.goals.items r n)) held_is
          (subst (λ (ranks : List ℕ). AreAmounts c.in_ok-sums.sums.into.items
          (λ r. inodes_to directories c.as_slice-held.result.now ranks r n)) c.deref-7.ensures.value c.in_ok-sums.ensures.into);
      out =
          subst (λ (others : List Held). AreAmounts c.in_ok-sums.sums.out.items (λ r. inodes_from directories others c.in_ok-goals.goals.items r n)) held_is
          (subst (λ (ranks : List ℕ). AreAmounts c.in_ok-sums.sums.out.items
          (λ r. inodes_from directories c.as_slice-held.result.now ranks r n)) c.deref-7.ensures.value c.in_ok-sums.ensures.out);
      cold =
          subst (λ (others : List Held). c.in_ok-sums.sums.cold ≡ min most_heat (cold_inodes directories others c.in_ok-goals.goals.items n)) held_is
          (subst (λ (ranks : List ℕ). c.in_ok-sums.sums.cold ≡ min most_heat (cold_inodes directories c.as_slice-held.result.now ranks n))
          c.deref-7.ensures.value c.in_ok-sums.ensures.cold);
      heat =
          subst (λ (others : List Held). c.in_ok-sums.sums.heat ≡ min most_heat (heat_going directories others c.in_ok-goals.goals.items n)) held_is
          (subst (λ (ranks : List ℕ). c.in_ok-sums.sums.heat ≡ min most_heat (heat_going directories c.as_slice-held.result.now ranks n))
          c.deref-7.ensures.value c.in_ok-sums.ensures.heat);
    }

pub returns-in_err-plan-clause-failed : goal.returns-in_err-plan-clause-failed
returns-in_err-plan-clause-failed c =
    let directories : List Directory = c.args.directories.now in
    let holds : List Held = c.in_ok-holds.holds.items in
    let rows : List ProblemRow = c.in_ok-rows.rows.items in
    let pinned : List ℕ = c.in_ok-pinned.pinned.items in
    let own : List OwnPins = c.in_ok-own.own.items in
    let given : List Hour = c.in_ok-given.given.items in
    let spread : List ℕ = c.args.spread.now in
    let leave : List (List ℕ) = path_bytes c.args.leave.now in
    let held_is : c.as_slice-held.result.now ≡ holds = c.as_slice-held.ensures.value in
    let rows_of : AreRowsOf directories holds (length directories) rows =
    subst (λ (others : List Held). AreRowsOf directories others (length directories) rows) held_is c.in_ok-rows.ensures in
    let pinned_are : IsHeldHeat directories holds spread pinned = record {
      size = c.in_ok-pinned.ensures.size;
      at = subst (λ (others : List Held). (r : ℕ) → r < 64
          → slice_index pinned r ≡ min most_heat (slice_index spread r + held_below directories others r (length directories)))
          held_is c.in_ok-pinned.ensures.heats;
    } in
    let one : IsOneHour rows pinned c.in_ok-present.present.items =
    subst (λ (heats : List ℕ). IsOneHour rows heats c.in_ok-present.present.items) c.deref-2.ensures.value
    (subst (λ (others : List ProblemRow). IsOneHour others c.deref-2.result.now c.in_ok-present.present.items) c.deref.ensures.value
    c.in_ok-present.ensures.one) in
    let more = rw held_is at c.in_ok-given.ensures in
    let given_are : AreGivenHours directories holds rows pinned c.args.past.now given =
    record { now = c.in_ok-present.present.items; rest = more.0; one = one; rest_are = more.1; are = more.2 } in
    let refused = rw (c.deref-3.ensures.value, c.deref-4.ensures.value, c.deref-5.ensures.value) at c.in_err-plan.ensures.failed in
    let e = err_from_is_err_and c.from_residual-in_err-plan.result c.from_residual-in_err-plan.ensures.1 in
    rw (e.1, e.2)
    (refused_decision directories holds rows spread pinned leave own c.args.past.now given c.args.asked.now _ rows_of pinned_are
    c.in_ok-own.ensures given_are refused)
