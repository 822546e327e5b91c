use Rattle.std.proofs.Common.{◌≡◌, ◌≤◌, ◌^◌, ◌∙◌, ℕ, Bool, List, ap, arith, false, inl, inr, length, slice_index, subst, sym, true}
use Rattle.std.proofs.lemmas.Result.{err_from_is_err_and}
use Rattle.std.specs.Prelude.{Vec}
use Rattle.std.specs.Global.{Global}
use Rattle.mds_types.specs.RankSet.{has_rank}
use Rattle.mds_types.specs.Sums.{sum_below}
use Rattle.mds_types.specs.declared.limits.TheConstants.{DIR_LIMIT}
use Rattle.ceph_dumps.specs.PathList.{path_bytes}
use Rattle.ceph_folding.specs.Folding.{AreHeatsLeft}
use Rattle.ceph_folding.specs.TooMany.{AreTooMany}
use Rattle.ceph_snapshot.specs.declared.directory.Directory.{Directory}
use Rattle.ceph_plan.specs.Packing.{ArePlanRanks, IsAsGreat, IsBoundOf}
use Rattle.mdbal_ceph.specs.Hours.{ArePastHours, IsSeenAt}
use Rattle.mdbal_ceph.specs.NotMade.{AreTooManyForUnits}
use Rattle.mdbal_ceph.specs.Outcomes.{AreFreeHeats, AreUnitHours, IsBoundOfAll, IsDecision}
use Rattle.mdbal_ceph.specs.declared.hours.PastHour.{PastHour}
use Rattle.mdbal_ceph.specs.declared.outcome.Decision.{Decision}
use Rattle.mdbal_ceph.specs.declared.past.EarlierHour.{EarlierHour}
use Rattle.mdbal_ceph.specs.declared.planning.PlanAsked.{PlanAsked}
use Rattle.mdbal_ceph.proofs.Faults.{folding_growth}
use Rattle.mdbal_ceph.proofs.Kept.{kept_through}
use Rattle.mdbal_ceph.proofs.PastHours.{past_sizes, past_spreads, same_length}
use Rattle.mdbal_ceph.proofs.PresentPinned.{present_pinned}
use Rattle.mdbal_ceph.proofs.outcome.planned.Goals as goal

pub folded-requires : goal.folded-requires
folded-requires c = c.in_ok-units.ensures.sizes

-- as many hours at the directories that are planned one by one
unit_count : (subvolumes : Bool) (collected units : List Directory) (hours left : List (Vec ℕ Global))
    → AreUnitHours subvolumes collected units hours left → length left ≡ length hours
unit_count false collected units hours left are = ap length are
unit_count true collected units hours left are = same_length (λ (hour one : Vec ℕ Global). AreHeatsLeft are.0 are.1 hour.items one.items) hours left are.3

pub past_hours-requires : goal.past_hours-requires
past_hours-requires c =
    let hours : List (Vec ℕ Global) = c.in_ok-hours.hours.items in
    let at_units : List (Vec ℕ Global) = c.units.new.hours.items in
    let at_directories : List (Vec ℕ Global) = c.folded.new.hours.items in
    let folded = c.in_ok-directories.ensures.hours in
    ap length c.deref-7.ensures.value
    ∙ (same_length (λ (hour one : Vec ℕ Global). AreHeatsLeft folded.0 folded.1 hour.items one.items) at_units at_directories folded.3
    ∙ (unit_count _ _ _ hours at_units c.in_ok-units.ensures.hours
    ∙ same_length (λ (hour : EarlierHour) (heats : Vec ℕ Global). IsSeenAt c.deref.result.now hour.kept heats) c.args.earlier.now hours
    c.in_ok-hours.ensures.each))

pub decided-requires-clause-heats : goal.decided-requires-clause-heats
decided-requires-clause-heats c =
    let past : ArePastHours c.args.earlier.now c.folded.new.hours.items c.in_ok-past.past.items =
    record { heats_are = rw c.deref-7.ensures.value at c.in_ok-past.ensures.heats; spread = c.in_ok-past.ensures.spread } in
    rw (c.deref-9.ensures.value, c.deref-11.ensures.value)
    (past_sizes (length c.in_ok-directories.directories.items) c.args.earlier.now c.folded.new.hours.items c.in_ok-past.past.items past
    c.in_ok-directories.ensures.sizes)

pub decided-requires-clause-spreads : goal.decided-requires-clause-spreads
decided-requires-clause-spreads c =
    let past : ArePastHours c.args.earlier.now c.folded.new.hours.items c.in_ok-past.past.items =
    record { heats_are = rw c.deref-7.ensures.value at c.in_ok-past.ensures.heats; spread = c.in_ok-past.ensures.spread } in
    rw c.deref-11.ensures.value (past_spreads c.args.earlier.now c.folded.new.hours.items c.in_ok-past.past.items past c.requires.spread)

pub heats_bound-bound-requires : goal.heats_bound-bound-requires
heats_bound-bound-requires c =
    let planned = c.in_ok-decision.ensures.decision.planned in
    let plan = planned.plan in
    subst (ArePlanRanks c.in_ok-ranks.ranks) (sym c.deref-13.ensures.value) (record {
      zero = subst (λ ranks. has_rank ranks 0 ≡ true) c.asked_by-asked.ensures.ranks plan.found_is.proposal.chosen.plannable.zero;
      held = present_pinned _ _ planned.rows _ _ planned.given _ _ _ _ plan.chosen plan.made plan.planned plan.weights planned.given_are
          plan.chosen_are plan.planned_are plan.found_is.countable;
    })

-- the bound of what was collected
bound_of_all : (collected : List Directory) (heats those pinned held : List ℕ) (ranks bound : ℕ) → AreFreeHeats collected heats → those ≡ heats → held ≡ pinned
    → IsBoundOf ranks held (length those) (slice_index those) bound
    → (sum_below (length those) (slice_index those) ≤ 2 ^ 62 → IsAsGreat ranks held (length those) (slice_index those) bound)
    → IsBoundOfAll collected pinned ranks bound
bound_of_all collected heats those pinned held ranks bound are heats_are pinned_are lower great = record {
  heats = heats;
  are = are;
  lower = subst (λ (xs : List ℕ). IsBoundOf ranks pinned (length xs) (slice_index xs) bound) heats_are
      (subst (λ (xs : List ℕ). IsBoundOf ranks xs (length those) (slice_index those) bound) pinned_are lower);
  great = subst (λ (xs : List ℕ). sum_below (length xs) (slice_index xs) ≤ 2 ^ 62 → IsAsGreat ranks pinned (length xs) (slice_index xs) bound) heats_are
      (subst (λ (xs : List ℕ). sum_below (length those) (slice_index those) ≤ 2 ^ 62
      → IsAsGreat ranks xs (length those) (slice_index those) bound) pinned_are great);
}

pub returns-clause-outcome : goal.returns-clause-outcome
returns-clause-outcome c =
    let directories : List Directory = c.in_ok-directories.directories.items in
    let collected : List Directory = c.args.collected.snapshot.directories.items in
    let spread : List ℕ = c.args.collected.snapshot.spread.items in
    let heats : List ℕ = c.in_ok-heats.heats.items in
    let leave : List (List ℕ) = path_bytes c.args.leave.now in
    let decision : Decision = c.in_ok-decision.decision in
    let past : List PastHour = c.in_ok-past.past.items in
    let asked : PlanAsked = c.asked_by-asked.result in
    record {
      units = c.in_ok-units.units.items;
      each = c.in_ok-units.ensures.units;
      few = c.in_ok-directories.ensures.few;
      same = c.in_ok-directories.ensures.same;
      folded = c.in_ok-directories.ensures.folded;
      count = omega (arith, c.in_ok-directories.ensures.count, c.in_ok-units.ensures.count);
      unpinnable = kept_through collected c.in_ok-units.units.items directories c.requires.snapshot.kept c.in_ok-units.ensures.kept
          c.in_ok-directories.ensures.kept;
      past = past;
      past_are = record {
        seen = c.in_ok-hours.hours.items;
        seen_are = rw c.deref.ensures.value at c.in_ok-hours.ensures.each;
        at_units = c.units.new.hours.items;
        at_units_are = c.in_ok-units.ensures.hours;
        heats = c.folded.new.hours.items;
        heats_are = c.in_ok-directories.ensures.hours;
        are = record { heats_are = rw c.deref-7.ensures.value at c.in_ok-past.ensures.heats; spread = c.in_ok-past.ensures.spread };
      };
      asked = asked;
      asked_is = record {
        wanted_is = c.asked_by-asked.ensures.wanted;
        ranks_are = c.asked_by-asked.ensures.ranks;
        names = rw (c.asked_by-asked.ensures.names, c.deref-8.ensures.value) c.in_ok-names.ensures;
        chosen = c.asked_by-asked.ensures.chosen;
        made = c.asked_by-asked.ensures.made;
      };
      decided =
          subst (λ (others : List PastHour). IsDecision directories spread leave others asked decision) c.deref-11.ensures.value
          (subst (λ (heats : List ℕ). IsDecision directories heats leave c.deref-11.result.now asked decision) c.deref-10.ensures.value
          (subst (λ (others : List Directory). IsDecision others c.deref-10.result.now leave c.deref-11.result.now asked decision)
          c.deref-9.ensures.value c.in_ok-decision.ensures.decision));
      hottest = record {
        heats = heats;
        are = subst (λ (those : List Directory). AreFreeHeats those heats) c.deref-2.ensures.value c.in_ok-heats.ensures;
        is = rw (c.deref-3.ensures.value, c.deref-4.ensures.value) at c.in_ok-hottest.ensures;
      };
      advice = record {
        heats = heats;
        are = subst (λ (those : List Directory). AreFreeHeats those heats) c.deref-2.ensures.value c.in_ok-heats.ensures;
        is = rw (c.deref-5.ensures.value, c.deref-6.ensures.value) at c.in_ok-advice.ensures;
      };
      bound = bound_of_all collected heats c.deref-12.result.now decision.pinned.items c.deref-13.result.now c.in_ok-ranks.ranks c.heats_bound-bound.result
          (subst (λ (those : List Directory). AreFreeHeats those heats) c.deref-2.ensures.value c.in_ok-heats.ensures)
          c.deref-12.ensures.value c.deref-13.ensures.value
          c.heats_bound-bound.ensures.lower c.heats_bound-bound.ensures.three;
    }

pub returns-in_err-refuse_others-clause-failed : goal.returns-in_err-refuse_others-clause-failed
returns-in_err-refuse_others-clause-failed c =
    let e = err_from_is_err_and c.from_residual.result c.from_residual.ensures.1 in
    rw (e.1, e.2) (inr (inl c.in_err-refuse_others.ensures.failed))

pub returns-in_err-ranks-clause-failed : goal.returns-in_err-ranks-clause-failed
returns-in_err-ranks-clause-failed c =
    let e = err_from_is_err_and c.from_residual-in_err-ranks.result c.from_residual-in_err-ranks.ensures.1 in
    rw (e.1, e.2) (inr (inr (inl c.in_err-ranks.ensures.failed)))

pub returns-in_err-hours-clause-failed : goal.returns-in_err-hours-clause-failed
returns-in_err-hours-clause-failed c =
    let e = err_from_is_err_and c.from_residual-in_err-hours.result c.from_residual-in_err-hours.ensures.1 in
    rw (e.1, e.2) (inr (inr (inr (inl (rw c.deref.ensures.value at c.in_err-hours.ensures.failed)))))

pub returns-in_err-units-clause-failed : goal.returns-in_err-units-clause-failed
returns-in_err-units-clause-failed c =
    let e = err_from_is_err_and c.from_residual-in_err-units.result c.from_residual-in_err-units.ensures.1 in
    rw (e.1, e.2)
    (inl (folding_growth c.args.settings.now.subvolumes c.args.collected.snapshot.directories.items c.args.earlier.now
    (AreTooManyForUnits c.args.settings.now.subvolumes c.args.collected.snapshot.directories.items c.in_ok-hours.hours.items)
    c.in_err-units.field-0.0
    (λ many. record {
      seen = c.in_ok-hours.hours.items;
      seen_are = rw c.deref.ensures.value at c.in_ok-hours.ensures.each;
      many = inl many;
    })
    (c.in_err-units.ensures.many c.requires.snapshot.first)))

pub returns-in_err-directories-clause-failed : goal.returns-in_err-directories-clause-failed
returns-in_err-directories-clause-failed c =
    let e = err_from_is_err_and c.from_residual-in_err-directories.result c.from_residual-in_err-directories.ensures.1 in
    rw (e.1, e.2)
    (inl (folding_growth c.args.settings.now.subvolumes c.args.collected.snapshot.directories.items c.args.earlier.now
    (AreTooMany c.in_ok-units.units.items DIR_LIMIT c.units.new.hours.items) c.in_err-directories.field-0.0
    (λ many. record {
      seen = c.in_ok-hours.hours.items;
      seen_are = rw c.deref.ensures.value at c.in_ok-hours.ensures.each;
      many = inr (record {
        units = c.in_ok-units.units.items;
        units_are = c.in_ok-units.ensures.units;
        at_units = c.units.new.hours.items;
        at_units_are = c.in_ok-units.ensures.hours;
        many = many;
      });
    })
    (c.in_err-directories.ensures.many (c.in_ok-units.ensures.first c.requires.snapshot.first))))

pub returns-in_err-decision-clause-failed : goal.returns-in_err-decision-clause-failed
returns-in_err-decision-clause-failed c =
    let e = err_from_is_err_and c.from_residual-in_err-decision.result c.from_residual-in_err-decision.ensures.1 in
    rw (e.1, e.2)
    (inr (inr (inr (inr (record {
      ranks = c.in_ok-ranks.ranks;
      ranks_are = c.in_ok-ranks.ensures.ranks;
      units = c.in_ok-units.units.items;
      units_are = c.in_ok-units.ensures.units;
      directories = c.in_ok-directories.directories.items;
      few = c.in_ok-directories.ensures.few;
      same = c.in_ok-directories.ensures.same;
      folded = c.in_ok-directories.ensures.folded;
      past = c.in_ok-past.past.items;
      past_are = record {
        seen = c.in_ok-hours.hours.items;
        seen_are = rw c.deref.ensures.value at c.in_ok-hours.ensures.each;
        at_units = c.units.new.hours.items;
        at_units_are = c.in_ok-units.ensures.hours;
        heats = c.folded.new.hours.items;
        heats_are = c.in_ok-directories.ensures.hours;
        are = record { heats_are = rw c.deref-7.ensures.value at c.in_ok-past.ensures.heats; spread = c.in_ok-past.ensures.spread };
      };
      asked = c.asked_by-asked.result;
      asked_is = record {
        wanted_is = c.asked_by-asked.ensures.wanted;
        ranks_are = c.asked_by-asked.ensures.ranks;
        names = rw (c.asked_by-asked.ensures.names, c.deref-8.ensures.value) c.in_ok-names.ensures;
        chosen = c.asked_by-asked.ensures.chosen;
        made = c.asked_by-asked.ensures.made;
      };
      refused = rw (c.deref-9.ensures.value, c.deref-10.ensures.value, c.deref-11.ensures.value) at c.in_err-decision.ensures.failed;
    })))))

pub returns-in_err-heats-clause-failed : goal.returns-in_err-heats-clause-failed
returns-in_err-heats-clause-failed c =
    let e = err_from_is_err_and c.from_residual-in_err-heats.result c.from_residual-in_err-heats.ensures.1 in
    rw (e.1, e.2) (inl tt)

pub returns-in_err-hottest-clause-failed : goal.returns-in_err-hottest-clause-failed
returns-in_err-hottest-clause-failed c =
    let e = err_from_is_err_and c.from_residual-in_err-hottest.result c.from_residual-in_err-hottest.ensures.1 in
    rw (e.1, e.2) (inl tt)

pub returns-in_err-advice-clause-failed : goal.returns-in_err-advice-clause-failed
returns-in_err-advice-clause-failed c =
    let e = err_from_is_err_and c.from_residual-in_err-advice.result c.from_residual-in_err-advice.ensures.1 in
    rw (e.1, e.2) (inl tt)

pub returns-in_err-names-clause-failed : goal.returns-in_err-names-clause-failed
returns-in_err-names-clause-failed c =
    let e = err_from_is_err_and c.from_residual-in_err-names.result c.from_residual-in_err-names.ensures.1 in
    rw (e.1, e.2) (inl tt)

pub returns-in_err-past-clause-failed : goal.returns-in_err-past-clause-failed
returns-in_err-past-clause-failed c =
    let e = err_from_is_err_and c.from_residual-in_err-past.result c.from_residual-in_err-past.ensures.1 in
    rw (e.1, e.2) (inl tt)
