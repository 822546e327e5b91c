-- From what the planner refuses to why nothing is planned.
use Rattle.std.proofs.Common.{◌≡◌, ◌≢◌, ℕ, List, length, subst, sym}
use Rattle.mds_types.specs.declared.problem.ProblemRow.{ProblemRow}
use Rattle.ceph_pins.specs.OwnPins.{AreOwnPins}
use Rattle.ceph_pins.specs.PinsScript.{AreWritable}
use Rattle.ceph_pins.specs.declared.script_error.ScriptError.{ScriptError}
use Rattle.ceph_pins.specs.declared.script_error.ScriptError.TheVariants as script
use Rattle.ceph_plan.specs.declared.hours.Hour.{Hour}
use Rattle.ceph_plan.specs.declared.plan_error.PlanError.{PlanError}
use Rattle.ceph_plan.specs.declared.plan_error.PlanError.TheVariants as plan
use Rattle.ceph_plan.specs.declared.proposal.OwnPins.{OwnPins}
use Rattle.ceph_plan.specs.declared.row.PinChange.{PinChange}
use Rattle.ceph_snapshot.specs.Rows.{AreRowsOf}
use Rattle.ceph_snapshot.specs.declared.directory.Directory.{Directory}
use Rattle.ceph_snapshot.specs.declared.held.Held.{Held}
use Rattle.mdbal_ceph.specs.Hours.{AreGivenHours}
use Rattle.mdbal_ceph.specs.NotMade.{AreRefusedHours, IsDecisionFault, IsNoHoursPlan, IsUnwritable, IsWritingFault}
use Rattle.mdbal_ceph.specs.NoResults.{planned_error, script_error}
use Rattle.mdbal_ceph.specs.Outcomes.{IsHeldHeat}
use Rattle.mdbal_ceph.specs.declared.hours.PastHour.{PastHour}
use Rattle.mdbal_ceph.specs.declared.no_result.NoPlan.TheVariants as no
use Rattle.mdbal_ceph.specs.declared.no_result.NoResult.{NoResult}
use Rattle.mdbal_ceph.specs.declared.no_result.NoResult.TheVariants as why
use Rattle.mdbal_ceph.specs.declared.outcome.Outcome.{Outcome}
use Rattle.mdbal_ceph.specs.declared.planning.PlanAsked.{PlanAsked}
use Rattle.mdbal_ceph.specs.declared.settings.PlanSettings.{PlanSettings}

module _ (asked : PlanAsked) (rows : List ProblemRow) (own : List OwnPins) (given : List Hour) where
  -- the planner refuses hours
  pub refused_hours : (e : PlanError) → AreRefusedHours asked rows own given e → IsNoHoursPlan asked rows own given (planned_error e)
  refused_hours plan.Memory h = tt
  refused_hours other h = h

  pub hours_memory : (e : PlanError) → e ≡ plan.Memory → IsNoHoursPlan asked rows own given (planned_error e)
  hours_memory e is = subst (λ x. IsNoHoursPlan asked rows own given (planned_error x)) (sym is) tt

-- so nothing is decided
pub refused_decision : (directories : List Directory) (holds : List Held) (rows : List ProblemRow) (spread pinned : List ℕ)
    (leave : List (List ℕ)) (own : List OwnPins) (past : List PastHour)
    (given : List Hour) (asked : PlanAsked) (e : NoResult) → AreRowsOf directories holds (length directories) rows
    → IsHeldHeat directories holds spread pinned → AreOwnPins directories leave (length directories) own
    → AreGivenHours directories holds rows pinned past given → IsNoHoursPlan asked rows own given e → IsDecisionFault directories spread leave past asked e
refused_decision directories holds rows spread pinned leave own past given asked why.Memory rows_of pinned_are own_are given_are h = tt
refused_decision directories holds rows spread pinned leave own past given asked (why.NoPlan (no.Refused error)) rows_of pinned_are own_are
    given_are h = record {
      holds = holds;
      rows = rows;
      rows_of = rows_of;
      pinned = pinned;
      pinned_are = pinned_are;
      own = own;
      own_are = own_are;
      given = given;
      given_are = given_are;
      refused = h;
    }
refused_decision directories holds rows spread pinned leave own past given asked other rows_of pinned_are own_are given_are h = absurd h

-- and what is planned isn't written
pub unwritable : (settings : PlanSettings) (outcome : Outcome) (e : ScriptError) → (e ≢ script.Memory → IsUnwritable settings outcome)
    → IsWritingFault settings outcome (script_error e)
unwritable settings outcome script.Memory h = tt
unwritable settings outcome script.Nul h = h (λ is. absurd cc)
unwritable settings outcome (script.NoDirectory row) h = h (λ is. absurd cc)

-- the same changes can be written
pub writable_same : (mount mounted name named fsid identified : List ℕ) (directories others : List Directory)
    (changes same : List PinChange) → mounted ≡ mount → named ≡ name → identified ≡ fsid
    → others ≡ directories → same ≡ changes → AreWritable mount name fsid directories changes → AreWritable mounted named identified others same
writable_same mount mounted name named fsid identified directories others changes same m n f d c w = rw (m, n, f, d, c) w
