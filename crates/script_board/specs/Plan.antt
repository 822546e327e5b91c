-- What `plan` does: a best plan is made and adopted, and its orders are kept.
use Rattle.std.specs.Prelude.{◌≡◌, Result}
use Rattle.mds_types.specs.declared.plan.Plan.{Plan}
use Rattle.mds_types.specs.Certificate.{IsBest, IsCertified}
use Rattle.plan_checker.specs.Present.{KeepsBest}
use Rattle.planner.specs.Fewer.{IsNoWorse}
use Rattle.mds_board.specs.declared.change.Change.TheVariants.{Open, Adopt}
use Rattle.mds_board.specs.State.{balance_refusal, dirs_of, plan_orders, problem_of}
use Rattle.mds_board.specs.History.{recorded}
use Rattle.script_board.specs.declared.fault.Fault.{Fault}
use Rattle.script_board.specs.Board.{BoardData}
use Rattle.script_board.specs.Fault.{unless}

-- the board after its problem was opened and this plan adopted, whose orders are kept
abbrev pub planned : BoardData → Plan → BoardData
planned b plan = record b {
  world = recorded (recorded b.world Open) (Adopt plan);
  kept = plan_orders b.world.state (dirs_of b.world.state) plan;
}

-- No division of the unpinned directories into as many parts as ranks are usable has a smaller greatest heat, and no
-- placing of the parts on usable ranks moves fewer inodes; the plan's proofs hold; it moves nothing where the present
-- placement is itself best; it moves no more than any placing of the division that the search finds; and it is the one
-- that was adopted.
pub record IsPlanned (old : BoardData) (plan : Plan) (new : BoardData) : Type 0 where
  pub best : IsBest (problem_of old.world.state) plan
  pub certified : IsCertified (problem_of old.world.state) plan
  pub keeps : KeepsBest (problem_of old.world.state) plan
  pub fewer : IsNoWorse (problem_of old.world.state) plan
  pub adopted : new ≡ planned old plan

-- why no plan is made
abbrev pub plan_due : BoardData → Result BoardData Fault
plan_due b = unless (balance_refusal b.world.state) b
