use Rattle.script_board.proofs.CostOfPlan.{cost_greatest, cost_is_plan}
use Rattle.script_board.proofs.laws.tops_give_the_parts.Goals as goal

pub returns : goal.returns
returns c = record {
  parts = λ entries own heats now plan tree forest divided. cost_is_plan entries own heats now plan tree forest divided;
  greatest = λ entries own heats now plan tree forest divided. cost_greatest entries own heats now plan tree forest divided;
}
