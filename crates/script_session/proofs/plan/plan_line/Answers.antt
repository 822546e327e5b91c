use Rattle.script_session.proofs.plan.plan_line.Goals as goal

pub returns : goal.returns
returns c = rw (← c.plan.view_is) (rw c.proof_word.ensures at c.first_line.ensures)
