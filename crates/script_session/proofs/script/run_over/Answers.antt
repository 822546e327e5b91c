use Rattle.std.proofs.Common.{rules, subst}
use Rattle.script_session.proofs.ScriptLemmas.{all_answered}
use Rattle.script_session.specs.Script.{IsKeptAt}
use Rattle.script_session.specs.Session.{SessionData}
use Rattle.script_session.proofs.script.run_over.Goals as goal

pub returns-clause-run : goal.returns-clause-run
returns-clause-run g c = record {
  done = all_answered c.args.options.limit c.args.options.strict c.new-session.result c.run_script-answered.new.interpreter
      c.run_script-answered.result _ _ _ (subst (λ (s : SessionData). IsKeptAt s.board) c.hinted.view_is c.promises.ensures)
      c.new-session.ensures c.run_script-answered.ensures.done;
  given = search rules;
  stops = search rules;
  read = search rules;
  cause = search rules;
  write = search rules;
  proofs = search rules;
}
