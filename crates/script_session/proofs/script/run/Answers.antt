use Rattle.script_session.proofs.ProofsLemmas.{nothing_run}
use Rattle.script_session.proofs.script.run.Goals as goal

pub returns-in_default-clause-run : goal.returns-in_default-clause-run
returns-in_default-clause-run g c = nothing_run g.R.Read.remaining c.args.options.limit c.args.options.strict c.args.input.now _ _
    c.without_memory.result c.without_memory.ensures
