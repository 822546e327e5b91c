use Rattle.script_session.proofs.ProofsLemmas.{nothing_run}
use Rattle.script_session.proofs.script.run_named.Goals as goal

pub returns-in-Err-clause-run : goal.returns-in-Err-clause-run
returns-in-Err-clause-run g c = nothing_run g.R.Read.remaining c.args.options.limit c.args.options.strict c.args.input.now _ _
    c.without_memory.result c.without_memory.ensures
