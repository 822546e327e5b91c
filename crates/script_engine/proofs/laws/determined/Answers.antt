use Rattle.script_engine.proofs.RunLemmas.{run_played}
use Rattle.script_engine.proofs.laws.determined.Goals as goal

pub returns : goal.returns
returns g c = λ sure play strict old new number lines replies is all run ample.
    run_played sure g.I.Interpreter.answers play strict is old new number lines replies all run ample
