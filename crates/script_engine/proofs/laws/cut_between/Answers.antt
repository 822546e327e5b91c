use Rattle.std.proofs.Common.{◌+◌, length, refl}
use Rattle.script_engine.proofs.RunLemmas.{run_split}
use Rattle.script_engine.proofs.laws.cut_between.Goals as goal

pub returns : goal.returns
returns g c = λ strict old new number lines more replies others same going run.
    run_split g.I.Interpreter.answers strict old new number (length lines + number) lines more replies others same going refl run
