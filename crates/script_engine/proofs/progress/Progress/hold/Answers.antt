use Rattle.script_engine.proofs.ProgressLemmas.{holds_over}
use Rattle.script_engine.proofs.progress.Progress.hold.Goals as goal

pub returns-then-not-self-clause-holds : goal.returns-then-not-self-clause-holds
returns-then-not-self-clause-holds c = λ rest h. holds_over rest _ _ _ c.if-not-self.true h
