use Rattle.std.proofs.Common.{◌∙◌, sym, subst}
use Rattle.mds_board.specs.History.{World}
use Rattle.phased_board.specs.Asked.{IsAsked}
use Rattle.phased_board.specs.Outcomes.{IsRefused}
use Rattle.phased_board.proofs.Asking.{newly_refused, newly_started}
use Rattle.phased_board.proofs.starting.settle.Goals as goal

pub returns-in-Ok-clause-asked : goal.returns-in-Ok-clause-asked
returns-in-Ok-clause-asked g c = λ stops first order h is.
    newly_started stops first c.args.board.now c.start.new.board order c.in-Waiting.order c.in-Ok.export h
    (subst (λ s. IsAsked first c.args.board.now order s) (sym c.replace.ensures.value ∙ c.in-Waiting.is) is)
    c.in-Ok.ensures.started.0 c.in-Ok.ensures.started.1

pub returns-in-Err-clause-asked : goal.returns-in-Err-clause-asked
returns-in-Err-clause-asked g c = λ stops first order h is.
    subst (λ (w : World). IsRefused first w order c.in-Err.error) (sym c.in-Err.ensures.unchanged)
    (newly_refused stops first c.args.board.now order c.in-Waiting.order c.in-Err.error h
    (subst (λ s. IsAsked first c.args.board.now order s) (sym c.replace.ensures.value ∙ c.in-Waiting.is) is) c.in-Err.ensures.refused)
