use Rattle.std.proofs.Common.{◌∙◌, sym, subst}
use Rattle.phased_board.specs.Asked.{AreAsked}
use Rattle.phased_board.proofs.Asking.{begun_later}
use Rattle.phased_board.proofs.phased.PhasedExportSide.started.Goals as goal

pub returns-in-Some-Started : goal.returns-in-Some-Started
returns-in-Some-Started g c =
    let first = g.K.Phase.before in
    let found = c.in-Some-Started.ensures.lookup.3 in
    let asked = subst (λ ss. AreAsked first c.self.inside.board g.K.Phase.orders ss) (sym c.deref.ensures.value) c.self.invariant.0.asked in
    begun_later first c.self.inside.board g.K.Phase.orders c.deref.result.now c.args.number c.in-Some-Started.export c.in-Some-Started.field-0.now found.0 asked
    (sym (found.1 c.in-Some-Started.field-0.now) ∙ c.in-Some-Started.field-0-is)
