use Rattle.std.proofs.Common.{List, refl, subst, sym}
use Rattle.std.specs.Prelude.{IfErr}
use Rattle.heat_ledger.specs.Rows.{counted_rows}
use Rattle.mds_board.specs.declared.change.Answer.TheVariants as answer
use Rattle.mds_board.specs.declared.change.Change.TheVariants as change
use Rattle.mds_board.specs.Steps.{spelled}
use Rattle.phased_board.specs.Moments.{IsMet}
use Rattle.mds_board.specs.declared.entry.Entry.{Entry}
use Rattle.phased_board.proofs.Going.{went_any}
use Rattle.phased_board.specs.Stops.{ranks_of}
use Rattle.phased_board.proofs.GoingOn.{requests_on}
use Rattle.phased_board.proofs.Later.{met_now}
use Rattle.phased_board.proofs.phased.Phased.deposit.Goals as goal

pub invariant_of-self : goal.invariant_of-self
invariant_of-self g c = (
  requests_on g.K.Phase.requests g.K.Phase.exports (ranks_of g.K.Phase.stops) g.K.Phase.before g.K.Phase.orders c.self.inside.board
      c.self.inside.standings.items c.self.inside.tickets (change.Deposit (counted_rows c.args.share.now.pending))
      (spelled (λ _. answer.Done) c.deposit-deposited.result)
      c.deposit-deposited.new.self c.requires c.self.invariant.0 refl c.deposit-deposited.ensures.answer,
  c.self.invariant.1,
  c.tell-2.ensures.log,
)

pub returns-clause-refused : goal.returns-clause-refused
returns-clause-refused g c =
    subst (λ (l : List Entry). IfErr c.deposit-deposited.result
    (λ e. IsMet g.K.Phase.before l (change.Deposit (counted_rows c.args.share.now.pending)) e)) (sym c.tell-2.ensures.seen)
    (met_now (ranks_of g.K.Phase.stops) g.K.Phase.before c.self.inside.board c.deposit-deposited.new.self
    (change.Deposit (counted_rows c.args.share.now.pending)) (λ _. answer.Done) c.deposit-deposited.result
    (went_any g.K.Phase.requests g.K.Phase.exports (ranks_of g.K.Phase.stops) g.K.Phase.before c.self.inside.board c.self.invariant.0.went)
    c.deposit-deposited.ensures.answer)
