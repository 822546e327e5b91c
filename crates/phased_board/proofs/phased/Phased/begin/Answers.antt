use Rattle.std.proofs.Common.{List, refl, subst, sym, ◌∙◌}
use Rattle.std.specs.Prelude.{IfErr, IfOk}
use mathlib.Core.List.{IsPrefix}
use Rattle.export_protocol.specs.declared.event.Event.{Event}
use Rattle.export_protocol.specs.declared.event.Reply.TheVariants as reply
use Rattle.mds_board.specs.declared.change.Answer.TheVariants as answer
use Rattle.mds_board.specs.declared.change.Change.TheVariants as change
use Rattle.mds_board.specs.Steps.{spelled}
use Rattle.phased_board.specs.Moments.{IsMet}
use Rattle.phased_board.proofs.Asking.{follows}
use Rattle.phased_board.proofs.Going.{longer, went_any}
use Rattle.mds_board.specs.declared.entry.Entry.{Entry}
use Rattle.phased_board.specs.Begun.{IsBegun}
use Rattle.phased_board.specs.Stops.{ranks_of}
use Rattle.phased_board.proofs.Begun.{begun_now, given_above, given_below}
use Rattle.phased_board.proofs.GoingOn.{requests_on}
use Rattle.phased_board.proofs.Later.{met_now}
use Rattle.phased_board.proofs.phased.Phased.begin.Goals as goal

pub give-requires : goal.give-requires
give-requires g c = given_above c.self.inside.board c.begin-begun.new.board c.args.rank c.args.dir c.begin-begun.result
    c.self.inside.tickets c.self.invariant.0.given c.begin-begun.ensures.answer

pub tell-requires : goal.tell-requires
tell-requires g c =
    subst (λ (l : List Entry). IsPrefix l c.begin-begun.new.board.history) (sym (c.show.ensures.log ∙ c.self.invariant.2))
    (longer c.self.inside.board c.begin-begun.new.board (change.Step (Event.Begin c.args.rank c.args.dir))
    (spelled (λ t. answer.Reply (reply.Ticket t)) c.begin-begun.result) c.begin-begun.ensures.answer)

pub invariant_of-self : goal.invariant_of-self
invariant_of-self g c =
    let way = requests_on g.K.Phase.requests g.K.Phase.exports (ranks_of g.K.Phase.stops) g.K.Phase.before g.K.Phase.orders
    c.self.inside.board c.self.inside.standings.items c.self.inside.tickets (change.Step (Event.Begin c.args.rank c.args.dir))
    (spelled (λ t. answer.Reply (reply.Ticket t)) c.begin-begun.result) c.begin-begun.new.board c.requires c.self.invariant.0 refl
    c.begin-begun.ensures.answer in (
      record {
        went = way.went;
        asked = way.asked;
        counted = way.counted;
        given = given_below c.self.inside.board c.begin-begun.new.board c.args.rank c.args.dir c.begin-begun.result c.self.inside.tickets
            c.give.new.tickets way.given c.begin-begun.ensures.answer c.give.ensures.next c.give.ensures.same;
      },
      c.self.invariant.1,
      c.tell.ensures.log,
    )

pub returns-clause-begun : goal.returns-clause-begun
returns-clause-begun g c =
    subst (λ (l : List Entry). IfOk c.begin-begun.result (λ t. IsBegun g.K.Phase.before l c.args.rank c.args.dir t)) (sym c.tell.ensures.seen)
    (begun_now (ranks_of g.K.Phase.stops) g.K.Phase.before c.self.inside.board c.begin-begun.new.board c.args.rank c.args.dir c.begin-begun.result
    (went_any g.K.Phase.requests g.K.Phase.exports (ranks_of g.K.Phase.stops) g.K.Phase.before c.self.inside.board c.self.invariant.0.went)
    c.begin-begun.ensures.answer)

pub returns-clause-refused : goal.returns-clause-refused
returns-clause-refused g c =
    subst (λ (l : List Entry). IfErr c.begin-begun.result
    (λ e. IsMet g.K.Phase.before l (change.Step (Event.Begin c.args.rank c.args.dir)) e)) (sym c.tell.ensures.seen)
    (met_now (ranks_of g.K.Phase.stops) g.K.Phase.before c.self.inside.board c.begin-begun.new.board
    (change.Step (Event.Begin c.args.rank c.args.dir)) (λ t. answer.Reply (reply.Ticket t)) c.begin-begun.result
    (went_any g.K.Phase.requests g.K.Phase.exports (ranks_of g.K.Phase.stops) g.K.Phase.before c.self.inside.board c.self.invariant.0.went)
    c.begin-begun.ensures.answer)

pub returns-clause-seen : goal.returns-clause-seen
returns-clause-seen g c =
    subst (λ (l : List Entry). IsPrefix c.args.known.now.seen l) (sym c.tell.ensures.seen)
    (follows c.args.known.now.seen c.show.new.seen c.begin-begun.new.board.history
    (subst (λ (l : List Entry). IsPrefix c.args.known.now.seen l) (sym c.show.ensures.seen) c.show.ensures.before)
    c.tell.ensures.before)
