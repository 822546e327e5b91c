use Rattle.std.proofs.Common.{Vec, Global, map, subst, sym}
use Rattle.mds_board.specs.History.{World}
use Rattle.rank_threads.specs.declared.work.Work.{Work}
use Rattle.rank_threads.specs.declared.work.WorkAnswer.{WorkAnswer}
use Rattle.phased_board.specs.Begun.{IsEndTold}
use Rattle.rank_threads.specs.Asking.{AreServed}
use Rattle.rank_threads.proofs.Later.{served_later}
use Rattle.rank_threads.proofs.phase.close.Goals as goal

pub returns : goal.returns
returns g c = λ shares ways scripts served.
    let of = c.args.joined in
    let asked = map (λ (s : Vec Work Global). s.items) scripts in
    let answers = map (λ (a : Vec WorkAnswer Global). a.items) of.answers.items in
    let later = map g.W.Route.way of.ways.items in
    record {
      served = subst (λ (w : World). AreServed g.J.Naming.limit g.K.Phase.before w.history shares ways asked answers of.shares.items later of.deposited)
          (sym c.compare.ensures.same)
          (served_later g.J.Naming.limit g.K.Phase.before of.known.seen c.end_all-ended.new.self.history shares ways asked answers
          of.shares.items later of.deposited c.compare.ensures.before served);
      ended = subst (λ (w : World). IsEndTold g.K.Phase.before w c.end_all-ended.result) (sym c.compare.ensures.same) c.end_all-ended.ensures;
    }
