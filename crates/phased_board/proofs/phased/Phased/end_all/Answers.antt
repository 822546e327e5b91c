use Rattle.std.proofs.Common.{◌≡◌, ◌++◌, ◌∙◌, [], ℕ, List, Some, None, ap, sym, subst, append-nil, append_assoc, arith}
use Rattle.export_protocol.specs.Authority.{request_of}
use Rattle.mds_board.specs.declared.entry.Entry.{Entry}
use Rattle.phased_board.specs.Stops.{ranks_of}
use Rattle.phased_board.proofs.Ended.{either_met, none_runs, over_more}
use Rattle.phased_board.proofs.Later.{end_later}
use Rattle.phased_board.proofs.phased.Phased.end_all.Goals as goal
use Rattle.phased_board.proofs.phased.Phased.end_all.Goals.{in-Some, in_default}

pub loop-number-init : goal.loop-number-init
loop-number-init g c = record {
  over = λ ok k e low high is. absurd (omega arith);
  others = λ t gone. gone;
  history = ([], sym (append-nil c.args.self.now.history));
  refused = tt;
}

pub loop-number-preserved : goal.loop-number-preserved
loop-number-preserved g c =
    let inv = c.loop-number.invariant in
    let first = c.args.self.now in
    let old = c.loop-number.self in
    elim c.match-ticket_at.branch [
      | in-Some w ↦
          let both = w.first_refusal-ended.ensures.both.0 in
          let new = w.end_once.new.self in
          let more = w.end_once.ensures.history in
          rw (w.self-is, w.ended-is) record {
            over = λ ok. over_more first old new c.args.first c.loop-number.number c.ticket_at.result inv.history.0 inv.history.1 c.ticket_at.ensures
                (λ t is. (let e : Some w.in-Some.ticket ≡ Some t = sym w.in-Some.is ∙ is in let same : w.in-Some.ticket ≡ t = cc in
                subst (λ (x : ℕ). request_of new.state.cluster x ≡ None) same (w.end_once.ensures.ended (both ok).1)))
                w.end_once.ensures.others (inv.over (both ok).0);
            others = λ t gone. w.end_once.ensures.others t (inv.others t gone);
            history = (
              inv.history.0 ++ more.0,
              more.1 ∙ (ap (λ (h : List Entry). h ++ more.0) inv.history.1 ∙ append_assoc first.history inv.history.0 more.0),
            );
            refused = either_met g.K.Phase.before new.history c.loop-number.ended w.end_once.result w.first_refusal-ended.result
                w.first_refusal-ended.ensures.either
                (end_later g.K.Phase.before old.history new.history c.loop-number.ended (more.0, sym more.1) inv.refused) w.end_once.ensures.refused;
          }
      | in_default w ↦
          rw (w.self-is, w.ended-is) record {
            over = λ ok. over_more first old old c.args.first c.loop-number.number c.ticket_at.result inv.history.0 inv.history.1 c.ticket_at.ensures
                (λ t is. (let e : None ≡ Some t = sym w.in_default.is ∙ is in absurd (cc))) (λ t gone. gone) (inv.over ok);
            others = inv.others;
            history = inv.history;
            refused = inv.refused;
          }
    ]

pub returns : goal.returns
returns g c = (
  c.loop-number.invariant.refused,
  λ ok. none_runs g.K.Phase.requests g.K.Phase.exports (ranks_of g.K.Phase.stops) g.K.Phase.before c.args.self.now c.loop-number.self c.promises.ensures.went
      (λ k e low high is. c.loop-number.invariant.over ok k e (omega arith) (omega arith) is) c.loop-number.invariant.others,
)
