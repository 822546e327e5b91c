use Rattle.std.proofs.Common.{◌≡◌, ◌∙◌, List, subst, refl}
use Rattle.mds_types.specs.declared.order.Order.{Order}
use Rattle.mds_types.specs.declared.plan.Plan.{Plan}
use Rattle.mds_board.specs.declared.change.Answer.{Answer}
use Rattle.mds_board.specs.declared.change.Answer.TheVariants.{Orders}
use Rattle.mds_board.specs.State.{dirs_of, plan_orders}
use Rattle.mds_board.proofs.Replays.{balance_reply}
use Rattle.script_board.specs.Board.{BoardData}
use Rattle.script_board.specs.Plan.{IsPlanned}
use Rattle.script_board.proofs.script_board.ScriptBoard.plan.Goals as goal

same_orders : (xs ys : List Order) → (let r : Answer = Orders xs in r) ≡ Orders ys → xs ≡ ys
same_orders xs ys h = cc

pub returns-clause-done : goal.returns-clause-done
returns-clause-done g c =
    let done = c.in_ok-self-inside.ensures.ok in
    let kept : List Order = c.in_ok-self-inside.field-0.items in
    subst (λ (b : BoardData). (plan : Plan) × IsPlanned b plan
    (record {
      world = c.balance.new.self;
      shares = c.self.inside.shares.items;
      loads = c.self.inside.loads.items;
      kept = kept;
      stops = c.self.inside.stops.items;
    })) c.self.view_is (
      done.0,
      record {
        best = done.1;
        certified = done.2;
        keeps = done.3.0;
        fewer = done.3.1;
        adopted = rw (
          done.6,
          same_orders kept (plan_orders c.self.inside.board.state (dirs_of c.self.inside.board.state) done.0)
              (done.5 ∙ balance_reply c.self.inside.board.state done.0),
        ) refl;
      },
    )
