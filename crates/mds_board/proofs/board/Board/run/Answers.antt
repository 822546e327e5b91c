use Rattle.std.proofs.Common.{◌<◌, ◌≤◌, length, take, arith}
use Rattle.std.proofs.lemmas.List.{take_all}
use Rattle.export_protocol.proofs.Lists.{take_next}
use Rattle.mds_board.proofs.Listing.{carried_next}
use Rattle.mds_board.proofs.board.Board.run.Goals as goal

pub loop-command-preserved : goal.loop-command-preserved
loop-command-preserved g c =
    let near : c.loop-command.command-index < length c.args.commands.now = omega arith in
    record {
      answered = rw (take_next c.args.commands.now c.loop-command.command-index c.command-item.result near c.command-item.is, c.push_reserved.ensures.items)
          (carried_next g.S.Solver.also c.args.self.now c.loop-command.self c.carry_out.new.self
          (take c.loop-command.command-index c.args.commands.now) c.loop-command.answers.items
          c.command-item.result c.carry_out.result c.loop-command.invariant.answered c.carry_out.ensures);
      count = omega arith;
      room = omega arith;
    }

pub returns-clause-answers : goal.returns-clause-answers
returns-clause-answers g c =
    let past : length c.args.commands.now ≤ c.loop-command.command-index = omega arith in
    rw (take_all c.loop-command.command-index c.args.commands.now past) at c.loop-command.invariant.answered
