use Rattle.std.proofs.Common.{◌<◌, ◌≤◌, length, take, arith}
use Rattle.std.proofs.lemmas.List.{take_all}
use Rattle.export_protocol.specs.View.{AreAnswers}
use Rattle.export_protocol.proofs.Lists.{take_next}
use Rattle.export_protocol.proofs.Runs.{answers_next, answers_are}
use Rattle.export_machine.proofs.cluster.Cluster.run.Goals as goal

pub loop-event-preserved : goal.loop-event-preserved
loop-event-preserved c =
    let near : c.loop-event.event-index < length c.args.events.now = omega arith in
    record {
      answered = rw (take_next c.args.events.now c.loop-event.event-index c.event-item.result near c.event-item.is, c.push_reserved.ensures.items)
          (answers_next c.args.self.now.world c.loop-event.self.world c.apply_copy.new.self.world
          ((take c.loop-event.event-index c.args.events.now)) c.loop-event.answers.items
          (c.event-item.result) c.apply_copy.result c.loop-event.invariant.answered c.apply_copy.ensures);
      promised = c.promised-in-loop-event.ensures;
      count = omega arith;
      room = omega arith;
    }

pub returns-clause-exact : goal.returns-clause-exact
returns-clause-exact c = λ n.
    (let past : length c.args.events.now ≤ c.loop-event.event-index = omega arith in
    let answered : AreAnswers c.args.self.now.world (c.args.events.now) c.loop-event.answers.items c.loop-event.self.world =
    rw (take_all c.loop-event.event-index c.args.events.now past) at c.loop-event.invariant.answered in
    (answers_are c.args.self.now.world c.loop-event.self.world (c.args.events.now) c.loop-event.answers.items answered n).0)

pub returns-clause-state : goal.returns-clause-state
returns-clause-state c = λ n.
    (let past : length c.args.events.now ≤ c.loop-event.event-index = omega arith in
    let answered : AreAnswers c.args.self.now.world (c.args.events.now) c.loop-event.answers.items c.loop-event.self.world =
    rw (take_all c.loop-event.event-index c.args.events.now past) at c.loop-event.invariant.answered in
    (answers_are c.args.self.now.world c.loop-event.self.world (c.args.events.now) c.loop-event.answers.items answered n).1)
