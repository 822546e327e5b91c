use Rattle.std.proofs.Common.{◌≡◌, ◌≤◌, length, take}
use Rattle.std.specs.Vec.{vec_len, vec_capacity}
use Rattle.export_protocol.specs.View.{AreAnswers}
use Rattle.export_protocol.specs.Promises.{Promised}
use Rattle.export_machine.proofs.cluster.Cluster.run.Given as goal

-- the events so far have their answers, and there is room for the rest
abbrev pub invariant-loop-event : goal.invariant-loop-event
invariant-loop-event l = record {
  answered : AreAnswers l.fn.self.world ((take l.event-index l.events)) l.answers.items l.self.world;
  promised : Promised l.self.world;
  count : vec_len l.answers ≡ l.event-index;
  room : length l.events ≤ vec_capacity l.answers;
}
