use Rattle.std.proofs.Common.{◌≡◌, ◌<◌, sym, ap, ◌∙◌, arith}
use Rattle.export_protocol.specs.Step.{Outcome}
use Rattle.export_machine.specs.Kept.{world_of}
use Rattle.export_protocol.proofs.Accepted.{room_left}
use Rattle.export_protocol.proofs.Runs.{reached_promised}
use Rattle.export_machine.proofs.Bounds.{ready_is, kept_step, stepped, happens_events}
use Rattle.export_machine.proofs.cluster.Cluster.happen.Goals as goal

pub happen-reply-requires : goal.happen-reply-requires
happen-reply-requires c = record {
  kept = c.self.invariant;
  accepted = rw (← c.self.view_is) at c.requires.accepted;
  room = sym (ready_is c.self.inside.records (c.args.event)) ∙ rw (← c.self.view_is) at c.requires.room;
}

pub overflow_add-self : goal.overflow_add-self
overflow_add-self c =
    let r = c.self.inside.records in
    let room : r.events < 1048576 = room_left (world_of r) (c.args.event) (rw (← c.self.view_is) at c.requires.accepted) in
    let same : c.happen-reply.new.self.events ≡ r.events =
    ap (λ (o : Outcome). o.world.events) (sym c.happen-reply.ensures.effect) ∙ happens_events (world_of r) (c.args.event) in
    omega arith

pub invariant_of-self : goal.invariant_of-self
invariant_of-self c =
    kept_step c.self.inside.records c.happen-reply.new.self (c.args.event) c.happen-reply.result c.self.invariant
    (rw (← c.self.view_is) at c.requires.accepted) c.happen-reply.ensures.effect c.happen-reply.ensures.indexed

pub returns-clause-step : goal.returns-clause-step
returns-clause-step c =
    rw (← c.self.view_is) (stepped c.self.inside.records c.happen-reply.new.self (c.args.event) c.happen-reply.result c.self.invariant
    (rw (← c.self.view_is) at c.requires.accepted) c.happen-reply.ensures.effect c.happen-reply.ensures.indexed)

pub returns-clause-promised : goal.returns-clause-promised
returns-clause-promised c = reached_promised _ (invariant_of-self c).reached
