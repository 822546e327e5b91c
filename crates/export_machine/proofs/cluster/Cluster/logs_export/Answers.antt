use Rattle.std.proofs.Common.{sym, ◌∙◌, arith}
use Rattle.export_machine.specs.Kept.{world_of}
use Rattle.export_protocol.proofs.Accepted.{deliver_near}
use Rattle.export_machine.proofs.Bounds.{accepted_as}
use Rattle.export_machine.proofs.Receiving.{sent_at, sent_order}
use Rattle.export_machine.proofs.Logging.{delivered_logs, other_event}
use Rattle.export_machine.proofs.cluster.Cluster.logs_export.Goals as goal

pub index-requires : goal.index-requires
index-requires c =
    let r = c.self.inside.records in
    let near = deliver_near (world_of r) c.in-Deliver.message (accepted_as r c.self.view_is c.in-Deliver.is c.requires.accepted) in
    omega arith

pub logs-requires : goal.logs-requires
logs-requires c =
    let r = c.self.inside.records in
    let accepted = accepted_as r c.self.view_is c.in-Deliver.is c.requires.accepted in
    sent_order (world_of r) c.self.invariant.reached c.in-Deliver.message c.index.result.now
    (sent_at (world_of r) c.in-Deliver.message c.index.result.now accepted c.index.ensures)

pub returns-in-Deliver : goal.returns-in-Deliver
returns-in-Deliver c =
    let r = c.self.inside.records in
    let accepted = accepted_as r c.self.view_is c.in-Deliver.is c.requires.accepted in
    rw (← c.self.view_is, c.in-Deliver.is)
    (c.logs.ensures ∙ sym (delivered_logs (world_of r) c.in-Deliver.message c.index.result.now accepted
    (sent_at (world_of r) c.in-Deliver.message c.index.result.now accepted c.index.ensures)))

pub returns-in_default : goal.returns-in_default
returns-in_default c = other_event c.args.self.now.world c.args.event.now c.in_default.not-Deliver
