use Rattle.std.proofs.Common.{◌≡◌, ◌<◌, ℕ, length, Option, Some, None, refl, sym, arith}
use Rattle.std.specs.Option.{IfSome}
use Rattle.export_protocol.specs.Cluster.{World}
use Rattle.export_protocol.specs.View.{IsReached}
use Rattle.export_protocol.specs.Authority.{authority}
use Rattle.export_machine.specs.Kept.{world_of, entered_at}
use Rattle.export_protocol.proofs.Accepted.{deliver_near, as_rank, exporter_rank, receiver_rank, notify_order}
use Rattle.export_machine.proofs.Bounds.{reached_as, accepted_as}
use Rattle.export_machine.proofs.Receiving.{sent_at, sent_order}
use Rattle.export_machine.proofs.cluster.Cluster.journal_rank.Goals as goal

owner_near : (w : World) → IsReached w → (d : ℕ) (o : Option ℕ) → o ≡ authority w d → IfSome o (λ r. r < length w.journals)
owner_near w h d None e = tt
owner_near w h d (Some r) e = as_rank w h d r (sym e)

pub index-requires : goal.index-requires
index-requires c =
    let r = c.self.inside.records in
    let near = deliver_near (world_of r) c.in-Deliver.message (accepted_as r c.self.view_is c.in-Deliver.is c.requires) in
    omega arith

pub receiver-requires : goal.receiver-requires
receiver-requires c =
    let r = c.self.inside.records in
    sent_order (world_of r) c.self.invariant.reached c.in-Deliver.message c.index.result.now
    (sent_at (world_of r) c.in-Deliver.message c.index.result.now (accepted_as r c.self.view_is c.in-Deliver.is c.requires) c.index.ensures)

pub from-requires : goal.from-requires
from-requires c = notify_order (world_of c.self.inside.records) c.in-Notify.export (accepted_as c.self.inside.records c.self.view_is c.in-Notify.is c.requires)

pub returns-in-Made-clause-near : goal.returns-in-Made-clause-near
returns-in-Made-clause-near c = owner_near c.args.self.now.world (reached_as _ _ c.self.invariant c.self.view_is) c.in-Made.parent
    c.authority.result c.authority.ensures

pub returns-in-Gone-clause-near : goal.returns-in-Gone-clause-near
returns-in-Gone-clause-near c = owner_near c.args.self.now.world (reached_as _ _ c.self.invariant c.self.view_is) c.in-Gone.dir
    c.authority-in-Gone.result c.authority-in-Gone.ensures

pub returns-in-Deliver-clause-rank : goal.returns-in-Deliver-clause-rank
unfolding entered_at
returns-in-Deliver-clause-rank c =
    let r = c.self.inside.records in
    let sent = sent_at (world_of r) c.in-Deliver.message c.index.result.now (accepted_as r c.self.view_is c.in-Deliver.is c.requires) c.index.ensures in
    rw (← c.self.view_is, c.in-Deliver.is, sent, c.receiver.ensures) refl

pub returns-in-Deliver-clause-near : goal.returns-in-Deliver-clause-near
returns-in-Deliver-clause-near c =
    let r = c.self.inside.records in
    let known = sent_order (world_of r) c.self.invariant.reached c.in-Deliver.message c.index.result.now
    (sent_at (world_of r) c.in-Deliver.message c.index.result.now (accepted_as r c.self.view_is c.in-Deliver.is c.requires) c.index.ensures) in
    rw (← c.self.view_is, c.receiver.ensures) (receiver_rank (world_of r) c.self.invariant.reached c.index.result.now known)

pub returns-in-Notify-clause-near : goal.returns-in-Notify-clause-near
returns-in-Notify-clause-near c =
    let r = c.self.inside.records in
    rw (← c.self.view_is, c.from.ensures) (exporter_rank (world_of r) c.self.invariant.reached c.in-Notify.export
    (notify_order (world_of r) c.in-Notify.export (accepted_as r c.self.view_is c.in-Notify.is c.requires)))
