use Rattle.std.proofs.Common.{◌≡◌, ◌<◌, get_or, true, subst, sym, ap, arith}
use Rattle.mds_types.specs.declared.order.Order.{Order}
use Rattle.export_protocol.specs.Authority.{is_among, order_in}
use Rattle.export_machine.specs.Kept.{State, world_of}
use Rattle.export_protocol.proofs.Lists.{among_at}
use Rattle.export_machine.proofs.Listing.{if_both}
use Rattle.export_protocol.proofs.Noted.{are_made}
use Rattle.export_machine.proofs.cluster.Cluster.export.Goals as goal

pub returns-clause-near : goal.returns-clause-near
returns-clause-near c = if_both _ c.get.result (λ order at there k d l.
    (let same : (order_in (world_of c.self.inside.records).orders c.args.export).dirs ≡ order.now.dirs = sym (ap (λ (o : Order). o.dirs) at) in
    let inside : is_among (order_in (world_of c.self.inside.records).orders c.args.export).dirs (get_or order.now.dirs k d)
    ≡ true = rw same (among_at order.now.dirs k d l) in
    let made = are_made (world_of c.self.inside.records) c.self.invariant.reached c.args.export (get_or order.now.dirs k d) inside in
    subst (λ (s : State). get_or order.now.dirs k d < s.world.limit) c.self.view_is (omega (arith, made, c.self.invariant.within))))
    c.get.ensures.order c.get.ensures.order
