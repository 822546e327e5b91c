use Rattle.std.proofs.Common.{◌≡◌, refl, sym}
use Rattle.export_protocol.specs.Authority.{order_in}
use Rattle.export_machine.proofs.records.Records.follow.Goals as goal

pub order-order-requires : goal.order-order-requires
order-order-requires c = record { near = c.requires.known }

pub mark_owner-requires : goal.mark_owner-requires
mark_owner-requires c =
    let e : order_in c.args.self.now.exports.orders c.args.export ≡ c.order-order.result.now = sym c.order-order.ensures in
    record { near = λ d h. c.requires.owned d (rw (e, ← c.as_slice.ensures) h) }

pub mark_opened-requires : goal.mark_opened-requires
mark_opened-requires c =
    let e : order_in c.args.self.now.exports.orders c.args.export ≡ c.order-order.result.now = sym c.order-order.ensures in
    record { near = λ d h. c.requires.open d (rw (e, ← c.as_slice-in-Imported.ensures) h) }

pub returns-in-Exported-clause-indexes : goal.returns-in-Exported-clause-indexes
returns-in-Exported-clause-indexes c =
    let e : order_in c.args.self.now.exports.orders c.args.export ≡ c.order-order.result.now = sym c.order-order.ensures in
    rw (c.in-Exported.is, e, c.mark_owner.ensures, c.as_slice.ensures) refl

pub returns-in-Imported-clause-indexes : goal.returns-in-Imported-clause-indexes
returns-in-Imported-clause-indexes c =
    let e : order_in c.args.self.now.exports.orders c.args.export ≡ c.order-order.result.now = sym c.order-order.ensures in
    rw (c.in-Imported.is, e, c.mark_opened.ensures, c.as_slice-in-Imported.ensures) refl
