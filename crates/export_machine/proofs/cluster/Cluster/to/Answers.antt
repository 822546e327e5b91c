use Rattle.std.proofs.Common.{◌≡◌, ℕ, List, true, ltb, length, get_or, Some, refl, sym}
use Rattle.std.proofs.lemmas.Bool.{ltb-true, ltb-false}
use Rattle.std.proofs.lemmas.Option.{slice_get_past}
use Rattle.std.specs.List.{slice_get}
use Rattle.export_protocol.specs.declared.message.Message.{Message}
use Rattle.export_machine.specs.Kept.{world_of}
use Rattle.export_protocol.proofs.Accepted.{item_at}
use Rattle.export_machine.proofs.Receiving.{sent_order}
use Rattle.export_machine.proofs.cluster.Cluster.to.Goals as goal

found : (xs ys : List Message) (k : ℕ) (m : Message) → ys ≡ xs → true ≡ ltb k (length ys) → m ≡ get_or ys k m → slice_get xs k ≡ Some m
found xs ys k m e l g = rw e at (item_at ys k m (ltb-true k (length ys) (sym l)) g)

pub receiver-requires : goal.receiver-requires
receiver-requires c =
    let r = c.self.inside.records in
    sent_order (world_of r) c.self.invariant.reached c.args.message c.in-Some.message.now
    (found r.sent.items c.deref.result.now c.args.message c.in-Some.message.now c.deref.ensures.value c.in-Some.ensures.lookup.0 c.in-Some.ensures.lookup.1)

pub returns-in-Some : goal.returns-in-Some
returns-in-Some c =
    let sent = found c.self.inside.records.sent.items c.deref.result.now c.args.message c.in-Some.message.now c.deref.ensures.value
    c.in-Some.ensures.lookup.0 c.in-Some.ensures.lookup.1 in
    rw (← c.self.view_is, sent, c.export.ensures, c.receiver.ensures) refl

pub returns-in-None : goal.returns-in-None
returns-in-None c =
    let xs : List Message = c.self.inside.records.sent.items in
    let e = slice_get_past xs c.args.message (ltb-false c.args.message (length xs) (sym (rw c.deref.ensures.value at c.in-None.ensures.lookup.0))) in
    rw (← c.self.view_is, e) refl
