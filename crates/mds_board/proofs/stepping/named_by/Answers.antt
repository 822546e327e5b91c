use Rattle.std.proofs.Common.{◌≡◌, None, IsSome, subst}
use Rattle.export_protocol.specs.Step as machine
use Rattle.export_protocol.specs.declared.event.Event.{Event}
use Rattle.mds_board.proofs.Mapping.{notifies}
use Rattle.mds_board.proofs.stepping.named_by.Goals as goal

pub unreachable-requires : goal.unreachable-requires
unreachable-requires c =
    let near = notifies c.args.cluster.now.world c.in-Notify.export
    (subst (λ (e : Event). machine.refusal c.args.cluster.now.world e ≡ None) c.in-Notify.is c.requires.accepted) in
    let some = c.export.ensures.found.1 near in
    let bad = subst (λ o. IsSome o) c.in-None.is some in absurd (cc)
