use Rattle.std.proofs.Common.{◌≡◌, length, ap, ◌∙◌, arith}
use Rattle.export_protocol.specs.Roots.{roots, roots_below}
use Rattle.export_machine.specs.Kept.{State}
use Rattle.export_machine.proofs.cluster.Cluster.roots.Goals as goal

pub returns : goal.returns
unfolding roots
returns c =
    let same = ap (λ (s : State). length s.world.parents) c.self.view_is in
    let e : c.loop-number.number ≡ length c.args.self.now.world.parents = omega arith in
    c.loop-number.invariant.found ∙ ap (roots_below c.args.self.now.world) e
