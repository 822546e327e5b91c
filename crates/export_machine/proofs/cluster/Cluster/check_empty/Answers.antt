use Rattle.std.proofs.Common.{not, eqb, refl, ap, ◌∙◌}
use Rattle.export_protocol.specs.Step.{any_at, is_child, when}
use Rattle.export_protocol.specs.declared.step_error.StepError.TheVariants.{NotEmpty}
use Rattle.export_machine.proofs.Counts.{any_counts}
use Rattle.export_machine.proofs.cluster.Cluster.check_empty.Goals as goal

pub returns : goal.returns
returns c =
    let parents = c.args.self.now.world.parents in
    c.refuse_if.ensures.cause
    ∙ ap (λ b. when b NotEmpty) (ap (λ n. not (eqb n 0)) c.children.ensures
    ∙ any_counts (is_child c.args.dir) parents (any_at (is_child c.args.dir) parents) refl)
