use Rattle.std.proofs.lemmas.Result.{IfOk-weaker}
use Rattle.mdbal_ceph.proofs.PastHours.{folded_sizes}
use Rattle.mdbal_ceph.proofs.outcome.folded.Goals as goal

pub returns-clause-sizes : goal.returns-clause-sizes
returns-clause-sizes c =
    IfOk-weaker c.fold.result _ _
    (λ found folded. folded_sizes c.args.directories.items found.0.items c.args.hours.now.items c.fold.new.hours.items folded
    c.requires) c.fold.ensures.hours
