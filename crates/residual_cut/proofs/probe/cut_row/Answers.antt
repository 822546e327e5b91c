use Rattle.std.proofs.Common.{◌+◌, arith, slice_index}
use Rattle.residual_cut.proofs.ProbeLemmas.{probed_less}
use Rattle.residual_cut.proofs.probe.cut_row.Goals as goal

pub returns-clause-probed : goal.returns-clause-probed
returns-clause-probed c =
    probed_less c.args.of.rows.now c.args.of.can_probe.forest (slice_index c.args.of.trees.now.heat.items) (slice_index c.args.rest.now) c.args.bound
    (c.args.here.row + 1) (c.args.here.row + 1) c.args.seen.now c.requires.probing.probed c.args.here.row (omega arith)
