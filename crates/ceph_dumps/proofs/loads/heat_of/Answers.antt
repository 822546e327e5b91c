use Rattle.std.proofs.Common.{◌∙◌, ap}
use Rattle.ceph_dumps.specs.Loads.{thousandths}
use Rattle.ceph_dumps.proofs.loads.heat_of.Goals as goal

pub returns : goal.returns
returns c = c.saturating_f64_to_u64.ensures ∙ ap thousandths c.weighed_sum.ensures
