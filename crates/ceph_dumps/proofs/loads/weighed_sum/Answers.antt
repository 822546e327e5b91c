use Rattle.std.proofs.Common.{◌∙◌, arith, length, sym}
use Rattle.ceph_dumps.proofs.Weighing.{all_weighed, past_shorter}
use Rattle.ceph_dumps.proofs.loads.weighed_sum.Goals as goal

pub returns : goal.returns
returns c =
    let l = c.loop-at in
    sym (l.invariant ∙ all_weighed l.sum c.args.counters.now c.args.weights.now l.at
    (past_shorter (length c.args.counters.now) (length c.args.weights.now) l.at (omega (arith, c.loop-at-test.false, c.min-at-end.ensures))))
