use Rattle.std.proofs.Common.{◌∙◌}
use Rattle.ceph_snapshot.specs.Gathered.{listed_at}
use Rattle.ceph_snapshot.proofs.Tops.{tops_more}
use Rattle.ceph_snapshot.proofs.snapshot.hold_tops.Goals as goal

pub loop-top-preserved : goal.loop-top-preserved
loop-top-preserved c = record {
  pinned = λ i. c.set_unknown.ensures.pinned i ∙ c.loop-top.invariant.pinned i;
  account = λ i. c.set_unknown.ensures.account i ∙ c.loop-top.invariant.account i;
  place = λ i. c.set_unknown.ensures.place i ∙ c.loop-top.invariant.place i;
  listed = tops_more (listed_at c.args.nodes.now.items) (listed_at c.loop-top.nodes.items) (listed_at c.set_unknown.new.nodes.items)
      c.args.tops.now c.loop-top.top-index c.loop-top-test.true
      c.loop-top.invariant.listed c.set_unknown.ensures.listed;
}
