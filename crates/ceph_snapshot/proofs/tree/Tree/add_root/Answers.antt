use Rattle.std.proofs.Common.{set}
use Rattle.ceph_snapshot.specs.Facts.{Root}
use Rattle.ceph_snapshot.proofs.Told.{IsAdded, added}
use Rattle.ceph_snapshot.proofs.tree.Tree.add_root.Goals as goal

all : (c : goal.After-self-1) → IsAdded c.self.inside.names (set c.self.inside.nodes.items c.args.directory c.add_root.new.node)
    c.self.inside.sightings.items (Root c.args.rank c.args.root.now) c.args.self.now
all c =
    let t = c.self.inside in
    added t.names t.nodes.items c.args.directory c.index_mut.result.now c.add_root.new.node t.sightings.items
    (Root c.args.rank c.args.root.now) c.args.self.now c.self.view_is c.requires c.index_mut.ensures.value c.add_root.ensures.account
    c.add_root.ensures.parent c.add_root.ensures.told c.self.invariant

pub invariant_of-self : goal.invariant_of-self
invariant_of-self c = (all c).numbered

pub returns : goal.returns
returns c = record { seen = (all c).seen; told = (all c).told; numbers = (all c).numbers; only = (all c).only }
