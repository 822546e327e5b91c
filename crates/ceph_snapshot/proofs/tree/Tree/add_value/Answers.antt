use Rattle.std.proofs.Common.{set}
use Rattle.ceph_snapshot.specs.Facts.{Value}
use Rattle.ceph_snapshot.proofs.Told.{IsAdded, added}
use Rattle.ceph_snapshot.proofs.tree.Tree.add_value.Goals as goal

all : (c : goal.After-self-1) → IsAdded c.self.inside.names (set c.self.inside.nodes.items c.args.directory c.add_value.new.node)
    c.self.inside.sightings.items (Value c.args.listed.now) c.args.self.now
all c =
    let t = c.self.inside in
    added t.names t.nodes.items c.args.directory c.index_mut.result.now c.add_value.new.node t.sightings.items (Value c.args.listed.now)
    c.args.self.now c.self.view_is c.requires c.index_mut.ensures.value c.add_value.ensures.account
    c.add_value.ensures.parent c.add_value.ensures.told c.self.invariant

pub invariant_of-self : goal.invariant_of-self
invariant_of-self c = (all c).numbered

pub returns : goal.returns
returns c = record { seen = (all c).seen; told = (all c).told; numbers = (all c).numbers; only = (all c).only }
