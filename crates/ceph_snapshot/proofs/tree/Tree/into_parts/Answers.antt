use Rattle.std.proofs.Common.{subst}
use Rattle.ceph_snapshot.specs.Sightings.{AreBelowParents, AreCold, HaveOwnPaths, TreeData}
use Rattle.ceph_snapshot.proofs.Numbers.{cold_all, own_paths}
use Rattle.ceph_snapshot.proofs.tree.Tree.into_parts.Goals as goal

pub returns-clause-cold : goal.returns-clause-cold
returns-clause-cold c =
    let t = c.self.inside in
    subst (λ (v : TreeData). AreCold v.nodes) c.self.view_is (cold_all t.names t.nodes.items t.sightings.items c.self.invariant)

pub returns-clause-apart : goal.returns-clause-apart
returns-clause-apart c =
    let t = c.self.inside in
    subst (λ (v : TreeData). HaveOwnPaths v.nodes) c.self.view_is (own_paths t.names t.nodes.items t.sightings.items c.self.invariant)

pub returns-clause-below : goal.returns-clause-below
returns-clause-below c = subst (λ (v : TreeData). AreBelowParents v.nodes) c.self.view_is c.self.invariant.below
