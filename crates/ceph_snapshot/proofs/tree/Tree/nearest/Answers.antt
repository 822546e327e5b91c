use Rattle.std.proofs.Common.{◌∙◌, ◌<◌, ◌+◌, ◌-◌, ℕ, List, arith, length, subst, sym, take}
use Rattle.ceph_snapshot.specs.Sightings.{IsParentOf, TreeData}
use Rattle.ceph_snapshot.proofs.Numbers.{at_number}
use Rattle.ceph_snapshot.proofs.Parents.{parent_at_slash}
use Rattle.ceph_snapshot.proofs.tree.Tree.nearest.Goals as goal

pub returns-in-Some : goal.returns-in-Some
returns-in-Some c =
    let t = c.self.inside in
    let path : List ℕ = c.args.path.now in
    let end : ℕ = c.loop-end.end - 1 in
    let inside : end < length path = omega (arith, c.loop-end.auto.end, c.loop-end-test.true) in
    subst (λ (v : TreeData). IsParentOf v.nodes (take (end + 1) path) c.in-Some.number) c.self.view_is
    (parent_at_slash t.nodes.items path end c.in-Some.number inside c.if-path-end-eq47.true
    (at_number t.names t.nodes.items t.sightings.items (take end path) c.in-Some.number c.self.invariant (sym c.number.ensures ∙ c.in-Some.is)))
