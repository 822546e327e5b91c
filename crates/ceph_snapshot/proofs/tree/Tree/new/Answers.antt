use Rattle.std.proofs.Common.{◌≡◌, ◌∙◌, ◌∷◌, [], ℕ, List, None, ap, subst, sym}
use Rattle.ceph_snapshot.specs.declared.names.Names.{Names}
use Rattle.ceph_snapshot.specs.declared.tree.Node.{Node}
use Rattle.ceph_snapshot.specs.declared.tree.Sighting.{Sighting}
use Rattle.ceph_snapshot.specs.Named.{ArePathsNamed}
use Rattle.ceph_snapshot.specs.Sightings.{Account, IsNumbered, account_of}
use Rattle.ceph_snapshot.proofs.Named.{named_root}
use Rattle.ceph_snapshot.proofs.Numbers.{numbered_root}
use Rattle.ceph_snapshot.proofs.tree.Tree.new.Goals as goal

pub invariant_of-result : goal.invariant_of-result
invariant_of-result c =
    let names : Names = c.in_ok-new.field-0 in
    let root : Node = c.unknown.result in
    let cold : account_of root.directory ≡ ([], (0, (0, None))) = c.unknown.ensures.account ∙ ap (λ (p : List ℕ). (p, (0, (0, None)))) c.new-2.ensures.items in
    subst (λ (nodes : List Node). IsNumbered names nodes c.new-3.result.items) (sym c.in_ok-vec.ensures.items)
    (subst (λ (ss : List Sighting). IsNumbered names (root ∷ []) ss) (sym c.new-3.ensures.items)
    (numbered_root names root c.in_ok-new.ensures cold c.unknown.ensures.parent))

pub returns-clause-only : goal.returns-clause-only
returns-clause-only c =
    let root : Node = c.unknown.result in
    subst (ArePathsNamed [] []) (sym c.in_ok-vec.ensures.items)
    (named_root root (ap (λ (t : Account). t.0) c.unknown.ensures.account ∙ c.new-2.ensures.items))
