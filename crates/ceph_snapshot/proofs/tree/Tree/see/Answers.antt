use Rattle.std.proofs.Common.{ℕ, List, subst, sym}
use Rattle.ceph_snapshot.specs.Named.{AreOldOr, IsUpFrom}
use Rattle.ceph_snapshot.specs.Sightings.{TreeData}
use Rattle.ceph_snapshot.proofs.tree.Tree.see.Goals as goal
use Rattle.ceph_snapshot.proofs.tree.Tree.see.Goals.{in-Some+in_ok-push, in_default}

pub returns-clause-only : goal.returns-clause-only
returns-clause-only c =
    let Up : List ℕ → Type 0 = IsUpFrom c.args.fragment.now.path.items in
    let all : AreOldOr c.args.self.now.nodes Up c.number.new.self.nodes = rw c.as_slice.ensures.value at c.in_ok-directory.ensures.only in
    elim c.match-branch-2.branch [
      | in-Some+in_ok-push w ↦ rw w.self-is (subst (λ (v : TreeData). AreOldOr c.args.self.now.nodes Up v.nodes) (sym c.self.view_is) all)
      | in_default w ↦ rw w.self-is all
    ]
