use Rattle.std.proofs.Common.{rules, ◌≡◌, ◌∙◌, ◌≤◌, ◌^◌, ◌++◌, ◌∷◌, [], ℕ, List, Some, None, ap, arith, cond, length, map, subst, sym}
use Rattle.std.specs.Str.{bytes_eq}
use Rattle.std.proofs.lemmas.Bool.{cond-true}
use Rattle.std.proofs.lemmas.Slice.Eq.{bytes_eq-Decides}
use Rattle.ceph_snapshot.specs.declared.tree.Node.{Node}
use Rattle.ceph_snapshot.specs.Named.{AreOldOr, AreTooManyPaths, IsOldOr}
use Rattle.ceph_snapshot.specs.Names.{IsAtOrAbove, path_number}
use Rattle.ceph_snapshot.specs.Sightings.{Account, IsNumberOf, IsNumbered, IsParentOf, TreeData, account_of, with_path}
use Rattle.ceph_snapshot.proofs.Numbers.{at_number, numbered_more, seen_same, account_more}
use Rattle.ceph_snapshot.specs.Facts.{StillTold}
use Rattle.ceph_snapshot.proofs.Named.{many_numbered, old_more, old_same}
use Rattle.ceph_snapshot.proofs.Told.{still_more}
use Rattle.ceph_snapshot.proofs.tree.Tree.number_below.Goals as goal

pub returns-in-Some-clause-path : goal.returns-in-Some-clause-path
returns-in-Some-clause-path c =
    let t = c.self.inside in
    subst (λ (v : TreeData). IsNumberOf v.nodes c.args.path.now c.in-Some.number) c.self.view_is
    (at_number t.names t.nodes.items t.sightings.items c.args.path.now c.in-Some.number c.self.invariant (sym c.number.ensures ∙ c.in-Some.is))

pub invariant_of-self-2 : goal.invariant_of-self-2
invariant_of-self-2 c =
    let t = c.self.inside in
    let node : Node = c.unknown-node.result in
    let path : List ℕ = c.args.path.now in
    let items : c.push_reserved.new.self.items ≡ t.nodes.items ++ node ∷ [] = c.push_reserved.ensures.items
    ∙ ap (λ (ns : List Node). ns ++ node ∷ []) c.reserve.ensures.items in
    let fresh : path_number t.names path ≡ None = search rules in
    let put : (p : List ℕ) → path_number c.insert.new.self p ≡ cond (bytes_eq path p) (Some c.in-Ok.number) (path_number t.names p) =
    subst (λ (q : List ℕ). (p : List ℕ) → path_number c.insert.new.self p
    ≡ cond (bytes_eq q p) (Some c.in-Ok.number) (path_number t.names p)) c.in_ok-from_slice-2.ensures.items
    c.in_ok-insert.ensures.put in
    let is : c.in-Ok.number ≡ length t.nodes.items = search rules in
    let cold : account_of node.directory ≡ (path, (0, (0, None))) = c.unknown-node.ensures.account
    ∙ ap (λ (p : List ℕ). (p, (0, (0, None)))) c.in_ok-from_slice.ensures.items in
    let below : IsParentOf t.nodes.items path c.args.parent = subst (λ (v : TreeData). IsParentOf v.nodes path c.args.parent) (sym c.self.view_is) c.requires in
    let lies : IsParentOf t.nodes.items node.directory.path.items node.directory.parent =
    subst (λ (p : List ℕ). IsParentOf t.nodes.items p node.directory.parent) (sym (ap (λ (a : Account). a.0) cold))
    (subst (λ (k : ℕ). IsParentOf t.nodes.items path k) (sym c.unknown-node.ensures.parent) below) in
    subst (λ (ns : List Node). IsNumbered c.insert.new.self ns t.sightings.items) (sym items)
    (numbered_more t.names c.insert.new.self t.nodes.items node path c.in-Ok.number t.sightings.items fresh put is cold lies c.self.invariant)

pub returns-clause-seen : goal.returns-clause-seen
returns-clause-seen c =
    let t = c.self.inside in
    let node : Node = c.unknown-node.result in
    let items : c.push_reserved.new.self.items ≡ t.nodes.items ++ node ∷ [] = c.push_reserved.ensures.items
    ∙ ap (λ (ns : List Node). ns ++ node ∷ []) c.reserve.ensures.items in
    ap (λ (ns : List Node). map (with_path ns) t.sightings.items) items
    ∙ (seen_same t.nodes.items (t.nodes.items ++ node ∷ []) t.sightings.items (account_more t.nodes.items node) c.self.invariant.inside
    ∙ ap (λ (v : TreeData). v.seen) c.self.view_is)

pub returns-clause-path : goal.returns-clause-path
returns-clause-path c =
    let t = c.self.inside in
    let path : List ℕ = c.args.path.now in
    let put : path_number c.insert.new.self path ≡ cond (bytes_eq c.in_ok-from_slice-2.field-0.items path) (Some c.in-Ok.number)
    (path_number t.names path) = c.in_ok-insert.ensures.put path in
    at_number c.insert.new.self c.push_reserved.new.self.items t.sightings.items path c.in-Ok.number (invariant_of-self-2 c)
    (put ∙ cond-true (bytes_eq c.in_ok-from_slice-2.field-0.items path) (Some c.in-Ok.number) (path_number t.names path)
    ((bytes_eq-Decides c.in_ok-from_slice-2.field-0.items path).1 c.in_ok-from_slice-2.ensures.items))

pub returns-clause-kept : goal.returns-clause-kept
returns-clause-kept c =
    let t = c.self.inside in
    let node : Node = c.unknown-node.result in
    let path : List ℕ = c.args.path.now in
    let items : c.push_reserved.new.self.items ≡ t.nodes.items ++ node ∷ [] = c.push_reserved.ensures.items
    ∙ ap (λ (ns : List Node). ns ++ node ∷ []) c.reserve.ensures.items in
    let fresh : path_number t.names path ≡ None = search rules in
    let is : node.directory.path.items ≡ path = ap (λ (t : Account). t.0) c.unknown-node.ensures.account ∙ c.in_ok-from_slice.ensures.items in
    subst (λ (ns : List Node). StillTold ns c.push_reserved.new.self.items) (ap (λ (v : TreeData). v.nodes) c.self.view_is)
    (subst (StillTold t.nodes.items) (sym items)
    (still_more t.names t.nodes.items node path t.sightings.items fresh is c.unknown-node.ensures.told c.self.invariant))

pub returns-in-Some-clause-only : goal.returns-in-Some-clause-only
returns-in-Some-clause-only c = old_same c.args.self.now.nodes (λ other. IsAtOrAbove other c.args.path.now)

pub returns-clause-only : goal.returns-clause-only
returns-clause-only c =
    let t = c.self.inside in
    let node : Node = c.unknown-node.result in
    let path : List ℕ = c.args.path.now in
    let Is : List ℕ → Type 0 = λ other. IsAtOrAbove other path in
    let items : c.push_reserved.new.self.items ≡ t.nodes.items ++ node ∷ [] = c.push_reserved.ensures.items
    ∙ ap (λ (ns : List Node). ns ++ node ∷ []) c.reserve.ensures.items in
    let is : node.directory.path.items ≡ path = ap (λ (t : Account). t.0) c.unknown-node.ensures.account ∙ c.in_ok-from_slice.ensures.items in
    subst (λ (ns : List Node). AreOldOr ns Is c.push_reserved.new.self.items) (ap (λ (v : TreeData). v.nodes) c.self.view_is)
    (subst (AreOldOr t.nodes.items Is) (sym items) (old_more t.nodes.items node path is))

pub returns-in_default-try_from-clause-many : goal.returns-in_default-try_from-clause-many
returns-in_default-try_from-clause-many c =
    let t = c.self.inside in
    let path : List ℕ = c.args.path.now in
    let fresh : path_number t.names path ≡ None = search rules in
    let full : 2 ^ 32 ≤ length t.nodes.items = search (rules, arith) in
    subst (λ (v : TreeData). AreTooManyPaths (IsOldOr v.nodes (λ other. IsAtOrAbove other path))) c.self.view_is
    (many_numbered t.names t.nodes.items path t.sightings.items c.self.invariant fresh full)
