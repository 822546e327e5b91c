use Rattle.std.proofs.Common.{◌≡◌, List, Option, Some, None, ap, sym, ◌∙◌, get_or, subst, true}
use Rattle.std.specs.Option.{option_map, option_map_or}
use Rattle.std.specs.Prelude.{is_some}
use Rattle.dirtree.specs.declared.node.Node.{Node}
use Rattle.std.proofs.Math.ListN.{get_or-map}
use Rattle.dirtree.specs.Tree.{Directories, Entry, IsTree, is_there}
use Rattle.dirtree.specs.Keeps.{children_at, children_of, entry_of, entries_of}
use Rattle.dirtree.proofs.Walks.{node_at}
use Rattle.dirtree.proofs.tree.Tree.node.Goals as goal

pub returns-in-Some-Some-clause-tree : goal.returns-in-Some-Some-clause-tree
returns-in-Some-Some-clause-tree c = subst (λ (es : List (Option Entry)). IsTree es) (ap (λ (t : Directories). t.entries) c.self.view_is) c.self.invariant.tree

pub returns-in_default-clause-tree : goal.returns-in_default-clause-tree
returns-in_default-clause-tree c = subst (λ (es : List (Option Entry)). IsTree es) (ap (λ (t : Directories). t.entries) c.self.view_is) c.self.invariant.tree

pub returns-in-Some-Some-clause-above : goal.returns-in-Some-Some-clause-above
returns-in-Some-Some-clause-above c =
    let es : List (Option Entry) = entries_of c.self.inside.nodes.items in
    let read : get_or c.self.inside.nodes.items c.args.dir None
    ≡ Some c.in-Some-Some.node = rw (← c.deref.ensures.value, ← c.number.ensures)
    (sym (c.in-Some-Some.ensures.lookup.3.1 None) ∙ c.in-Some-Some.field-0-is) in
    (node_at es c.args.dir (entry_of c.in-Some-Some.node) c.self.invariant.tree
    (get_or-map (option_map entry_of) c.self.inside.nodes.items c.args.dir None ∙ ap (option_map entry_of) read)).above

pub returns-in-Some-Some-clause-parent : goal.returns-in-Some-Some-clause-parent
returns-in-Some-Some-clause-parent c =
    let es : List (Option Entry) = entries_of c.self.inside.nodes.items in
    let read : get_or c.self.inside.nodes.items c.args.dir None
    ≡ Some c.in-Some-Some.node = rw (← c.deref.ensures.value, ← c.number.ensures)
    (sym (c.in-Some-Some.ensures.lookup.3.1 None) ∙ c.in-Some-Some.field-0-is) in
    rw (← ap (λ (t : Directories). t.entries) c.self.view_is)
    (node_at es c.args.dir (entry_of c.in-Some-Some.node) c.self.invariant.tree
    (get_or-map (option_map entry_of) c.self.inside.nodes.items c.args.dir None ∙ ap (option_map entry_of) read)).parent

pub returns-in-Some-Some-clause-children : goal.returns-in-Some-Some-clause-children
returns-in-Some-Some-clause-children c =
    let nodes : List (Option Node) = c.self.inside.nodes.items in
    let es : List (Option Entry) = entries_of nodes in
    let view : es ≡ c.args.self.now.entries = ap (λ (t : Directories). t.entries) c.self.view_is in
    let read : get_or nodes c.args.dir None ≡ Some c.in-Some-Some.node =
    rw (← c.deref.ensures.value, ← c.number.ensures) (sym (c.in-Some-Some.ensures.lookup.3.1 None) ∙ c.in-Some-Some.field-0-is) in
    let there : is_there es c.args.dir ≡ true = ap is_some (get_or-map (option_map entry_of) nodes c.args.dir None ∙ ap (option_map entry_of) read) in
    let kept : children_at nodes c.args.dir ≡ children_of es c.args.dir = c.self.invariant.counted c.args.dir there in
    rw (← view) (ap (λ (n : Option Node). option_map_or (λ n. n.children) n 0) (sym read) ∙ kept)
