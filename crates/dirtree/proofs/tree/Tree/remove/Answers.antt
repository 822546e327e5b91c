use Rattle.std.proofs.Common.{◌≡◌, ◌∙◌, ◌<◌, ◌+◌, List, ℕ, Option, Some, None, ap, sym, arith, refl, set, cond}
use Rattle.std.proofs.lemmas.Grind.{common_steps}
use Rattle.std.specs.Prelude.{nat_eq}
use Rattle.dirtree.specs.declared.node.Node.{Node}
use Rattle.dirtree.specs.Tree.{Directories, Entry}
use Rattle.dirtree.specs.Keeps.{children_at, entries_of, head_at, next_at, place_at}
use Rattle.dirtree.proofs.Removed.{IsLeaf, before_stands, first_gone, later_gone, leaf, parent_counted, parent_stands}
use Rattle.dirtree.proofs.Sound.{map_taken}
use Rattle.dirtree.proofs.tree.Tree.remove.Goals as goal
use Rattle.dirtree.proofs.tree.Tree.remove.Goals.{then-before-eq0, else-before-eq0}

pub discount_child-requires-clause-there : goal.discount_child-requires-clause-there
discount_child-requires-clause-there c =
    let nodes : List (Option Node) = c.self.inside.nodes.items in
    let in_chain : place_at c.self.inside.hasher (entries_of nodes) c.args.dir
    ≡ Some c.place_in_chain-chain.result.0 = rw (c.deref.ensures.value, c.number.ensures) at c.place_in_chain-chain.ensures.chain in
    let l : IsLeaf c.self.inside.hasher nodes c.args.dir c.in-Some.node c.place_in_chain-chain.result.0 =
    leaf c.self.inside.limit c.self.inside.hasher nodes c.self.inside.heads.items c.args.self.now c.args.dir c.number-2.result
    c.index_mut.result.now c.in-Some.node c.place_in_chain-chain.result.0
    c.self.invariant c.self.view_is c.in_ok-can_remove.ensures.allowed c.number-2.ensures c.index_mut.ensures.value
    (sym c.take.ensures.value ∙ c.in-Some.is) in_chain in
    rw (c.number-2.ensures, c.take.ensures.after)
    (parent_stands c.self.inside.limit c.self.inside.hasher nodes c.self.inside.heads.items c.args.dir c.in-Some.node c.self.invariant
    l.some l.node)

pub discount_child-requires-clause-some : goal.discount_child-requires-clause-some
discount_child-requires-clause-some c =
    let nodes : List (Option Node) = c.self.inside.nodes.items in
    let in_chain : place_at c.self.inside.hasher (entries_of nodes) c.args.dir
    ≡ Some c.place_in_chain-chain.result.0 = rw (c.deref.ensures.value, c.number.ensures) at c.place_in_chain-chain.ensures.chain in
    let l : IsLeaf c.self.inside.hasher nodes c.args.dir c.in-Some.node c.place_in_chain-chain.result.0 =
    leaf c.self.inside.limit c.self.inside.hasher nodes c.self.inside.heads.items c.args.self.now c.args.dir c.number-2.result
    c.index_mut.result.now c.in-Some.node c.place_in_chain-chain.result.0
    c.self.invariant c.self.view_is c.in_ok-can_remove.ensures.allowed c.number-2.ensures c.index_mut.ensures.value
    (sym c.take.ensures.value ∙ c.in-Some.is) in_chain in
    rw (c.number-2.ensures, c.take.ensures.after)
    (parent_counted c.self.inside.limit c.self.inside.hasher nodes c.self.inside.heads.items c.args.dir c.in-Some.node c.self.invariant
    l.some l.node)

pub set_next-requires : goal.set_next-requires
set_next-requires c =
    let nodes : List (Option Node) = c.self.inside.nodes.items in
    let in_chain : place_at c.self.inside.hasher (entries_of nodes) c.args.dir
    ≡ Some c.place_in_chain-chain.result.0 = rw (c.deref.ensures.value, c.number.ensures) at c.place_in_chain-chain.ensures.chain in
    let l : IsLeaf c.self.inside.hasher nodes c.args.dir c.in-Some.node c.place_in_chain-chain.result.0 =
    leaf c.self.inside.limit c.self.inside.hasher nodes c.self.inside.heads.items c.args.self.now c.args.dir c.number-2.result
    c.index_mut.result.now c.in-Some.node c.place_in_chain-chain.result.0
    c.self.invariant c.self.view_is c.in_ok-can_remove.ensures.allowed c.number-2.ensures c.index_mut.ensures.value
    (sym c.take.ensures.value ∙ c.in-Some.is) in_chain in
    let mid : set nodes c.number-2.result c.take.new.self ≡ set nodes c.args.dir None = rw (c.number-2.ensures, c.take.ensures.after) refl in
    let entries : entries_of c.discount_child.new.nodes.items ≡ entries_of (set nodes c.args.dir None) = c.discount_child.ensures.entries ∙ ap entries_of mid in
    let children : (d : ℕ) → children_at (set nodes c.args.dir None) d
    ≡ cond (nat_eq d c.in-Some.node.parent) (children_at c.discount_child.new.nodes.items d + 1)
    (children_at c.discount_child.new.nodes.items d) = λ d.
    ap (λ (ns : List (Option Node)). children_at ns d) (sym mid) ∙ c.discount_child.ensures.children d in
    let some : 0 < c.place_in_chain-chain.result.1 = grind (arith, common_steps, c.if-before-eq0.false) in
    let behind : (next_at nodes c.place_in_chain-chain.result.1 ≡ c.args.dir)
    × (place_at c.self.inside.hasher (entries_of nodes) c.place_in_chain-chain.result.1 ≡ Some c.place_in_chain-chain.result.0) =
    rw (c.deref.ensures.value, c.number.ensures) at (c.place_in_chain-chain.ensures.before some) in
    record {
      there = before_stands c.self.inside.limit c.self.inside.hasher nodes c.self.inside.heads.items c.args.dir c.in-Some.node
          c.self.invariant l.some l.node c.discount_child.new.nodes.items c.self.inside.heads.items c.place_in_chain-chain.result.0
          l.shrinks l.in_chain entries children c.place_in_chain-chain.result.1 some behind.0 behind.1;
    }

pub invariant_of-self : goal.invariant_of-self
invariant_of-self c =
    let nodes : List (Option Node) = c.self.inside.nodes.items in
    let in_chain : place_at c.self.inside.hasher (entries_of nodes) c.args.dir
    ≡ Some c.place_in_chain-chain.result.0 = rw (c.deref.ensures.value, c.number.ensures) at c.place_in_chain-chain.ensures.chain in
    let l : IsLeaf c.self.inside.hasher nodes c.args.dir c.in-Some.node c.place_in_chain-chain.result.0 =
    leaf c.self.inside.limit c.self.inside.hasher nodes c.self.inside.heads.items c.args.self.now c.args.dir c.number-2.result
    c.index_mut.result.now c.in-Some.node c.place_in_chain-chain.result.0
    c.self.invariant c.self.view_is c.in_ok-can_remove.ensures.allowed c.number-2.ensures c.index_mut.ensures.value
    (sym c.take.ensures.value ∙ c.in-Some.is) in_chain in
    let mid : set nodes c.number-2.result c.take.new.self ≡ set nodes c.args.dir None = rw (c.number-2.ensures, c.take.ensures.after) refl in
    let entries : entries_of c.discount_child.new.nodes.items ≡ entries_of (set nodes c.args.dir None) = c.discount_child.ensures.entries ∙ ap entries_of mid in
    let children : (d : ℕ) → children_at (set nodes c.args.dir None) d
    ≡ cond (nat_eq d c.in-Some.node.parent) (children_at c.discount_child.new.nodes.items d + 1)
    (children_at c.discount_child.new.nodes.items d) = λ d.
    ap (λ (ns : List (Option Node)). children_at ns d) (sym mid) ∙ c.discount_child.ensures.children d in
    let first : head_at c.self.inside.heads.items c.place_in_chain-chain.result.0
    ≡ c.args.dir = rw (c.deref-2.ensures.value, c.number.ensures) at (c.place_in_chain-chain.ensures.head c.if-before-eq0.true) in
    first_gone c.self.inside.limit c.self.inside.hasher nodes c.self.inside.heads.items c.args.dir c.in-Some.node c.self.invariant l.some
    l.node c.discount_child.new.nodes.items (set c.self.inside.heads.items c.place_in_chain-chain.result.0 c.in-Some.node.next)
    c.place_in_chain-chain.result.0
    l.shrinks l.in_chain entries children c.place_in_chain-chain.ensures.below first refl
    (λ d. c.discount_child.ensures.nexts d ∙ ap (λ (ns : List (Option Node)). next_at ns d) mid)

pub invariant_of-self-else-before-eq0 : goal.invariant_of-self-else-before-eq0
invariant_of-self-else-before-eq0 c =
    let nodes : List (Option Node) = c.self.inside.nodes.items in
    let in_chain : place_at c.self.inside.hasher (entries_of nodes) c.args.dir
    ≡ Some c.place_in_chain-chain.result.0 = rw (c.deref.ensures.value, c.number.ensures) at c.place_in_chain-chain.ensures.chain in
    let l : IsLeaf c.self.inside.hasher nodes c.args.dir c.in-Some.node c.place_in_chain-chain.result.0 =
    leaf c.self.inside.limit c.self.inside.hasher nodes c.self.inside.heads.items c.args.self.now c.args.dir c.number-2.result
    c.index_mut.result.now c.in-Some.node c.place_in_chain-chain.result.0
    c.self.invariant c.self.view_is c.in_ok-can_remove.ensures.allowed c.number-2.ensures c.index_mut.ensures.value
    (sym c.take.ensures.value ∙ c.in-Some.is) in_chain in
    let mid : set nodes c.number-2.result c.take.new.self ≡ set nodes c.args.dir None = rw (c.number-2.ensures, c.take.ensures.after) refl in
    let entries : entries_of c.discount_child.new.nodes.items ≡ entries_of (set nodes c.args.dir None) = c.discount_child.ensures.entries ∙ ap entries_of mid in
    let children : (d : ℕ) → children_at (set nodes c.args.dir None) d
    ≡ cond (nat_eq d c.in-Some.node.parent) (children_at c.discount_child.new.nodes.items d + 1)
    (children_at c.discount_child.new.nodes.items d) = λ d.
    ap (λ (ns : List (Option Node)). children_at ns d) (sym mid) ∙ c.discount_child.ensures.children d in
    let some : 0 < c.place_in_chain-chain.result.1 = grind (arith, common_steps, c.if-before-eq0.false) in
    let behind : (next_at nodes c.place_in_chain-chain.result.1 ≡ c.args.dir)
    × (place_at c.self.inside.hasher (entries_of nodes) c.place_in_chain-chain.result.1 ≡ Some c.place_in_chain-chain.result.0) =
    rw (c.deref.ensures.value, c.number.ensures) at (c.place_in_chain-chain.ensures.before some) in
    later_gone c.self.inside.limit c.self.inside.hasher nodes c.self.inside.heads.items c.args.dir c.in-Some.node c.self.invariant l.some
    l.node c.set_next.new.nodes.items c.self.inside.heads.items c.place_in_chain-chain.result.0
    l.shrinks l.in_chain (c.set_next.ensures.entries ∙ entries)
    (λ d. children d ∙ ap (λ (k : ℕ). cond (nat_eq d c.in-Some.node.parent) (k + 1) k) (sym (c.set_next.ensures.children d)))
    c.place_in_chain-chain.result.1 some behind.0 behind.1 refl
    (λ d. c.set_next.ensures.nexts d ∙ ap (λ (k : ℕ). cond (nat_eq d c.place_in_chain-chain.result.1) c.in-Some.node.next k)
    (c.discount_child.ensures.nexts d ∙ ap (λ (ns : List (Option Node)). next_at ns d) mid))

pub returns-after-before-eq0-clause-removed : goal.returns-after-before-eq0-clause-removed
returns-after-before-eq0-clause-removed c =
    let nodes : List (Option Node) = c.self.inside.nodes.items in
    let mid : set nodes c.number-2.result c.take.new.self ≡ set nodes c.args.dir None = rw (c.number-2.ensures, c.take.ensures.after) refl in
    let gone : entries_of c.discount_child.new.nodes.items ≡ set (entries_of nodes) c.args.dir None = c.discount_child.ensures.entries
    ∙ ap entries_of mid ∙ map_taken nodes c.args.dir in
    let less : record { limit = c.self.inside.limit; entries = set (entries_of nodes) c.args.dir None }
    ≡ record c.args.self.now { entries = set c.args.self.now.entries c.args.dir None } =
    ap (λ (t : Directories). record t { entries = set t.entries c.args.dir None }) c.self.view_is in
    elim c.if-before-eq0.branch [
      | then-before-eq0 w ↦ w.self-is ∙ ap (λ (es : List (Option Entry)). record { limit = c.self.inside.limit; entries = es }) gone ∙ less
      | else-before-eq0 w ↦ w.self-is ∙ ap (λ (es : List (Option Entry)). record { limit = c.self.inside.limit; entries = es })
          (w.set_next.ensures.entries ∙ gone) ∙ less
    ]
