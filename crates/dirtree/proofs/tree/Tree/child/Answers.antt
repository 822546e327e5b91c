use Rattle.std.proofs.Common.{◌≡◌, Some, ap, arith, sym}
use Rattle.dirtree.specs.Tree.{Directories, child_of}
use Rattle.dirtree.specs.Keeps.{entries_of}
use Rattle.dirtree.proofs.Lookups.{IsFound, found}
use Rattle.dirtree.proofs.Sound.{length-entries}
use Rattle.dirtree.proofs.tree.Tree.child.Goals as goal

pub child_in_chain-requires : goal.child_in_chain-requires
child_in_chain-requires c = record {
  wide = rw c.deref-2.ensures.value c.self.invariant.wide;
  tree = rw c.deref.ensures.value c.self.invariant.tree;
  chained = rw (c.deref.ensures.value, c.deref-2.ensures.value) c.self.invariant.chained;
}

pub returns-in-Some-clause-below : goal.returns-in-Some-clause-below
returns-in-Some-clause-below c =
    let is : child_of (entries_of c.self.inside.nodes.items) c.args.parent c.args.name.now
    ≡ Some c.in-Some.child = rw (c.deref.ensures.value, c.number.ensures) at (sym c.in-Some.ensures) in
    let child : IsFound (entries_of c.self.inside.nodes.items) c.args.name.now c.in-Some.child =
    found (entries_of c.self.inside.nodes.items) c.args.parent c.in-Some.child c.args.name.now c.self.invariant.tree is in
    let view : c.self.inside.limit ≡ c.args.self.now.limit = ap (λ (t : Directories). t.limit) c.self.view_is in
    omega (arith, child.inside, length-entries c.self.inside.nodes.items, c.self.invariant.within, view, c.new.ensures)

pub returns-in-Some-clause-there : goal.returns-in-Some-clause-there
returns-in-Some-clause-there c =
    let is : child_of (entries_of c.self.inside.nodes.items) c.args.parent c.args.name.now
    ≡ Some c.in-Some.child = rw (c.deref.ensures.value, c.number.ensures) at (sym c.in-Some.ensures) in
    let view : entries_of c.self.inside.nodes.items ≡ c.args.self.now.entries = ap (λ (t : Directories). t.entries) c.self.view_is in
    rw (c.new.ensures, ← view) (found (entries_of c.self.inside.nodes.items) c.args.parent c.in-Some.child c.args.name.now c.self.invariant.tree is).there

pub returns-in-Some-clause-named : goal.returns-in-Some-clause-named
returns-in-Some-clause-named c =
    let is : child_of (entries_of c.self.inside.nodes.items) c.args.parent c.args.name.now
    ≡ Some c.in-Some.child = rw (c.deref.ensures.value, c.number.ensures) at (sym c.in-Some.ensures) in
    (found (entries_of c.self.inside.nodes.items) c.args.parent c.in-Some.child c.args.name.now c.self.invariant.tree is).named
