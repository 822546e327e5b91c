-- The children of a tree's directories, as a search by name finds them.
use Rattle.std.proofs.Common.{◌≡◌, ℕ, ◌<◌, ◌-◌, List, sym, ap, ◌∙◌, refl, arith, subst, true, false, drop, Option, Some, None}
use Rattle.std.proofs.lemmas.Bool.{false≢true}
use Rattle.dirtree.specs.Name.{is_name}
use Rattle.dirtree.specs.Tree.{Entry, IsTree, entry_at, is_there, parent_of, name_of, is_named_child, child_of}
use Rattle.dirtree.proofs.Indexed.{IsIndexed}
use Rattle.dirtree.specs.Keeps.{Key, key, key_at}
use Rattle.dirtree.proofs.Nodes.{place, there_by_key, named_key, key_named, found_from, missed_from, after_first}

only : {j k : Key} → Some j ≡ Some k → j ≡ k
only h = cc

-- what a key says of the directory that has it
pub record IsKeyed (es : List (Option Entry)) (d : ℕ) (k : Key) : Type 0 where
  pub there : is_there es d ≡ true
  pub parent_is : parent_of es d ≡ k.parent
  pub name_is : name_of es d ≡ k.name

pub keyed : (es : List (Option Entry)) (d : ℕ) (k : Key) → key_at es d ≡ Some k → IsKeyed es d k
keyed es d k h =
    let there : is_there es d ≡ true = there_by_key es d k h in
    let p = place es d there in
    let same : p.0 ≡ k = only (sym p.1.key_is ∙ h) in
    record {
      there = there;
      parent_is = p.1.parent_is ∙ ap (λ (k : Key). k.parent) same;
      name_is = p.1.name_is ∙ ap (λ (k : Key). k.name) same;
    }

pub child_is : (es : List (Option Entry)) (p c : ℕ) (name : List ℕ) → child_of es p name ≡ Some c → (0 < c) × (key_at es c ≡ Some (key p name))
child_is es p c name h =
    let at = found_from 1 (drop 1 es) p c name h in
    let some : 0 < c = omega (arith, at.0) in
    (some, named_key (entry_at es c) p name (subst (λ (e : Option Entry). is_named_child p name e ≡ true) (after_first es c some) at.1))

-- in a tree a directory is the child that its parent and its name lead to
pub child_by_key : (es : List (Option Entry)) (d : ℕ) (k : Key) → IsTree es → 0 < d → key_at es d ≡ Some k → child_of es k.parent k.name ≡ Some d
child_by_key es d k tree some at = elim (child_of es k.parent k.name) as (λ o. child_of es k.parent k.name ≡ o → o ≡ Some d) [
  | Some c ↦ λ is.
      let other = child_is es k.parent c k.name is in
      let there = keyed es c (key k.parent k.name) other.1 in
      let here = keyed es d k at in
      ap Some (tree.unique c d other.0 some there.there here.there (there.parent_is ∙ sym here.parent_is) (there.name_is ∙ sym here.name_is))
  | None ↦ λ is.
      let missed = subst (λ (e : Option Entry). is_named_child k.parent k.name e ≡ false) (after_first es d some)
      (missed_from 1 (drop 1 es) k.parent (d - 1) k.name is) in
      absurd (false≢true (sym missed ∙ key_named (entry_at es d) k.parent k.name at))
] refl

-- a tree is indexed by its own children
pub index : (es : List (Option Entry)) → IsTree es → IsIndexed es (child_of es)
index es tree = record {
  rooted = tree.rooted;
  above = λ d k some at. let here = keyed es d k at in (
    subst (λ (p : ℕ). p < d) here.parent_is (tree.above d some here.there),
    subst (λ (name : List ℕ). is_name name ≡ true) here.name_is (tree.named d some here.there),
  );
  held = λ p d name at. let here = keyed es d (key p name) (child_is es p d name at).1 in
      subst (λ (q : ℕ). is_there es q ≡ true) here.parent_is (tree.parents d here.there);
  finds = λ p d name at. child_is es p d name at;
  found = λ d k some at. child_by_key es d k tree some at;
}
