-- What a look-up by way of a chain finds.
use Rattle.std.proofs.Common.{◌≡◌, ◌≢◌, ℕ, ◌<◌, ◌≤◌, List, sym, ap, ◌∙◌, refl, arith, true, Option, Some, None, inl, inr, get_or, length, subst}
use Rattle.std.specs.Option.{option_map}
use Rattle.std.proofs.lemmas.Bool.{cases_lt}
use Rattle.std.specs.Prelude.{is_some}
use Rattle.std.proofs.Math.ListN.{get_or-map}
use Rattle.std.specs.declared.hash.FoldHasher.{FoldHasher}
use Rattle.dirtree.specs.declared.node.Node.{Node}
use Rattle.dirtree.specs.Tree.{Entry, IsTree, entry_at, is_there, child_of}
use Rattle.dirtree.specs.Keeps.{Key, key, key_of, key_at, chain_of, entry_of, entries_of, next_at, place_at, IsChained}
use Rattle.dirtree.specs.Name.{is_name}
use Rattle.dirtree.proofs.Changes.{inside}
use Rattle.dirtree.proofs.Children.{child_is, keyed}

place_key : (h : FoldHasher) (k : Option Key) (chain : ℕ) → option_map (λ k. chain_of h k.parent k.name) k ≡ Some chain → is_some k ≡ true
place_key h None chain is = cc
place_key h (Some k) chain is = refl

some_key : (e : Option Entry) → is_some (option_map key_of e) ≡ true → is_some e ≡ true
some_key None h = h
some_key (Some e) h = refl

-- what is in a chain is there
pub placed_there : (h : FoldHasher) (es : List (Option Entry)) (d chain : ℕ) → place_at h es d ≡ Some chain → is_there es d ≡ true
placed_there h es d chain is = some_key (entry_at es d) (place_key h (key_at es d) chain is)

-- the chain of a child with this name
pub key_placed : (h : FoldHasher) (es : List (Option Entry)) (d p : ℕ) (name : List ℕ) → key_at es d ≡ Some (key p name)
    → place_at h es d ≡ Some (chain_of h p name)
key_placed h es d p name is = ap (option_map (λ k. chain_of h k.parent k.name)) is

-- a node that was read, as an entry
pub node_key : (nodes : List (Option Node)) (d : ℕ) (n : Node) → get_or nodes d None ≡ Some n
    → key_at (entries_of nodes) d ≡ Some (key n.parent (entry_of n).name)
node_key nodes d n is = ap (option_map key_of) (get_or-map (option_map entry_of) nodes d None ∙ ap (option_map entry_of) is)

pub node_next : (nodes : List (Option Node)) (d : ℕ) (n : Node) → get_or nodes d None ≡ Some n → next_at nodes d ≡ n.next
node_next nodes d n is = rw is refl

one : {j k : Key} → Some j ≡ Some k → j ≡ k
one h = cc

-- no directory past the one that was tested has the name, if that one hasn't
pub passed : (h : FoldHasher) (es : List (Option Entry)) (next head : ℕ → ℕ) (at p q : ℕ) (name own : List ℕ) → IsChained (place_at h es) next head
    → 0 < at → place_at h es at ≡ Some (chain_of h p name) → key_at es at ≡ Some (key q own) → (q ≡ p → own ≡ name → ⊥)
    → ((c : ℕ) → 0 < c → key_at es c ≡ Some (key p name) → c ≤ at)
    → (c : ℕ) → 0 < c → key_at es c ≡ Some (key p name) → c ≤ next at
passed h es next head at p q name own chained some place read other below c more is =
    let near = below c more is in
    let away : c ≢ at = λ e.
    let same : key q own ≡ key p name = one (sym read ∙ ap (key_at es) (sym e) ∙ is) in
    other (ap (λ (k : Key). k.parent) same) (ap (λ (k : Key). k.name) same) in
    chained.nearest c at (chain_of h p name) more (omega (arith, near, away)) (key_placed h es c p name is) place

-- where no directory has the name, there is no such child
pub no_child : (es : List (Option Entry)) (p : ℕ) (name : List ℕ) → ((c : ℕ) → 0 < c → key_at es c ≡ Some (key p name) → c ≤ 0) → child_of es p name ≡ None
no_child es p name none = elim (child_of es p name) as (λ o. child_of es p name ≡ o → o ≡ None) [
  | None ↦ λ _. refl
  | Some c ↦ λ is. let at = child_is es p c name is in let low = none c at.0 at.1 in let high = at.0 in absurd (omega (arith, low, high))
] refl

-- a node that was read, under the name that it has
pub named_here : (nodes : List (Option Node)) (d p : ℕ) (name : List ℕ) (n : Node) → get_or nodes d None ≡ Some n → n.parent ≡ p
    → n.name ≡ name → key_at (entries_of nodes) d ≡ Some (key p name)
named_here nodes d p name n is up same = node_key nodes d n is ∙ ap (λ (q : ℕ). Some (key q n.name)) up ∙ ap (λ (text : List ℕ). Some (key p text)) same

-- numbers fall along a chain
pub next_below : (place : ℕ → Option ℕ) (next head : ℕ → ℕ) (d chain : ℕ) → IsChained place next head → 0 < d → place d ≡ Some chain → next d < d
next_below place next head d chain chained some is = elim (cases_lt 0 (next d)) [
  | inl more ↦ (chained.follows d chain some is more).0
  | inr last ↦ omega (arith, last, some)
]

-- what follows one that is above another of the same chain
pub record IsNext (place : ℕ → Option ℕ) (low next chain : ℕ) : Type 0 where
  pub placed : place next ≡ Some chain
  pub reach : low ≤ next

pub next_is : (place : ℕ → Option ℕ) (next head : ℕ → ℕ) (low d chain : ℕ) → IsChained place next head → 0 < low → low < d
    → place low ≡ Some chain → place d ≡ Some chain → IsNext place low (next d) chain
next_is place next head low d chain chained some above is here =
    let near = chained.nearest low d chain some above is here in
    record { placed = (chained.follows d chain (omega (arith, some, above)) here (omega (arith, some, near))).1; reach = near }

-- the chain of a node that was read
pub node_placed : (h : FoldHasher) (nodes : List (Option Node)) (d chain : ℕ) (n : Node) (name : List ℕ) → get_or nodes d None ≡ Some n
    → name ≡ n.name → chain ≡ chain_of h n.parent name → place_at h (entries_of nodes) d ≡ Some chain
node_placed h nodes d chain n name is same at = key_placed h (entries_of nodes) d n.parent (entry_of n).name (node_key nodes d n is)
    ∙ ap (λ (text : List ℕ). Some (chain_of h n.parent text)) (sym same) ∙ ap Some (sym at)

-- a child that was found
pub record IsFound (es : List (Option Entry)) (name : List ℕ) (d : ℕ) : Type 0 where
  pub there : is_there es d ≡ true
  pub inside : d < length es
  pub named : is_name name ≡ true

pub found : (es : List (Option Entry)) (p d : ℕ) (name : List ℕ) → IsTree es → child_of es p name ≡ Some d → IsFound es name d
found es p d name tree is =
    let at = child_is es p d name is in
    let here = keyed es d (key p name) at.1 in
    record {
      there = here.there;
      inside = inside es d here.there;
      named = subst (λ (text : List ℕ). is_name text ≡ true) here.name_is (tree.named d at.0 here.there);
    }
