-- What `remove` leaves of a tree's nodes and chains is sound.
use Rattle.std.proofs.Common.{◌≡◌, ◌≢◌, ℕ, ◌<◌, ◌+◌, ◌^◌, List, length, sym, ap, ◌∙◌, refl, arith}
use Rattle.std.proofs.Common.{set, true, false, cond, subst, Bool, Option, Some, None, get_or, length-set, get_or-set_same, get_or-set_other}
use Rattle.std.proofs.lemmas.Bool.{false≢true}
use Rattle.std.proofs.Math.ListN.{get_or-map}
use Rattle.std.specs.Option.{option_map, option_map_or}
use Rattle.std.specs.Prelude.{is_some, nat_eq}
use Rattle.std.specs.declared.hash.FoldHasher.{FoldHasher}
use Rattle.dirtree.specs.declared.node.Node.{Node}
use Rattle.dirtree.specs.Tree.{Directories, Entry, IsTree, entry_at, is_there, remove_refusal}
use Rattle.dirtree.specs.Keeps.{IsChained, IsSound, Key, key_of, chain_of, place_at, next_at, children_at, children_of, head_at, is_child, entry_of, entries_of}
use Rattle.dirtree.proofs.Changes.{emptied, inside}
use Rattle.dirtree.proofs.Chains.{chained_first, chained_later}
use Rattle.dirtree.proofs.Counts.{one_if, children_less}
use Rattle.dirtree.proofs.Lookups.{node_next, placed_there}
use Rattle.dirtree.proofs.Made.{flipped}
use Rattle.dirtree.proofs.Names.{placed, read_at}
use Rattle.dirtree.proofs.Sound.{MayRemove, length-entries, map_taken, may_remove}
use Rattle.dirtree.proofs.TreeFacts.{is_equal, is_other, removed_tree}
use Rattle.dirtree.proofs.Walks.{IsNodeAt, node_at}

stays : (es : List (Option Entry)) (d gone : ℕ) → d ≢ gone → entry_at (set es gone None) d ≡ entry_at es d
stays es d gone other = get_or-set_other es gone d None None other

node_stays : (nodes : List (Option Node)) (d gone : ℕ) → d ≢ gone → get_or (set nodes gone None) d None ≡ get_or nodes d None
node_stays nodes d gone other = get_or-set_other nodes gone d None None other

counts_none : (b : Bool) (k m : ℕ) → cond b (k + 1) k ≡ m + one_if b → k ≡ m
counts_none true k m h = omega (arith, h)
counts_none false k m h = omega (arith, h)

-- a directory that may be removed, with its node, its chain and the tree that it leaves
pub record IsLeaf (h : FoldHasher) (nodes : List (Option Node)) (dir : ℕ) (n : Node) (chain : ℕ) : Type 0 where
  pub some : 0 < dir
  pub node : get_or nodes dir None ≡ Some n
  pub in_chain : place_at h (entries_of nodes) dir ≡ Some chain
  pub shrinks : IsTree (set (entries_of nodes) dir None)

pub leaf : (limit : ℕ) (h : FoldHasher) (nodes : List (Option Node)) (heads : List ℕ) (t : Directories) (dir at : ℕ) (slot : Option Node)
    (n : Node) (chain : ℕ) → IsSound limit h nodes heads
    → record { limit = limit; entries = entries_of nodes } ≡ t → remove_refusal t dir ≡ None
    → at ≡ dir → slot ≡ get_or nodes at slot → slot ≡ Some n → place_at h (entries_of nodes) dir ≡ Some chain → IsLeaf h nodes dir n chain
leaf limit h nodes heads t dir at slot n chain sound view allowed here read is in_chain =
    let refused : remove_refusal (record { limit = limit; entries = entries_of nodes }) dir
    ≡ None = subst (λ (t : Directories). remove_refusal t dir ≡ None) (sym view) allowed in
    let may : MayRemove (record { limit = limit; entries = entries_of nodes }) dir =
    may_remove (record { limit = limit; entries = entries_of nodes }) dir refused in
    let below : dir < length nodes = placed nodes dir may.there in
    record {
      some = may.some;
      node = read_at nodes dir slot below (rw (← here) read) ∙ is;
      in_chain = in_chain;
      shrinks = removed_tree (record { limit = limit; entries = entries_of nodes }) dir sound.tree refused;
    }

module _ (limit : ℕ) (h : FoldHasher) (nodes : List (Option Node)) (heads : List ℕ) (gone : ℕ) (n : Node)
    (sound : IsSound limit h nodes heads) (some : 0 < gone) (was : get_or nodes gone None ≡ Some n) where
  entry : entry_at (entries_of nodes) gone ≡ Some (entry_of n)
  entry = get_or-map (option_map entry_of) nodes gone None ∙ ap (option_map entry_of) was

  there : is_there (entries_of nodes) gone ≡ true
  there = ap is_some entry

  up : IsNodeAt (entries_of nodes) gone (entry_of n)
  up = node_at (entries_of nodes) gone (entry_of n) sound.tree entry

  other_up : n.parent ≢ gone
  other_up e = let below = up.above some in absurd (omega (arith, below, e))

  pub parent_stands : is_there (entries_of (set nodes gone None)) n.parent ≡ true
  parent_stands = ap (λ (es : List (Option Entry)). is_there es n.parent) (map_taken nodes gone)
      ∙ ap is_some (stays (entries_of nodes) n.parent gone other_up) ∙ up.parent

  counts : (d : ℕ) → children_of (entries_of nodes) d ≡ children_of (set (entries_of nodes) gone None) d + one_if (nat_eq n.parent d)
  counts d = children_less (entries_of nodes) gone d some (inside (entries_of nodes) gone there)
      ∙ ap (λ (e : Option Entry). children_of (set (entries_of nodes) gone None) d + one_if (is_child d e)) entry

  children_stay : (d : ℕ) → d ≢ gone → children_at (set nodes gone None) d ≡ children_at nodes d
  children_stay d other = ap (λ (m : Option Node). option_map_or (λ n. n.children) m 0) (node_stays nodes d gone other)

  pub parent_counted : 0 < children_at (set nodes gone None) n.parent
  parent_counted =
      let kept : children_at (set nodes gone None) n.parent ≡ children_at nodes n.parent = children_stay n.parent other_up in
      let all : children_at nodes n.parent ≡ children_of (entries_of nodes) n.parent = sound.counted n.parent up.parent in
      let more = counts n.parent in
      let one : one_if (nat_eq n.parent n.parent) ≡ 1 = ap one_if (is_equal n.parent n.parent refl) in
      omega (arith, kept, all, more, one)

  module _ (after : List (Option Node)) (heads_ : List ℕ) (chain : ℕ)
      (shrinks : IsTree (set (entries_of nodes) gone None))
      (in_chain : place_at h (entries_of nodes) gone ≡ Some chain)
      (entries : entries_of after ≡ entries_of (set nodes gone None))
      (children : (d : ℕ) → children_at (set nodes gone None) d ≡ cond (nat_eq d n.parent) (children_at after d + 1) (children_at after d)) where
    less : entries_of after ≡ set (entries_of nodes) gone None
    less = entries ∙ map_taken nodes gone

    counted : (d : ℕ) → is_there (set (entries_of nodes) gone None) d ≡ true → children_at after d ≡ children_of (set (entries_of nodes) gone None) d
    counted d stands = counts_none (nat_eq d n.parent) (children_at after d) (children_of (set (entries_of nodes) gone None) d)
        (sym (children d) ∙ children_stay d other ∙ sound.counted d stood ∙ counts d
        ∙ ap (λ (b : Bool). children_of (set (entries_of nodes) gone None) d + one_if b) (flipped n.parent d))
      where
        other : d ≢ gone
        other e = false≢true (sym (ap is_some (emptied (entries_of nodes) gone d e)) ∙ stands)

        stood : is_there (entries_of nodes) d ≡ true
        stood = ap is_some (sym (stays (entries_of nodes) d gone other)) ∙ stands

    pub sound_less : length heads_ ≡ 2 ^ 17 → IsChained (place_at h (set (entries_of nodes) gone None)) (next_at after) (head_at heads_)
        → IsSound limit h after heads_
    sound_less wide chained = record {
      small = sound.small;
      within =
          let count : length after ≡ length nodes = sym (length-entries after) ∙ ap (λ (es : List (Option Entry)). length es) less
          ∙ simp length-set (length-entries nodes) in
          let few = sound.within in
          omega (arith, count, few);
      wide = wide;
      tree = subst (λ (es : List (Option Entry)). IsTree es) (sym less) shrinks;
      counted = subst (λ (es : List (Option Entry)). (d : ℕ) → is_there es d ≡ true → children_at after d ≡ children_of es d) (sym less) counted;
      chained = subst (λ (es : List (Option Entry)). IsChained (place_at h es) (next_at after) (head_at heads_)) (sym less) chained;
    }

    same : (d : ℕ) → d ≢ gone → place_at h (set (entries_of nodes) gone None) d ≡ place_at h (entries_of nodes) d
    same d other = ap (λ (e : Option Entry). option_map (λ (k : Key). chain_of h k.parent k.name) (option_map key_of e)) (stays (entries_of nodes) d gone other)

    none : place_at h (set (entries_of nodes) gone None) gone ≡ None
    none = ap (λ (e : Option Entry). option_map (λ (k : Key). chain_of h k.parent k.name) (option_map key_of e)) (emptied (entries_of nodes) gone gone refl)

    nexts_stay : (d : ℕ) → d ≢ gone → next_at (set nodes gone None) d ≡ next_at nodes d
    nexts_stay d other = ap (λ (m : Option Node). option_map_or (λ n. n.next) m 0) (node_stays nodes d gone other)

    -- it was first in its chain
    pub first_gone : chain < 2 ^ 17 → head_at heads chain ≡ gone → heads_ ≡ set heads chain n.next
        → ((d : ℕ) → next_at after d ≡ next_at (set nodes gone None) d) → IsSound limit h after heads_
    first_gone short first told nexts = sound_less (ap (λ (hs : List ℕ). length hs) told ∙ simp length-set sound.wide)
        (chained_first (place_at h (entries_of nodes)) (place_at h (set (entries_of nodes) gone None)) (next_at nodes) (next_at after)
        (head_at heads) (head_at heads_) gone chain
        sound.chained some in_chain same none first (λ d other. nexts d ∙ nexts_stay d other) front fronts)
      where
        front : head_at heads_ chain ≡ next_at nodes gone
        front = ap (λ (hs : List ℕ). head_at hs chain) told ∙ put ∙ sym (node_next nodes gone n was)
          where
            put : head_at (set heads chain n.next) chain ≡ n.next
            put = let wide = sound.wide in let in_ : chain < length heads = omega (arith, wide, short) in get_or-set_same heads chain n.next 0 in_

        fronts : (c : ℕ) → c ≢ chain → head_at heads_ c ≡ head_at heads c
        fronts c other = ap (λ (hs : List ℕ). head_at hs c) told ∙ kept
          where
            kept : head_at (set heads chain n.next) c ≡ head_at heads c
            kept = get_or-set_other heads chain c n.next 0 other

    -- it followed another
    pub later_gone : (before : ℕ) → 0 < before → next_at nodes before ≡ gone → place_at h (entries_of nodes) before ≡ Some chain → heads_ ≡ heads
        → ((d : ℕ) → next_at after d ≡ cond (nat_eq d before) n.next (next_at (set nodes gone None) d)) → IsSound limit h after heads_
    later_gone before more to placed told nexts = sound_less (ap (λ (hs : List ℕ). length hs) told ∙ sound.wide)
        (chained_later (place_at h (entries_of nodes)) (place_at h (set (entries_of nodes) gone None)) (next_at nodes) (next_at after)
        (head_at heads) (head_at heads_) gone chain
        sound.chained some in_chain same none before more to placed skips passes (λ c. ap (λ (hs : List ℕ). head_at hs c) told))
      where
        skips : next_at after before ≡ next_at nodes gone
        skips = nexts before ∙ ap (λ (b : Bool). cond b n.next (next_at (set nodes gone None) before)) (is_equal before before refl)
            ∙ sym (node_next nodes gone n was)

        passes : (d : ℕ) → d ≢ gone → d ≢ before → next_at after d ≡ next_at nodes d
        passes d other away = nexts d ∙ ap (λ (b : Bool). cond b n.next (next_at (set nodes gone None) d)) (is_other d before away) ∙ nexts_stay d other

    -- the one before it is still there
    pub before_stands : (before : ℕ) → 0 < before → next_at nodes before ≡ gone → place_at h (entries_of nodes) before ≡ Some chain
        → is_there (entries_of after) before ≡ true
    before_stands before more to placed =
        let under = (sound.chained.follows before chain more placed (omega (arith, to, some))).0 in
        let other : before ≢ gone = λ e. absurd (omega (arith, under, to, e)) in
        ap (λ (es : List (Option Entry)). is_there es before) less ∙ ap is_some (stays (entries_of nodes) before gone other)
        ∙ placed_there h (entries_of nodes) before chain placed
