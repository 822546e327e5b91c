-- What `make` leaves of a tree's nodes and chains is sound.
use Rattle.std.proofs.Common.{◌≡◌, ◌≢◌, ℕ, ◌<◌, ◌≤◌, ◌+◌, ◌^◌, List, length, sym, ap, ◌∙◌, refl, arith, inl, inr}
use Rattle.std.proofs.Common.{[], ◌∷◌, ◌++◌, set, true, false, cond, subst, Bool, Option, Some, None, get_or, length-set, get_or-set_same, get_or-set_other}
use Rattle.std.proofs.lemmas.Grind.{common_steps}
use Rattle.std.proofs.lemmas.List.{map-append}
use Rattle.std.proofs.lemmas.Bool.{false≢true}
use Rattle.std.proofs.lemmas.Bool.Decides.{Decides-eqb}
use Rattle.std.proofs.Math.ListN.{get_or-append}
use Rattle.std.proofs.Math.Seq.{get_or-append_seam}
use Rattle.std.specs.Option.{option_map, option_map_or}
use Rattle.std.specs.Prelude.{is_some, nat_eq}
use Rattle.std.specs.declared.hash.FoldHasher.{FoldHasher}
use Rattle.dirtree.specs.declared.node.Node.{Node}
use Rattle.dirtree.specs.Tree.{Directories, Entry, IsTree, entry_at, is_there, make_refusal}
use Rattle.dirtree.specs.Keeps.{IsChained, IsSound, Key, key_of, chain_of, place_at, next_at, children_at, children_of, head_at, entry_of, entries_of}
use Rattle.dirtree.proofs.Changes.{inside, places}
use Rattle.dirtree.proofs.Chains.{chained_grown}
use Rattle.dirtree.proofs.Counts.{one_if, children_more, none_counted}
use Rattle.dirtree.proofs.Lookups.{placed_there}
use Rattle.dirtree.proofs.Sound.{MayMake, may_make, length-entries}
use Rattle.dirtree.proofs.TreeFacts.{is_equal, is_other, made_length, made_tree}

pub flipped : (m n : ℕ) → nat_eq m n ≡ nat_eq n m
flipped m n = elim (nat_eq n m) as (λ b. nat_eq n m ≡ b → nat_eq m n ≡ b) [
  | true ↦ λ is. is_equal m n (sym ((Decides-eqb n m).0 is))
  | false ↦ λ is. is_other m n (λ e. false≢true (sym is ∙ is_equal n m (sym e)))
] refl

counts_one : (b : Bool) (k : ℕ) → cond b (k + 1) k ≡ k + one_if b
counts_one true k = refl
counts_one false k = omega arith

outside : (es : List (Option Entry)) (d : ℕ) → length es ≤ d → is_there es d ≡ false
outside es d h = let none : entry_at es d ≡ None = grind (arith, common_steps) in ap is_some none

module _ (limit : ℕ) (h : FoldHasher) (nodes after : List (Option Node)) (heads : List ℕ) (n : Node)
    (sound : IsSound limit h nodes heads)
    (there : is_there (entries_of nodes) n.parent ≡ true)
    (room : length nodes < limit)
    (grows : IsTree (entries_of nodes ++ Some (entry_of n) ∷ []))
    (fresh : n.children ≡ 0) (leads : n.next ≡ head_at heads (chain_of h n.parent n.name)) (short : chain_of h n.parent n.name < 2 ^ 17)
    (entries : entries_of after ≡ entries_of nodes)
    (children : (d : ℕ) → children_at after d ≡ cond (nat_eq d n.parent) (children_at nodes d + 1) (children_at nodes d))
    (nexts : (d : ℕ) → next_at after d ≡ next_at nodes d) where
  split : entries_of (after ++ Some n ∷ []) ≡ entries_of nodes ++ Some (entry_of n) ∷ []
  split = map-append (option_map entry_of) after (Some n ∷ []) ∙ ap (λ (es : List (Option Entry)). es ++ Some (entry_of n) ∷ []) entries

  same_length : length after ≡ length nodes
  same_length = sym (length-entries after) ∙ ap (λ (es : List (Option Entry)). length es) entries ∙ length-entries nodes

  old_node : (d : ℕ) → d < length nodes → get_or (after ++ Some n ∷ []) d None ≡ get_or after d None
  old_node d below = get_or-append after (Some n ∷ []) None d (omega (arith, below, same_length))

  new_node : get_or (after ++ Some n ∷ []) (length nodes) None ≡ Some n
  new_node = ap (λ (k : ℕ). get_or (after ++ Some n ∷ []) k None) (sym same_length) ∙ get_or-append_seam after (Some n) [] None

  counted : (d : ℕ) → is_there (entries_of nodes ++ Some (entry_of n) ∷ []) d ≡ true
      → children_at (after ++ Some n ∷ []) d ≡ children_of (entries_of nodes ++ Some (entry_of n) ∷ []) d
  counted d stands =
      let below = inside (entries_of nodes) n.parent there in
      let more : children_of (entries_of nodes ++ Some (entry_of n) ∷ []) d
      ≡ children_of (entries_of nodes) d + one_if (nat_eq n.parent d) =
      children_more (entries_of nodes) (Some (entry_of n)) d (omega (arith, below)) in
      elim (places (entries_of nodes) (Some (entry_of n)) d) [
        | inl old ↦
            let was : is_there (entries_of nodes) d ≡ true = ap is_some (sym old.1) ∙ stands in
            ap (λ (m : Option Node). option_map_or (λ n. n.children) m 0) (old_node d (let low = old.0 in omega (arith, low, length-entries nodes)))
            ∙ children d ∙ counts_one (nat_eq d n.parent) (children_at nodes d)
            ∙ ap (λ (k : ℕ). k + one_if (nat_eq d n.parent)) (sound.counted d was)
            ∙ ap (λ (b : Bool). children_of (entries_of nodes) d + one_if b) (flipped d n.parent)
            ∙ sym more
        | inr new ↦ elim new [
          | inl last ↦
              let e : d ≡ length nodes = last.0 ∙ length-entries nodes in
              let other : nat_eq n.parent d ≡ false = is_other n.parent d (λ same. let at = last.0 in absurd (omega (arith, same, at, below))) in
              let none : children_of (entries_of nodes) d ≡ 0 = none_counted (entries_of nodes) d sound.tree
              (outside (entries_of nodes) d (let at = last.0 in omega (arith, at))) in
              ap (λ (k : ℕ). children_at (after ++ Some n ∷ []) k) e
              ∙ ap (λ (m : Option Node). option_map_or (λ n. n.children) m 0) new_node
              ∙ fresh ∙ sym (more ∙ ap (λ (k : ℕ). k + one_if (nat_eq n.parent d)) none ∙ ap (λ (b : Bool). 0 + one_if b) other)
          | inr past ↦ absurd (false≢true (ap is_some (sym past.1) ∙ stands))
        ]
      ]

  abbrev chain : ℕ
  chain = chain_of h n.parent n.name

  chained : IsChained (place_at h (entries_of nodes ++ Some (entry_of n) ∷ [])) (next_at (after ++ Some n ∷ []))
      (head_at (set heads (chain_of h n.parent n.name) (length nodes)))
  chained =
      let below = inside (entries_of nodes) n.parent there in
      let count = length-entries nodes in
      chained_grown (place_at h (entries_of nodes)) (place_at h (entries_of nodes ++ Some (entry_of n) ∷ [])) (next_at nodes)
      (next_at (after ++ Some n ∷ [])) (head_at heads) (head_at (set heads chain (length nodes))) (length nodes) chain
      sound.chained (omega (arith, below, count))
      (λ d k is. let low = inside (entries_of nodes) d (placed_there h (entries_of nodes) d k is) in omega (arith, low, count))
      (λ d low. ap (λ (e : Option Entry). option_map (λ (k : Key). chain_of h k.parent k.name) (option_map key_of e)) (old_entry d low))
      (λ d high. ap (λ (e : Option Entry). option_map (λ (k : Key). chain_of h k.parent k.name) (option_map key_of e)) (no_entry d high))
      (ap (λ (e : Option Entry). option_map (λ (k : Key). chain_of h k.parent k.name) (option_map key_of e)) new_entry)
      (λ d low. ap (λ (m : Option Node). option_map_or (λ n. n.next) m 0) (old_node d low) ∙ nexts d)
      (ap (λ (m : Option Node). option_map_or (λ n. n.next) m 0) new_node ∙ leads)
      front fronts
    where
      old_entry : (d : ℕ) → d < length nodes → entry_at (entries_of nodes ++ Some (entry_of n) ∷ []) d ≡ entry_at (entries_of nodes) d
      old_entry d low = get_or-append (entries_of nodes) (Some (entry_of n) ∷ []) None d (omega (arith, low, length-entries nodes))

      no_entry : (d : ℕ) → length nodes < d → entry_at (entries_of nodes ++ Some (entry_of n) ∷ []) d ≡ None
      no_entry d high = elim (places (entries_of nodes) (Some (entry_of n)) d) [
        | inl old ↦ let low = old.0 in absurd (omega (arith, low, high, length-entries nodes))
        | inr new ↦ elim new [ inl last ↦ let at = last.0 in absurd (omega (arith, at, high, length-entries nodes)) | inr past ↦ past.1 ]
      ]

      new_entry : entry_at (entries_of nodes ++ Some (entry_of n) ∷ []) (length nodes) ≡ Some (entry_of n)
      new_entry = ap (λ (k : ℕ). entry_at (entries_of nodes ++ Some (entry_of n) ∷ []) k) (sym (length-entries nodes))
          ∙ get_or-append_seam (entries_of nodes) (Some (entry_of n)) [] None

      front : head_at (set heads chain (length nodes)) chain ≡ length nodes
      front = let wide = sound.wide in let in_ : chain < length heads = omega (arith, wide, short) in get_or-set_same heads chain (length nodes) 0 in_

      fronts : (c : ℕ) → c ≢ chain → head_at (set heads chain (length nodes)) c ≡ head_at heads c
      fronts c other = get_or-set_other heads chain c (length nodes) 0 other

  pub sound_more : IsSound limit h (after ++ Some n ∷ []) (set heads (chain_of h n.parent n.name) (length nodes))
  sound_more = record {
    small = sound.small;
    within = let longer = made_length (entries_of nodes) (Some (entry_of n)) in
        let all : length (after ++ Some n ∷ []) ≡ length nodes + 1 = sym (length-entries (after ++ Some n ∷ []))
        ∙ ap (λ (es : List (Option Entry)). length es) split ∙ longer ∙ ap (λ (k : ℕ). k + 1) (length-entries nodes) in
        omega (arith, all, room);
    wide = simp length-set sound.wide;
    tree = subst (λ (es : List (Option Entry)). IsTree es) (sym split) grows;
    counted = subst (λ (es : List (Option Entry)). (d : ℕ) → is_there es d ≡ true → children_at (after ++ Some n ∷ []) d ≡ children_of es d)
        (sym split) counted;
    chained = subst (λ (es : List (Option Entry)). IsChained (place_at h es) (next_at (after ++ Some n ∷ []))
        (head_at (set heads (chain_of h n.parent n.name) (length nodes)))) (sym split) chained;
  }

-- what `make` leaves, from what each of its steps returned
pub sound_made : (limit : ℕ) (h : FoldHasher) (nodes reserved after pushed : List (Option Node)) (heads : List ℕ) (n : Node)
    (t : Directories) (parent at first number : ℕ) (name : List ℕ)
    → IsSound limit h nodes heads → record { limit = limit; entries = entries_of nodes } ≡ t → make_refusal t parent name ≡ None
    → n.parent ≡ parent → n.name ≡ name → n.children ≡ 0 → n.next ≡ head_at heads first → first ≡ chain_of h parent name → first < 2 ^ 17
    → number ≡ length nodes → reserved ≡ nodes → at ≡ parent
    → entries_of after ≡ entries_of reserved
    → ((d : ℕ) → children_at after d ≡ cond (nat_eq d at) (children_at reserved d + 1) (children_at reserved d))
    → ((d : ℕ) → next_at after d ≡ next_at reserved d)
    → pushed ≡ after ++ Some n ∷ []
    → IsSound limit h pushed (set heads first number)
sound_made limit h nodes reserved after pushed heads n t parent at first number name sound view allowed up named fresh leads is_chain short
    count same here entries children nexts pushes =
    let may : MayMake (record { limit = limit; entries = entries_of nodes }) parent name =
    subst (λ (t : Directories). MayMake t parent name) (sym view) (may_make t parent name allowed) in
    let there : is_there (entries_of nodes) n.parent ≡ true = ap (is_there (entries_of nodes)) up ∙ may.there in
    let few : length (entries_of nodes) < limit = may.room in
    let refused : make_refusal (record { limit = limit; entries = entries_of nodes }) n.parent n.name
    ≡ None = subst (λ (t : Directories). make_refusal t n.parent n.name ≡ None) (sym view) (rw (up, named) allowed) in
    let grows : IsTree (entries_of nodes ++ Some (entry_of n) ∷ []) =
    made_tree (record { limit = limit; entries = entries_of nodes }) n.parent n.name n.inodes sound.tree refused in
    let stands : first ≡ chain_of h n.parent n.name = rw (up, named) is_chain in
    let all : IsSound limit h (after ++ Some n ∷ []) (set heads (chain_of h n.parent n.name) (length nodes)) =
    sound_more limit h nodes after heads n sound there (omega (arith, few, length-entries nodes)) grows fresh
    (leads ∙ ap (head_at heads) stands) (subst (λ (k : ℕ). k < 2 ^ 17) stands short)
    (entries ∙ ap entries_of same)
    (λ d. children d ∙ rw (here, same, up) refl)
    (λ d. nexts d ∙ ap (λ (ns : List (Option Node)). next_at ns d) same) in
    rw (pushes, count, stands) all
