-- A tree that has only the root is sound.
use Rattle.std.proofs.Common.{◌≡◌, replicate, ℕ, zero, suc, ◌≤◌, ◌^◌, List, [], ◌∷◌, length, sym, ◌∙◌, refl, arith, subst, true, Some, get_or}
use Rattle.std.proofs.lemmas.Bool.{false≢true}
use Rattle.std.specs.declared.hash.FoldHasher.{FoldHasher}
use Rattle.dirtree.specs.declared.node.Node.{Node}
use Rattle.dirtree.specs.Tree.{Entry, IsTree, is_there, parent_of, root}
use Rattle.dirtree.specs.Keeps.{IsSound, place_at, children_at, children_of, head_at, entry_of, entries_of}
use Rattle.dirtree.proofs.Lookups.{placed_there}

pub zero_at : (n i : ℕ) → get_or (replicate n zero) i zero ≡ zero
zero_at zero i = refl
zero_at (suc n) zero = refl
zero_at (suc n) (suc i) = zero_at n i

alone : (e : Entry) (d : ℕ) → is_there (Some e ∷ []) d ≡ true → d ≡ 0
alone e zero there = refl
alone e (suc d) there = absurd (false≢true there)

root_tree : IsTree (Some root ∷ [])
root_tree = record {
  rooted = refl;
  above = λ d some there. let is = alone root d there in absurd (omega (arith, some, is));
  parents = up;
  named = λ d some there. let is = alone root d there in absurd (omega (arith, some, is));
  unique = λ c d some more there here same alike. alone root c there ∙ sym (alone root d here);
}
  where
    up : (d : ℕ) → is_there (Some root ∷ []) d ≡ true → is_there (Some root ∷ []) (parent_of (Some root ∷ []) d) ≡ true
    up zero there = refl
    up (suc d) there = absurd (false≢true there)

pub sound_root : (limit : ℕ) (h : FoldHasher) (n : Node) (heads : List ℕ) → 1 ≤ limit → limit ≤ 65536 → entry_of n ≡ root → n.children ≡ 0
    → length heads ≡ 2 ^ 17 → ((chain : ℕ) → head_at heads chain ≡ 0) → IsSound limit h (Some n ∷ []) heads
sound_root limit h n heads low high is_root fresh wide empty = record {
  small = high;
  within = low;
  wide = wide;
  tree = subst (λ (e : Entry). IsTree (Some e ∷ [])) (sym is_root) root_tree;
  counted = counted;
  chained = record {
    begins = λ chain more. let none = empty chain in absurd (omega (arith, more, none));
    follows = λ d chain some is more. let none = nowhere d chain is in absurd (omega (arith, some, none));
    greatest = λ d chain some is. let none = nowhere d chain is in absurd (omega (arith, some, none));
    nearest = λ c d chain some less isc isd. let none = nowhere c chain isc in absurd (omega (arith, some, none));
  };
}
  where
    counted : (d : ℕ) → is_there (entries_of (Some n ∷ [])) d ≡ true → children_at (Some n ∷ []) d ≡ children_of (entries_of (Some n ∷ [])) d
    counted zero there = fresh
    counted (suc d) there = absurd (false≢true there)

    nowhere : (d chain : ℕ) → place_at h (entries_of (Some n ∷ [])) d ≡ Some chain → d ≡ 0
    nowhere d chain is = alone (entry_of n) d (placed_there h (entries_of (Some n ∷ [])) d chain is)
