-- The entries of a tree with the indexes of their names.
use Rattle.std.proofs.Common.{◌≡◌, ℕ, ◌<◌, ◌≤◌, ◌+◌, ◌-◌, List, sym, ap, ◌∙◌, refl, arith, []}
use Rattle.std.proofs.Common.{◌∷◌, zero, suc, drop, true, false, cond, subst, Option, Some, None, get_or}
use Rattle.std.proofs.lemmas.Bool.{and_parts, and_from, false≢true}
use Rattle.std.proofs.lemmas.Bool.Decides.{Decides-eqb}
use Rattle.std.proofs.lemmas.List.{get_or-drop}
use Rattle.std.proofs.lemmas.Slice.Eq.{bytes_eq-Decides}
use Rattle.std.specs.Option.{option_map, option_map_or}
use Rattle.std.specs.Prelude.{is_some, nat_eq}
use Rattle.std.specs.Str.{bytes_eq}
use Rattle.dirtree.specs.Tree.{Entry, IsTree, entry_at, is_there, parent_of, name_of, is_named_child, child_from}
use Rattle.dirtree.proofs.Indexed.{IsIndexed}
use Rattle.dirtree.specs.Keeps.{Key, key, key_of, key_at}

-- an entry is a child of that name exactly if its key says so
named_entry : (e : Entry) (p : ℕ) (name : List ℕ) → is_named_child p name (Some e) ≡ true → (e.parent ≡ p) × (e.name ≡ name)
named_entry e p name h =
    let parts : (nat_eq e.parent p ≡ true) × (bytes_eq e.name name ≡ true) = and_parts (nat_eq e.parent p) (bytes_eq e.name name) h in
    ((Decides-eqb e.parent p).0 parts.0, (bytes_eq-Decides e.name name).0 parts.1)

pub named_key : (e : Option Entry) (p : ℕ) (name : List ℕ) → is_named_child p name e ≡ true → option_map key_of e ≡ Some (key p name)
named_key None p name h = cc
named_key (Some e) p name h = let parts = named_entry e p name h in rw (parts.0, parts.1) refl

pub key_named : (e : Option Entry) (p : ℕ) (name : List ℕ) → option_map key_of e ≡ Some (key p name) → is_named_child p name e ≡ true
key_named None p name h = cc
key_named (Some e) p name h =
    let same : key_of e ≡ key p name = cc in
    and_from (nat_eq e.parent p) (bytes_eq e.name name) ((Decides-eqb e.parent p).1 (ap (λ (k : Key). k.parent) same))
    ((bytes_eq-Decides e.name name).1 (ap (λ (k : Key). k.name) same))

-- the number that the search finds
pub found_from : (first : ℕ) (entries : List (Option Entry)) (p c : ℕ) (name : List ℕ) → child_from first entries p name ≡ Some c
    → (first ≤ c) × (is_named_child p name (get_or entries (c - first) None) ≡ true)
found_from first [] p c name h = cc
found_from first (e ∷ entries) p c name h =
    elim (is_named_child p name e) as (λ b. is_named_child p name e ≡ b
    → cond b (Some first) (child_from (suc first) entries p name) ≡ Some c
    → (first ≤ c) × (is_named_child p name (get_or (e ∷ entries) (c - first) None) ≡ true)) [
      | true ↦ λ is here. let at : first ≡ c = cc in (omega arith, rw (← at) (let z : first - first ≡ 0 = omega arith in rw z is))
      | false ↦ λ is there. let later = found_from (suc first) entries p c name there in
          let z : c - first ≡ suc (c - suc first) = omega (arith, later.0) in (omega (arith, later.0), rw z later.1)
    ] refl h

missed_step : (first p i : ℕ) (name : List ℕ) (e : Option Entry) (entries : List (Option Entry))
    → ((i : ℕ) → child_from (suc first) entries p name ≡ None → is_named_child p name (get_or entries i None) ≡ false)
    → is_named_child p name e ≡ false → child_from (suc first) entries p name ≡ None
    → is_named_child p name (get_or (e ∷ entries) i None) ≡ false
missed_step first p zero name e entries more is there = is
missed_step first p (suc i) name e entries more is there = more i there

pub missed_from : (first : ℕ) (entries : List (Option Entry)) (p i : ℕ) (name : List ℕ) → child_from first entries p name ≡ None
    → is_named_child p name (get_or entries i None) ≡ false
missed_from first [] p i name h = refl
missed_from first (e ∷ entries) p i name h =
    elim (is_named_child p name e) as (λ b. is_named_child p name e ≡ b → cond b (Some first) (child_from (suc first) entries p name) ≡ None
    → is_named_child p name (get_or (e ∷ entries) i None) ≡ false) [
      | true ↦ λ is bad. cc
      | false ↦ λ is there. missed_step first p i name e entries (λ j none. missed_from (suc first) entries p j name none) is there
    ] refl h

pub after_first : (entries : List (Option Entry)) (c : ℕ) → 0 < c → get_or (drop 1 entries) (c - 1) None ≡ entry_at entries c
after_first entries c some =
    let at : 1 + (c - 1) ≡ c = omega arith in
    get_or-drop 1 entries (c - 1) None ∙ ap (λ i. get_or entries i None) at

-- a directory that is there, by its key
pub record IsPlaced (entries : List (Option Entry)) (d : ℕ) (k : Key) : Type 0 where
  pub key_is : key_at entries d ≡ Some k
  pub parent_is : parent_of entries d ≡ k.parent
  pub name_is : name_of entries d ≡ k.name

placed : (e : Option Entry) → is_some e ≡ true → (k : Key) × (option_map key_of e ≡ Some k) × (option_map_or (λ e. e.parent) e 0 ≡ k.parent)
    × (option_map_or (λ e. e.name) e [] ≡ k.name)
placed None there = absurd (false≢true there)
placed (Some e) there = (key_of e, refl, refl, refl)

pub place : (entries : List (Option Entry)) (d : ℕ) → is_there entries d ≡ true → (k : Key) × IsPlaced entries d k
place entries d there =
    let p = placed (entry_at entries d) there in
    (p.0, record { key_is = p.1; parent_is = p.2; name_is = p.3 })

some_entry : (e : Option Entry) (k : Key) → option_map key_of e ≡ Some k → is_some e ≡ true
some_entry None k h = cc
some_entry (Some e) k h = refl

pub there_by_key : (entries : List (Option Entry)) (d : ℕ) (k : Key) → key_at entries d ≡ Some k → is_there entries d ≡ true
there_by_key entries d k h = some_entry (entry_at entries d) k h

same_key : (j k : Key) → j.parent ≡ k.parent → j.name ≡ k.name → j ≡ k
same_key j k p q = ap (λ (n : ℕ). key n j.name) p ∙ ap (λ (name : List ℕ). key k.parent name) q

only : {c d : ℕ} → Some c ≡ Some d → c ≡ d
only h = cc

module _ (entries : List (Option Entry)) (indexed : ℕ → List ℕ → Option ℕ) (index : IsIndexed entries indexed) where
  pub is_tree : IsTree entries
  is_tree = record {
    rooted = index.rooted;
    above = λ d some there. let k = place entries d there in rw k.1.parent_is (index.above d k.0 some k.1.key_is).0;
    parents = up;
    named = λ d some there. let k = place entries d there in rw k.1.name_is (index.above d k.0 some k.1.key_is).1;
    unique = λ c d some other there here up same. let j = place entries c there in let k = place entries d here in
        let keys : j.0 ≡ k.0 = same_key j.0 k.0 (sym j.1.parent_is ∙ up ∙ k.1.parent_is) (sym j.1.name_is ∙ same ∙ k.1.name_is) in
        only (sym (index.found c j.0 some j.1.key_is) ∙ ap (λ (k : Key). indexed k.parent k.name) keys ∙ index.found d k.0 other k.1.key_is);
  }
    where
      up : (d : ℕ) → is_there entries d ≡ true → is_there entries (parent_of entries d) ≡ true
      up zero there = subst (λ (e : Option Entry). is_there entries (option_map_or (λ e. e.parent) e 0) ≡ true) (sym index.rooted) there
      up (suc d) there = let k = place entries (suc d) there in
          rw k.1.parent_is (index.held k.0.parent (suc d) k.0.name (index.found (suc d) k.0 (omega arith) k.1.key_is))
