-- What a tree refuses, and what it has of children and rows.
use Rattle.std.proofs.Common.{◌≡◌, ℕ, ◌<◌, ◌+◌, ◌-◌, List, length, sym, ap, ◌∙◌, refl, arith, [], ◌∷◌, ◌++◌, zero, suc}
use Rattle.std.proofs.Common.{set, drop, Bool, true, false, not, cond, ◌||◌, subst, Option, Some, None, get_or, add-one, add-zero, zero-add, take}
use Rattle.std.proofs.lemmas.Grind.{common_steps}
use Rattle.std.proofs.lemmas.List.{length-map, get_or-drop, map_more}
use Rattle.std.proofs.lemmas.Bool.{false≢true, ltb-true}
use Rattle.std.proofs.lemmas.Bool.Decides.{Decides-eqb}
use Rattle.std.specs.Option.{option_map}
use Rattle.std.specs.List.{list_any}
use Rattle.std.specs.Prelude.{nat_eq, is_some, nat_lt}
use Rattle.dirtree.specs.declared.node.Node.{Node}
use Rattle.dirtree.specs.declared.tree_error.TreeError.TheVariants.{TreeFull}
use Rattle.dirtree.specs.declared.tree.TreeRow.{TreeRow}
use Rattle.dirtree.specs.Name.{is_name}
use Rattle.dirtree.specs.Tree.{Directories, Entry, entry_at, is_there, child_of, has_child, make_refusal, remove_refusal, rows_from}
use Rattle.dirtree.specs.Keeps.{Key, key, key_of, key_at, entry_of, entries_of, is_child}
use Rattle.dirtree.proofs.Indexed.{IsIndexed}
use Rattle.dirtree.proofs.Nodes.{there_by_key}
use Rattle.dirtree.proofs.Changes.{inside}

-- a test that passed
passes : (b : Bool) {X : Type 0} (e : X) (rest : Option X) → cond (not b) (Some e) rest ≡ None → (b ≡ true) × (rest ≡ None)
passes true e rest h = (refl, h)
passes false e rest h = cc

avoids : (b : Bool) {X : Type 0} (e : X) (rest : Option X) → cond b (Some e) rest ≡ None → (b ≡ false) × (rest ≡ None)
avoids false e rest h = (refl, h)
avoids true e rest h = cc

no_some : {X : Type 0} (o : Option X) → is_some o ≡ false → o ≡ None
no_some None h = refl
no_some (Some x) h = cc

-- what holds where a directory can be made
pub record MayMake (t : Directories) (parent : ℕ) (name : List ℕ) : Type 0 where
  pub there : is_there t.entries parent ≡ true
  pub named : is_name name ≡ true
  pub free : child_of t.entries parent name ≡ None
  pub room : length t.entries < t.limit

pub may_make : (t : Directories) (parent : ℕ) (name : List ℕ) → make_refusal t parent name ≡ None → MayMake t parent name
may_make t parent name h =
    let a = passes _ _ _ h in
    let b = passes _ _ _ a.1 in
    let c = avoids _ _ _ b.1 in
    let d = passes (nat_lt (length t.entries) t.limit) TreeFull None c.1 in
    record { there = a.0; named = b.0; free = no_some _ c.0; room = ltb-true (length t.entries) t.limit d.0 }

-- what holds where a directory can be removed
pub record MayRemove (t : Directories) (d : ℕ) : Type 0 where
  pub some : 0 < d
  pub there : is_there t.entries d ≡ true
  pub childless : has_child t.entries d ≡ false

pub may_remove : (t : Directories) (d : ℕ) → remove_refusal t d ≡ None → MayRemove t d
may_remove t d h =
    let a = avoids _ _ _ h in
    let b = passes _ _ _ a.1 in
    let c = avoids _ _ _ b.1 in
    record { some = above_zero d a.0; there = b.0; childless = c.0 }
  where
    above_zero : (d : ℕ) → nat_eq d 0 ≡ false → 0 < d
    above_zero zero h = absurd (false≢true (sym h))
    above_zero (suc d) h = omega arith

pub length-entries : (nodes : List (Option Node)) → length (entries_of nodes) ≡ length nodes
length-entries nodes = simp length-map

any_at : (test : Option Entry → Bool) (es : List (Option Entry)) (i : ℕ) → i < length es → test (get_or es i None) ≡ true → list_any test es ≡ true
any_at test [] i h is = absurd (omega arith)
any_at test (e ∷ es) zero h is = rw is refl
any_at test (e ∷ es) (suc i) h is = or_right (test e) (list_any test es) (any_at test es i (omega arith) is)
  where
    or_right : (a b : Bool) → b ≡ true → (a || b) ≡ true
    or_right true b h = refl
    or_right false b h = h

at_any : (test : Option Entry → Bool) (es : List (Option Entry)) → list_any test es ≡ true → (i : ℕ) × (test (get_or es i None) ≡ true)
at_any test [] h = absurd (false≢true h)
at_any test (e ∷ es) h = elim (test e) as (λ b. test e ≡ b → (b || list_any test es) ≡ true → (i : ℕ) × (test (get_or (e ∷ es) i None) ≡ true)) [
  | true ↦ λ is _. (0, is)
  | false ↦ λ is more. let later = at_any test es more in (later.0 + 1, subst (λ (k : ℕ). test (get_or (e ∷ es) k None) ≡ true) (sym (add-one later.0)) later.1)
] refl h

child_key : (d : ℕ) (e : Option Entry) → is_child d e ≡ true → (k : Key) × (option_map key_of e ≡ Some k) × (k.parent ≡ d)
child_key d None h = absurd (false≢true h)
child_key d (Some e) h = (key_of e, refl, (Decides-eqb e.parent d).0 h)

key_child : (d : ℕ) (name : List ℕ) (e : Option Entry) → option_map key_of e ≡ Some (key d name) → is_child d e ≡ true
key_child d name None h = cc
key_child d name (Some e) h = let same : key_of e ≡ key d name = only h in (Decides-eqb e.parent d).1 (ap (λ (k : Key). k.parent) same)
  where
    only : {x y : Key} → Some x ≡ Some y → x ≡ y
    only h = cc

-- a directory has a child exactly if its index names one
pub child_indexed : (es : List (Option Entry)) (indexed : ℕ → List ℕ → Option ℕ) (d : ℕ) → IsIndexed es indexed → has_child es d ≡ true
    → (name : List ℕ) × (child : ℕ) × (indexed d name ≡ Some child)
child_indexed es indexed d index h =
    let hit = at_any (is_child d) (drop 1 es) h in
    let k = child_key d (get_or (drop 1 es) hit.0 None) hit.1 in
    let at : key_at es (1 + hit.0) ≡ Some k.0 = ap (option_map key_of) (sym (get_or-drop 1 es hit.0 None)) ∙ k.1 in
    (k.0.name, 1 + hit.0, subst (λ (p : ℕ). indexed p k.0.name ≡ Some (1 + hit.0)) k.2 (index.found (1 + hit.0) k.0 (omega arith) at))

pub indexed_child : (es : List (Option Entry)) (indexed : ℕ → List ℕ → Option ℕ) (d child : ℕ) (name : List ℕ) → IsIndexed es indexed
    → indexed d name ≡ Some child → has_child es d ≡ true
indexed_child es indexed d child name index h =
    let at = index.finds d child name h in
    let below : child < length es = inside es child (there_by_key es child (key d name) at.1) in
    let place : 1 + (child - 1) ≡ child = omega (arith, at.0) in
    let short : child - 1 < length (drop 1 es) = shorter es (child - 1) (omega (arith, below, at.0)) in
    any_at (is_child d) (drop 1 es) (child - 1) short
    (subst (λ (e : Option Entry). is_child d e ≡ true)
    (sym (get_or-drop 1 es (child - 1) None ∙ ap (λ (i : ℕ). get_or es i None) place)) (key_child d name (entry_at es child) at.1))
  where
    shorter : (es : List (Option Entry)) (i : ℕ) → 1 + i < length es → i < length (drop 1 es)
    shorter [] i h = absurd (omega arith)
    shorter (e ∷ es) i h = omega arith

pub map_taken : (nodes : List (Option Node)) (d : ℕ) → entries_of (set nodes d None) ≡ set (entries_of nodes) d None
map_taken [] d = refl
map_taken (n ∷ nodes) zero = refl
map_taken (n ∷ nodes) (suc d) = ap (λ (es : List (Option Entry)). option_map entry_of n ∷ es) (map_taken nodes d)

pub no_names : (o : Option ℕ) → ((child : ℕ) → o ≡ Some child → ⊥) → o ≡ None
no_names None h = refl
no_names (Some child) h = absurd (h child refl)

rows_after : (first : ℕ) (es : List (Option Entry)) (e : Option Entry)
    → rows_from first (es ++ e ∷ []) ≡ rows_from first es ++ rows_from (first + length es) (e ∷ [])
rows_after first [] e = ap (λ (k : ℕ). rows_from k (e ∷ [])) (sym (add-zero first))
rows_after first (None ∷ es) e = rows_after (suc first) es e ∙ ap (λ (k : ℕ). rows_from (suc first) es ++ rows_from k (e ∷ [])) (omega arith)
rows_after first (Some x ∷ es) e = ap (λ (rows : List TreeRow). record { dir = first; parent = x.parent; inodes = x.inodes } ∷ rows)
    (rows_after (suc first) es e ∙ ap (λ (k : ℕ). rows_from (suc first) es ++ rows_from k (e ∷ [])) (omega arith))

-- one more place, with a directory or without
pub rows_more : (nodes : List (Option Node)) (i : ℕ) (slot : Option Node) → i < length nodes → slot ≡ get_or nodes i slot
    → rows_from 0 (entries_of (take (i + 1) nodes)) ≡ rows_from 0 (entries_of (take i nodes)) ++ rows_from i (option_map entry_of slot ∷ [])
rows_more nodes i slot below read =
    let last : entries_of (take (i + 1) nodes) ≡ entries_of (take i nodes)
    ++ option_map entry_of slot ∷ [] = map_more (option_map entry_of) nodes i slot below
    ∙ ap (λ (n : Option Node). entries_of (take i nodes) ++ option_map entry_of n ∷ []) (sym read) in
    let place : 0 + length (entries_of (take i nodes)) ≡ i = zero-add (length (entries_of (take i nodes))) ∙ length-entries (take i nodes)
    ∙ (let short : length (take i nodes) ≡ i = grind (arith, common_steps) in short) in
    ap (rows_from 0) last ∙ rows_after 0 (entries_of (take i nodes)) (option_map entry_of slot)
    ∙ ap (λ (k : ℕ). rows_from 0 (entries_of (take i nodes)) ++ rows_from k (option_map entry_of slot ∷ [])) place
