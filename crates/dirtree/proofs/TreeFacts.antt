-- What a change leaves of a tree, and what its reads say.
use Rattle.std.proofs.Common.{◌≡◌, ◌≢◌, ◌==◌, ℕ, ◌<◌, ◌+◌, List, [], ◌∷◌, ◌++◌, length, sym, ap, ◌∙◌, refl, arith, subst}
use Rattle.std.proofs.Common.{true, false, cond, set, inl, inr, suc, get_or, add-zero, add-one, zero-add, Option, Some, None, ◌↔◌, ◌&&◌}
use Rattle.std.proofs.lemmas.Bool.{false≢true}
use Rattle.std.proofs.lemmas.Bool.Decides.{Decides-eqb}
use Rattle.std.proofs.lemmas.Grind.{common_steps}
use Rattle.std.specs.List.{cons_option, filter_map, range_with_len}
use Rattle.std.specs.Option.{option_map}
use Rattle.std.specs.Prelude.{nat_eq}
use Rattle.std.specs.Str.{bytes_eq}
use Rattle.dirtree.specs.declared.tree.TreeRow.{TreeRow}
use Rattle.dirtree.specs.Tree.{Directories, Entry, IsTree, entry_at, name_of, child_of, has_child}
use Rattle.dirtree.specs.Tree.{IsChild, make_refusal, remove_refusal, with_child, without, row_at, rows_from}
use Rattle.dirtree.specs.Keeps.{Key, key}
use Rattle.dirtree.proofs.Nodes.{place, is_tree}
use Rattle.dirtree.proofs.Children.{keyed, child_is, child_by_key, index}
use Rattle.dirtree.proofs.Changes.{grown, shrunk, places, emptied}
use Rattle.dirtree.proofs.Sound.{MayMake, may_make, MayRemove, may_remove, child_indexed, indexed_child, no_names}

pub made_tree : (t : Directories) (parent : ℕ) (name : List ℕ) (inodes : ℕ) → IsTree t.entries → make_refusal t parent name ≡ None
    → IsTree (with_child t parent name inodes).entries
made_tree t parent name inodes tree allowed =
    let may : MayMake t parent name = may_make t parent name allowed in
    is_tree (t.entries ++ Some (record { parent = parent; name = name; inodes = inodes }) ∷ []) after
    (grown t.entries (child_of t.entries) after (index t.entries tree) (record { parent = parent; name = name; inodes = inodes }) may.there
    may.named may.free (λ p text. refl))
  where
    after : ℕ → List ℕ → Option ℕ
    after = λ p text. cond (nat_eq p parent && bytes_eq name text) (Some (length t.entries)) (child_of t.entries p text)

pub removed_tree : (t : Directories) (d : ℕ) → IsTree t.entries → remove_refusal t d ≡ None → IsTree (without t d).entries
removed_tree t d tree allowed =
    let may : MayRemove t d = may_remove t d allowed in
    let k = place t.entries d may.there in
    let childless : (text : List ℕ) → child_of t.entries d text
    ≡ None = λ text. no_names (child_of t.entries d text)
    (λ child h. false≢true (sym may.childless ∙ indexed_child t.entries (child_of t.entries) d child text (index t.entries tree) h)) in
    is_tree (set t.entries d None) (after k.0)
    (shrunk t.entries (child_of t.entries) (after k.0) (index t.entries tree) d k.0 may.some k.1.key_is childless (λ p text. refl))
  where
    after : Key → ℕ → List ℕ → Option ℕ
    after k = λ p text. cond (nat_eq p k.parent && bytes_eq k.name text) None (child_of t.entries p text)

pub is_equal : (m n : ℕ) → m ≡ n → (m == n) ≡ true
is_equal m n h = (Decides-eqb m n).1 h

pub is_other : (m n : ℕ) → m ≢ n → (m == n) ≡ false
is_other m n h = elim (m == n) as (λ b. (m == n) ≡ b → b ≡ false) [
  | true ↦ λ is. absurd (h ((Decides-eqb m n).0 is))
  | false ↦ λ is. refl
] refl

pub made_entry : (es : List (Option Entry)) (e : Option Entry) (d : ℕ) → entry_at (es ++ e ∷ []) d ≡ cond (d == length es) e (entry_at es d)
made_entry es e d = elim (places es e d) [
  | inl old ↦ rw (is_other d (length es) (λ same. absurd (omega (arith, same, old.0)))) old.1
  | inr new ↦ elim new [
    | inl last ↦ rw (is_equal d (length es) last.0) last.1
    | inr past ↦ rw (is_other d (length es) (λ same. absurd (omega (arith, same, past.0)))) (past.1 ∙ sym (beyond es d past.0))
  ]
]
  where
    beyond : (es : List (Option Entry)) (d : ℕ) → length es < d → entry_at es d ≡ None
    beyond es d h = grind (arith, common_steps)

pub removed_entry : (es : List (Option Entry)) (c d : ℕ) → entry_at (set es c None) d ≡ cond (d == c) None (entry_at es d)
removed_entry es c d = elim (d == c) as (λ b. (d == c) ≡ b → entry_at (set es c None) d ≡ cond b None (entry_at es d)) [
  | true ↦ λ is. emptied es c d ((Decides-eqb d c).0 is)
  | false ↦ λ is. kept_there es c d (λ same. false≢true (sym is ∙ is_equal d c same))
] refl
  where
    kept_there : (es : List (Option Entry)) (c d : ℕ) → d ≢ c → entry_at (set es c None) d ≡ entry_at es d
    kept_there es c d other = grind (arith, common_steps)

pub made_length : (es : List (Option Entry)) (e : Option Entry) → length (es ++ e ∷ []) ≡ length es + 1
made_length es e = grind (arith, common_steps)

-- the child of a name is the directory that has this parent and this name
pub child_named : (es : List (Option Entry)) (p c : ℕ) (name : List ℕ) → IsTree es → (child_of es p name ≡ Some c) ↔ IsChild es p name c
child_named es p c name tree = (
  (λ h. let at = child_is es p c name h in let here = keyed es c (key p name) at.1 in
      record { some = at.0; there = here.there; parent_is = here.parent_is; name_is = here.name_is }),
  (λ child. let k = place es c child.there in
      rw (← child.parent_is, ← child.name_is, k.1.parent_is, k.1.name_is) (child_by_key es c k.0 tree child.some k.1.key_is)),
)

pub child_any : (es : List (Option Entry)) (d : ℕ) → IsTree es → (has_child es d ≡ true) ↔ ((c : ℕ) × IsChild es d (name_of es c) c)
child_any es d tree = (
  (λ h. let hit = child_indexed es (child_of es) d (index es tree) h in
      let is = (child_named es d hit.1 hit.0 tree).0 hit.2 in
      (hit.1, record { some = is.some; there = is.there; parent_is = is.parent_is; name_is = refl })),
  (λ some. indexed_child es (child_of es) d some.0 (name_of es some.0) (index es tree) ((child_named es d some.0 (name_of es some.0) tree).1 some.1)),
)

abbrev row_of : ℕ → Option Entry → Option TreeRow
row_of d e = option_map (λ e. record { dir = d; parent = e.parent; inodes = e.inodes }) e

rows_by_number : (row : ℕ → Option TreeRow) (es : List (Option Entry)) (first : ℕ)
    → ((i : ℕ) → i < length es → row (first + i) ≡ row_of (first + i) (get_or es i None))
    → rows_from first es ≡ filter_map row (range_with_len first (length es))
rows_by_number row [] first reads = refl
rows_by_number row (e ∷ es) first reads =
    let here : row first ≡ row_of first e = subst (λ (k : ℕ). row k ≡ row_of k e) (add-zero first) (reads 0 (omega arith)) in
    let more : rows_from (first + 1) es ≡ filter_map row (range_with_len (first + 1) (length es)) =
    rows_by_number row es (first + 1)
    (λ i below. subst (λ (k : ℕ). row k ≡ row_of k (get_or es i None)) (omega arith)
    (rw add-one at (reads (i + 1) (omega (arith, below))))) in
    first_row e ∙ ap (λ (rows : List TreeRow). cons_option (row_of first e) rows)
    (ap (λ (k : ℕ). rows_from k es) (sym (add-one first)) ∙ more)
    ∙ ap (λ (o : Option TreeRow). cons_option o (filter_map row (range_with_len (first + 1) (length es)))) (sym here)
  where
    first_row : (e : Option Entry) → rows_from first (e ∷ es) ≡ cons_option (row_of first e) (rows_from (suc first) es)
    first_row None = refl
    first_row (Some e) = refl

pub rows_in_order : (es : List (Option Entry)) → rows_from 0 es ≡ filter_map (row_at es) (range_with_len 0 (length es))
rows_in_order es = rows_by_number (row_at es) es 0 (λ i below. rw (zero-add i) refl)
