-- How many children a directory has, where a directory is made or removed.
use Rattle.std.proofs.Common.{◌≡◌, ℕ, zero, suc, ◌<◌, ◌+◌, List, [], ◌∷◌, ◌++◌, length, sym, ap, ◌∙◌}
use Rattle.std.proofs.Common.{refl, arith, subst, drop, set, Bool, true, false, cond, ◌||◌, Option, None, count_by}
use Rattle.std.proofs.lemmas.Bool.{false≢true}
use Rattle.std.proofs.lemmas.List.Sums.{sum_by-cons, sum_by_push, sum_by-set}
use Rattle.std.specs.List.{list_any}
use Rattle.std.specs.Prelude.{nat_lt}
use Rattle.std.proofs.lemmas.Bool.{lt-ltb}
use Rattle.dirtree.specs.Tree.{Entry, IsTree, entry_at, has_child, is_there}
use Rattle.dirtree.specs.Keeps.{is_child, children_of}
use Rattle.dirtree.proofs.TreeFacts.{child_any}

-- a test, as it counts
abbrev pub one_if : Bool → ℕ
one_if b = cond b 1 0

pub children_more : (es : List (Option Entry)) (e : Option Entry) (d : ℕ) → 0 < length es
    → children_of (es ++ e ∷ []) d ≡ children_of es d + one_if (is_child d e)
children_more [] e d some = absurd (omega arith)
children_more (x ∷ es) e d some = sum_by_push (λ x. one_if (is_child d x)) es e

pub children_less : (es : List (Option Entry)) (i d : ℕ) → 0 < i → i < length es
    → children_of es d ≡ children_of (set es i None) d + one_if (is_child d (entry_at es i))
children_less [] i d some h = absurd (omega arith)
children_less (x ∷ es) zero d some h = absurd (omega arith)
children_less (x ∷ es) (suc i) d some h = let less = sum_by-set (λ x. one_if (is_child d x)) es i None None (omega arith) in omega (arith, less)

counted_none : (test : Option Entry → Bool) (es : List (Option Entry)) → list_any test es ≡ false → count_by test es ≡ 0
counted_none test [] h = refl
counted_none test (x ∷ es) h = sum_by-cons (λ x. one_if (test x)) x es
    ∙ (elim (test x) as (λ b. test x ≡ b → (b || list_any test es) ≡ false → one_if b + count_by test es ≡ 0) [
      | true ↦ λ is any. absurd (false≢true (sym any))
      | false ↦ λ is any. let none = counted_none test es any in omega (arith, none)
    ] refl h)

counted_some : (test : Option Entry → Bool) (es : List (Option Entry)) → list_any test es ≡ true → 0 < count_by test es
counted_some test [] h = absurd (false≢true h)
counted_some test (x ∷ es) h = subst (λ (n : ℕ). 0 < n) (sym (sum_by-cons (λ x. one_if (test x)) x es))
    (elim (test x) as (λ b. test x ≡ b → (b || list_any test es) ≡ true → 0 < one_if b + count_by test es) [
      | true ↦ λ is any. omega arith
      | false ↦ λ is any. let some = counted_some test es any in omega (arith, some)
    ] refl h)

-- a directory has a child exactly if some are counted
pub has_counted : (es : List (Option Entry)) (d : ℕ) → nat_lt 0 (children_of es d) ≡ has_child es d
has_counted es d = elim (has_child es d) as (λ b. has_child es d ≡ b → nat_lt 0 (children_of es d) ≡ b) [
  | true ↦ λ any. lt-ltb 0 (children_of es d) (counted_some (is_child d) (drop 1 es) any)
  | false ↦ λ any. ap (nat_lt 0) (counted_none (is_child d) (drop 1 es) any)
] refl

-- what isn't there has no child
pub gone_childless : (es : List (Option Entry)) (d : ℕ) → IsTree es → is_there es d ≡ false → has_child es d ≡ false
gone_childless es d tree gone = elim (has_child es d) as (λ b. has_child es d ≡ b → b ≡ false) [
  | true ↦ λ any.
      let child = (child_any es d tree).0 any in
      let up : is_there es d ≡ true = subst (λ (p : ℕ). is_there es p ≡ true) child.1.parent_is (tree.parents child.0 child.1.there) in
      absurd (false≢true (sym gone ∙ up))
  | false ↦ λ any. refl
] refl

pub none_counted : (es : List (Option Entry)) (d : ℕ) → IsTree es → is_there es d ≡ false → children_of es d ≡ 0
none_counted es d tree gone = counted_none (is_child d) (drop 1 es) (gone_childless es d tree gone)
