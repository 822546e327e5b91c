-- Where a list of names leads, and how a path is split into them.
use Rattle.std.proofs.Common.{◌≡◌, ◌≢◌, ◌==◌, ℕ, suc, ◌+◌, List, [], ◌∷◌, length, ap, ◌∙◌, refl}
use Rattle.std.proofs.Common.{arith, true, false, not, cond, Option, Some, None, Ok, Err, Bor, lit<}
use Rattle.std.specs.List.{slice_split, position_or_len, onto_first}
use Rattle.std.proofs.lemmas.Bool.Decides.{Decides-eqb}
use Rattle.std.proofs.lemmas.List.Splits.{slice_split_first}
use Rattle.std.proofs.lemmas.Str.Pattern.{IsSplitOnceResult, split_once_first}
use Rattle.dirtree.specs.declared.tree_error.TreeError.{TreeError}
use Rattle.dirtree.specs.declared.tree_error.TreeError.TheVariants.{BadName}
use Rattle.dirtree.specs.Name.{is_name}
use Rattle.dirtree.specs.Tree.{Entry, child_of}
use Rattle.dirtree.specs.Path.{onward, walk, find}

pub walk_ok : (es : List (Option Entry)) (at child : ℕ) (name : List ℕ) (names : List (List ℕ)) → walk es at (name ∷ []) ≡ Ok child
    → walk es at (name ∷ names) ≡ walk es child names
walk_ok es at child name names h = elim (is_name name) as
    (λ b. cond b (onward (child_of es at name) (λ c. walk es c [])) (Err BadName) ≡ Ok child
    → cond b (onward (child_of es at name) (λ c. walk es c names)) (Err BadName) ≡ walk es child names) [
      | true ↦ λ is. elim (child_of es at name) as (λ o. onward o (λ c. walk es c []) ≡ Ok child → onward o (λ c. walk es c names) ≡ walk es child names) [
        | Some c ↦ λ same. let e : c ≡ child = cc in rw e refl
        | None ↦ λ bad. cc
      ] is
      | false ↦ λ bad. cc
    ] h

pub walk_err : (es : List (Option Entry)) (at : ℕ) (e : TreeError) (name : List ℕ) (names : List (List ℕ)) → walk es at (name ∷ []) ≡ Err e
    → walk es at (name ∷ names) ≡ Err e
walk_err es at e name names h = elim (is_name name) as
    (λ b. cond b (onward (child_of es at name) (λ c. walk es c [])) (Err BadName) ≡ Err e
    → cond b (onward (child_of es at name) (λ c. walk es c names)) (Err BadName) ≡ Err e) [
      | true ↦ λ is. elim (child_of es at name) as (λ o. onward o (λ c. walk es c []) ≡ Err e → onward o (λ c. walk es c names) ≡ Err e) [
        | Some c ↦ λ bad. cc
        | None ↦ λ same. same
      ] is
      | false ↦ λ same. same
    ] h

-- a text without a slash is one part
pub split_whole : (xs : List ℕ) → position_or_len (λ c. c == 47) xs ≡ length xs → slice_split (λ c. c == 47) xs ≡ xs ∷ []
split_whole [] h = refl
split_whole (x ∷ xs) h = elim (x == 47) as (λ b. cond (not b) (1 + position_or_len (λ c. c == 47) xs) 0 ≡ suc (length xs)
    → cond b ([] ∷ slice_split (λ c. c == 47) xs) (onto_first x (slice_split (λ c. c == 47) xs)) ≡ (x ∷ xs) ∷ []) [
      | true ↦ λ bad. absurd (omega (arith, bad))
      | false ↦ λ more. ap (onto_first x) (split_whole xs (omega (arith, more)))
    ] h

-- the clause of `split_once` at a slash, as the parts of the text
pub first_part : (bs : List ℕ) (r : Option (Bor (List ℕ) × Bor (List ℕ))) (name more : Bor (List ℕ)) → IsSplitOnceResult 47 bs r
    → r ≡ Some (name, more) → slice_split (λ c. c == 47) bs ≡ name.now ∷ slice_split (λ c. c == 47) more.now
first_part bs r name more h is =
    let cut = rw is at (split_once_first 47 bs r h (lit< tt)) in
    slice_split_first (λ c. c == 47) bs 0 cut.0 ∙ rw (← cut.1, ← cut.2) refl

pub only_part : (bs : List ℕ) (r : Option (Bor (List ℕ) × Bor (List ℕ))) → IsSplitOnceResult 47 bs r → r ≡ None → slice_split (λ c. c == 47) bs ≡ bs ∷ []
only_part bs r h is = split_whole bs (rw is at (split_once_first 47 bs r h (lit< tt)))

pub not_rooted : (es : List (Option Entry)) (path : List ℕ) → ((rest : List ℕ) → path ≢ 47 ∷ rest) → find es path ≡ Err BadName
not_rooted es [] h = refl
not_rooted es (b ∷ path) h = elim (b == 47) as (λ v. (b == 47) ≡ v
    → cond v (cond (length path == 0) (Ok 0) (walk es 0 (slice_split (λ c. c == 47) path))) (Err BadName) ≡ Err BadName) [
      | true ↦ λ is. absurd (h path (ap (λ (c : ℕ). c ∷ path) ((Decides-eqb b 47).0 is)))
      | false ↦ λ other. refl
    ] refl
