-- The path of a directory leads back to it.
use Rattle.std.proofs.Common.{◌≡◌, ◌==◌, ℕ, zero, suc, ◌≤◌, ◌<◌, List, [], ◌∷◌, ◌++◌, sym, ap, ◌∙◌, refl}
use Rattle.std.proofs.Common.{arith, true, false, not, cond, ◌&&◌, ◌↔◌, subst, append_assoc, Option, Some, None, Ok, Err}
use Rattle.std.specs.Prelude.{nat_lt, nat_le, length, reverse, is_some}
use Rattle.std.specs.List.{All, list_all, slice_split, flat_map, join_with_byte}
use Rattle.std.proofs.lemmas.Bool.{and_parts, false≢true}
use Rattle.std.proofs.lemmas.Bool.Decides.{Decides-eqb}
use Rattle.std.proofs.lemmas.Grind.{reverse_onto}
use Rattle.std.proofs.lemmas.List.{append-nil}
use Rattle.std.proofs.lemmas.List.Elements.{All-nil, All-cons}
use Rattle.std.proofs.lemmas.List.Splits.{slice_split_at, slice_split_none, length-slice_split, join_with_byte-slice_split}
use Rattle.dirtree.specs.declared.tree_error.TreeError.TheVariants.{BadName}
use Rattle.dirtree.specs.Name.{is_name, is_name_byte, is_dots}
use Rattle.dirtree.specs.Tree.{Entry, IsTree, is_there, parent_of, name_of, child_of}
use Rattle.dirtree.specs.Path.{onward, walk, find, names_up, path_of}
use Rattle.dirtree.specs.Keeps.{key, key_at}
use Rattle.dirtree.proofs.Nodes.{place}
use Rattle.dirtree.proofs.Children.{keyed, child_is, child_by_key}
use Rattle.dirtree.proofs.Walks.{names_up-step}

walk_on : (es : List (Option Entry)) (xs ys : List (List ℕ)) (at to : ℕ) → walk es at xs ≡ Ok to → walk es at (xs ++ ys) ≡ walk es to ys
walk_on es [] ys at to h = let same : at ≡ to = cc in rw same refl
walk_on es (x ∷ xs) ys at to h = elim (is_name x) as
    (λ b. cond b (onward (child_of es at x) (λ c. walk es c xs)) (Err BadName) ≡ Ok to
    → cond b (onward (child_of es at x) (λ c. walk es c (xs ++ ys))) (Err BadName) ≡ walk es to ys) [
      | true ↦ λ is. elim (child_of es at x) as (λ o. onward o (λ c. walk es c xs) ≡ Ok to → onward o (λ c. walk es c (xs ++ ys)) ≡ walk es to ys) [
        | Some c ↦ λ more. walk_on es xs ys c to more
        | None ↦ λ bad. cc
      ] is
      | false ↦ λ bad. cc
    ] h

-- only names lead anywhere
walked_names : (es : List (Option Entry)) (xs : List (List ℕ)) (at to : ℕ) → walk es at xs ≡ Ok to → list_all is_name xs ≡ true
walked_names es [] at to h = refl
walked_names es (x ∷ xs) at to h = elim (is_name x) as
    (λ b. cond b (onward (child_of es at x) (λ c. walk es c xs)) (Err BadName) ≡ Ok to → (b && list_all is_name xs) ≡ true) [
      | true ↦ λ is. elim (child_of es at x) as (λ o. onward o (λ c. walk es c xs) ≡ Ok to → list_all is_name xs ≡ true) [
        | Some c ↦ λ more. walked_names es xs c to more
        | None ↦ λ bad. cc
      ] is
      | false ↦ λ bad. cc
    ] h

flipped : (b : _) → not b ≡ true → b ≡ false
flipped false h = refl
flipped true h = absurd (false≢true h)

no_slash : (text : List ℕ) → list_all is_name_byte text ≡ true → All (λ c. (c == 47) ≡ false) text
no_slash [] h = All-nil (λ c. (c == 47) ≡ false)
no_slash (c ∷ text) h =
    let both = and_parts (is_name_byte c) (list_all is_name_byte text) h in
    let printed = and_parts (nat_lt 32 c) (nat_lt c 127 && not (c == 47)) both.0 in
    let ended = and_parts (nat_lt c 127) (not (c == 47)) printed.1 in
    All-cons (λ c. (c == 47) ≡ false) c text (flipped (c == 47) ended.1) (no_slash text both.1)

name_whole : (name : List ℕ) → is_name name ≡ true → All (λ c. (c == 47) ≡ false) name
name_whole name h =
    let rest = and_parts (nat_lt 0 (length name) && nat_le (length name) 255) (list_all is_name_byte name && not (is_dots name)) h in
    no_slash name (and_parts (list_all is_name_byte name) (not (is_dots name)) rest.1).0

-- names, each after a slash, are split into the names
split_names : (name : List ℕ) (names : List (List ℕ)) → list_all is_name (name ∷ names) ≡ true
    → slice_split (λ c. c == 47) (name ++ flat_map (λ name. 47 ∷ name) names) ≡ name ∷ names
split_names name [] h =
    let both = and_parts (is_name name) true h in
    ap (slice_split (λ c. c == 47)) (append-nil name) ∙ slice_split_none (λ c. c == 47) name (name_whole name both.0)
split_names name (next ∷ names) h =
    let both = and_parts (is_name name) (list_all is_name (next ∷ names)) h in
    slice_split_at (λ c. c == 47) name 47 (next ++ flat_map (λ name. 47 ∷ name) names) (name_whole name both.0) refl
    ∙ ap (λ (parts : List (List ℕ)). name ∷ parts) (split_names next names both.1)

-- the names down to a directory lead to it
down : (es : List (Option Entry)) (n d : ℕ) → IsTree es → d ≤ n → is_there es d ≡ true → walk es 0 (reverse (names_up es d)) ≡ Ok d
down es n zero tree few there = refl
down es zero (suc d) tree few there = absurd (omega arith)
down es (suc n) (suc d) tree few there =
    let some : 0 < suc d = omega arith in
    let p : ℕ = parent_of es (suc d) in
    let above = tree.above (suc d) some there in
    let up : walk es 0 (reverse (names_up es p)) ≡ Ok p = down es n p tree (omega (arith, above)) (tree.parents (suc d) there) in
    let k = place es (suc d) there in
    let child : child_of es p (name_of es (suc d)) ≡ Some (suc d) = rw (k.1.parent_is, k.1.name_is) (child_by_key es (suc d) k.0 tree some k.1.key_is) in
    let last : walk es p (name_of es (suc d) ∷ []) ≡ Ok (suc d) = rw (tree.named (suc d) some there, child) refl in
    ap (λ (names : List (List ℕ)). walk es 0 (reverse names)) (names_up-step es (suc d) tree some)
    ∙ ap (walk es 0) (reverse_onto (names_up es p) (name_of es (suc d)) [])
    ∙ walk_on es (reverse (names_up es p)) (name_of es (suc d) ∷ []) 0 p up
    ∙ last

filled : (n : ℕ) → (suc n == 0) ≡ false
filled n = elim (suc n == 0) as (λ b. (suc n == 0) ≡ b → b ≡ false) [
  | true ↦ λ is. let none : suc n ≡ 0 = (Decides-eqb (suc n) 0).0 is in absurd (omega (arith, none))
  | false ↦ λ is. refl
] refl

read_back : (es : List (Option Entry)) (names : List (List ℕ)) (d : ℕ) → walk es 0 names ≡ Ok (suc d)
    → find es (flat_map (λ name. 47 ∷ name) names) ≡ Ok (suc d)
read_back es [] d h = cc
read_back es ([] ∷ names) d h = absurd (false≢true (walked_names es ([] ∷ names) 0 (suc d) h))
read_back es ((c ∷ name) ∷ names) d h =
    ap (λ b. cond b (Ok 0) (walk es 0 (slice_split (λ c. c == 47) (c ∷ (name ++ flat_map (λ name. 47 ∷ name) names)))))
    (filled (length (name ++ flat_map (λ name. 47 ∷ name) names)))
    ∙ ap (walk es 0) (split_names (c ∷ name) names (walked_names es ((c ∷ name) ∷ names) 0 (suc d) h)) ∙ h

path_back : (es : List (Option Entry)) (d : ℕ) → IsTree es → is_there es d ≡ true → find es (path_of es d) ≡ Ok d
path_back es zero tree there = refl
path_back es (suc d) tree there = read_back es (reverse (names_up es (suc d))) d (down es (suc d) (suc d) tree (omega arith) there)

-- the names that lead from one directory to another are those by which the other's way down is longer
record IsBelow (es : List (Option Entry)) (at to : ℕ) (names : List (List ℕ)) : Type 0 where
  there : is_there es to ≡ true
  names_are : reverse (names_up es to) ≡ reverse (names_up es at) ++ names

led : (es : List (Option Entry)) (names : List (List ℕ)) (at to : ℕ) → IsTree es → is_there es at ≡ true → walk es at names ≡ Ok to → IsBelow es at to names
led es [] at to tree there h = let same : at ≡ to = cc in record {
  there = subst (λ (d : ℕ). is_there es d ≡ true) same there;
  names_are = ap (λ (d : ℕ). reverse (names_up es d)) (sym same) ∙ sym (append-nil (reverse (names_up es at)));
}
led es (x ∷ xs) at to tree there h = elim (is_name x) as
    (λ b. cond b (onward (child_of es at x) (λ c. walk es c xs)) (Err BadName) ≡ Ok to → IsBelow es at to (x ∷ xs)) [
      | true ↦ λ is. elim (child_of es at x) as (λ o. child_of es at x ≡ o → onward o (λ c. walk es c xs) ≡ Ok to → IsBelow es at to (x ∷ xs)) [
        | Some c ↦ λ found more. stepped es at c to x xs tree (child_is es at c x found) (λ here. led es xs c to tree here more)
        | None ↦ λ _ bad. cc
      ] refl is
      | false ↦ λ bad. cc
    ] h
  where
    stepped : (es : List (Option Entry)) (at c to : ℕ) (x : List ℕ) (xs : List (List ℕ)) → IsTree es
        → (0 < c) × (key_at es c ≡ Some (key at x)) → (is_there es c ≡ true → IsBelow es c to xs) → IsBelow es at to (x ∷ xs)
    stepped es at c to x xs tree child rest =
        let here = keyed es c (key at x) child.1 in
        let more = rest here.there in
        let step : names_up es c ≡ x ∷ names_up es at = names_up-step es c tree child.0 ∙ rw (here.name_is, here.parent_is) refl in
        record {
          there = more.there;
          names_are = more.names_are ∙ ap (λ (names : List (List ℕ)). reverse names ++ xs) step
              ∙ ap (λ (names : List (List ℕ)). names ++ xs) (reverse_onto (names_up es at) x [])
              ∙ append_assoc (reverse (names_up es at)) (x ∷ []) xs;
        }

joined : (name : List ℕ) (names : List (List ℕ)) → flat_map (λ name. 47 ∷ name) (name ∷ names) ≡ 47 ∷ join_with_byte 47 (name ∷ names)
joined name [] = ap (λ (text : List ℕ). 47 ∷ text) (append-nil name)
joined name (next ∷ names) = ap (λ (text : List ℕ). 47 ∷ (name ++ text)) (joined next names)

split_joined : (names : List (List ℕ)) (text : List ℕ) → slice_split (λ c. c == 47) text ≡ names
    → (flat_map (λ name. 47 ∷ name) names ≡ 47 ∷ text) × (0 < length names)
split_joined [] text h = let some : length (slice_split (λ c. c == 47) text) ≡ 0 = ap (λ (names : List (List ℕ)). length names) h in
    absurd (omega (arith, some, length-slice_split (λ c. c == 47) text))
split_joined (name ∷ names) text h = (
  joined name names ∙ ap (λ (text : List ℕ). 47 ∷ text) (ap (join_with_byte 47) (sym h) ∙ join_with_byte-slice_split 47 text),
  omega arith,
)

path_by_names : (es : List (Option Entry)) (d : ℕ) (names : List (List ℕ)) → reverse (names_up es d) ≡ names → 0 < length names
    → path_of es d ≡ flat_map (λ name. 47 ∷ name) names
path_by_names es zero names h some = let none : 0 ≡ length names = ap (λ (names : List (List ℕ)). length names) h in absurd (omega (arith, none, some))
path_by_names es (suc d) names h some = ap (flat_map (λ name. 47 ∷ name)) h

empty : (text : List ℕ) → length text ≡ 0 → text ≡ []
empty [] h = refl
empty (c ∷ text) h = absurd (omega (arith, h))

only_path : (es : List (Option Entry)) (path : List ℕ) (d : ℕ) → IsTree es → find es path ≡ Ok d → (is_there es d ≡ true) × (path ≡ path_of es d)
only_path es [] d tree h = cc
only_path es (b ∷ path) d tree h = elim (b == 47) as
    (λ v. (b == 47) ≡ v → cond v (cond (length path == 0) (Ok 0) (walk es 0 (slice_split (λ c. c == 47) path))) (Err BadName) ≡ Ok d
    → (is_there es d ≡ true) × ((b ∷ path) ≡ path_of es d)) [
      | true ↦ λ slash. elim (length path == 0) as (λ v. (length path == 0) ≡ v
          → cond v (Ok 0) (walk es 0 (slice_split (λ c. c == 47) path)) ≡ Ok d → (is_there es d ≡ true) × ((b ∷ path) ≡ path_of es d)) [
            | true ↦ λ bare root.
                let same : 0 ≡ d = cc in
                let none : path ≡ [] = empty path ((Decides-eqb (length path) 0).0 bare) in
                rw (← same, none, (Decides-eqb b 47).0 slash) (ap is_some tree.rooted, refl)
            | false ↦ λ more walked.
                let below = led es (slice_split (λ c. c == 47) path) 0 d tree (ap is_some tree.rooted) walked in
                let whole = split_joined (slice_split (λ c. c == 47) path) path refl in (
                  below.there,
                  ap (λ (c : ℕ). c ∷ path) ((Decides-eqb b 47).0 slash) ∙ sym whole.0
                      ∙ sym (path_by_names es d (slice_split (λ c. c == 47) path) below.names_are whole.1),
                )
          ] refl
      | false ↦ λ other bad. cc
    ] refl h

-- a path leads to a directory exactly if it is that directory's path
pub path_leads : (es : List (Option Entry)) (path : List ℕ) (d : ℕ) → IsTree es → (find es path ≡ Ok d) ↔ ((is_there es d ≡ true) × (path ≡ path_of es d))
path_leads es path d tree = (only_path es path d tree, λ is. ap (find es) is.1 ∙ path_back es d tree is.0)
