-- Lines without bytes past those that are seen in print.
use Rattle.std.proofs.Common.{◌≡◌, ℕ, zero, suc, ◌<◌, Bool, true, false, not, cond, List, [], ◌∷◌, length, map, get_or, refl, arith, Bor}
use Rattle.std.specs.Prelude.{filter}
use Rattle.std.specs.List.{list_all, slice_split, onto_first}
use Rattle.std.specs.Str.{IsAscii, IsUtf8}
use Rattle.std.proofs.lemmas.Str.{IsUtf8-from_ascii}
use Rattle.std.proofs.lemmas.Bool.{and_parts, and_from}
use Rattle.std.proofs.lemmas.Bool.Decides.{nat_tests}
use Rattle.script_commands.specs.Commands.{is_blank, is_empty, is_plain, fields}

plain_below : (b : ℕ) → is_plain b ≡ true → b < 128
plain_below b h = grind (arith, nat_tests)

plain_ascii : (bs : List ℕ) → list_all is_plain bs ≡ true → IsAscii bs
plain_ascii [] e i = omega arith
plain_ascii (b ∷ bs) e zero = let below = plain_below b (and_parts _ _ e).0 in omega (arith, below)
plain_ascii (b ∷ bs) e (suc i) = plain_ascii bs (and_parts _ _ e).1 i

pub plain_text : (bs : List ℕ) → list_all is_plain bs ≡ true → IsUtf8 bs
plain_text bs e = IsUtf8-from_ascii bs (plain_ascii bs e)

onto_first_plain : (b : ℕ) (parts : List (List ℕ)) → is_plain b ≡ true → list_all (list_all is_plain) parts ≡ true
    → list_all (list_all is_plain) (onto_first b parts) ≡ true
onto_first_plain b [] plain all = and_from _ _ (and_from _ _ plain refl) refl
onto_first_plain b (part ∷ parts) plain all = and_from _ _ (and_from _ _ plain (and_parts _ _ all).0) (and_parts _ _ all).1

split_plain : (line : List ℕ) → list_all is_plain line ≡ true → list_all (list_all is_plain) (slice_split is_blank line) ≡ true
split_plain [] e = refl
split_plain (b ∷ line) e =
    elim (is_blank b) as (λ v. list_all (list_all is_plain)
    (cond v ([] ∷ slice_split is_blank line) (onto_first b (slice_split is_blank line))) ≡ true) [
      | true ↦ split_plain line (and_parts _ _ e).1
      | false ↦ onto_first_plain b (slice_split is_blank line) (and_parts _ _ e).0 (split_plain line (and_parts _ _ e).1)
    ]

filter_plain : (test : List ℕ → Bool) (parts : List (List ℕ)) → list_all (list_all is_plain) parts ≡ true
    → list_all (list_all is_plain) (filter test parts) ≡ true
filter_plain test [] e = refl
filter_plain test (part ∷ parts) e = elim (test part) as (λ v. list_all (list_all is_plain) (cond v (part ∷ filter test parts) (filter test parts)) ≡ true) [
  | true ↦ and_from _ _ (and_parts _ _ e).0 (filter_plain test parts (and_parts _ _ e).1)
  | false ↦ filter_plain test parts (and_parts _ _ e).1
]

-- the fields of a plain line are plain
pub fields_plain : (line : List ℕ) → list_all is_plain line ≡ true → list_all (list_all is_plain) (fields line) ≡ true
fields_plain line e = filter_plain (λ part. not (is_empty part)) (slice_split is_blank line) (split_plain line e)

pub rest_plain : (line word : List ℕ) (rest : List (List ℕ)) → fields line ≡ word ∷ rest → list_all is_plain line ≡ true
    → list_all (list_all is_plain) rest ≡ true
rest_plain line word rest split e = (and_parts (list_all is_plain word) (list_all (list_all is_plain) rest) (rw split at (fields_plain line e))).1

pub plain_at : (parts : List (Bor (List ℕ))) (i : ℕ) (d : Bor (List ℕ)) → i < length parts
    → list_all (list_all is_plain) (map (λ (field : Bor (List ℕ)). field.now) parts) ≡ true
    → list_all is_plain (get_or parts i d).now ≡ true
plain_at [] i d h e = absurd (omega arith)
plain_at (part ∷ parts) zero d h e = (and_parts _ _ e).0
plain_at (part ∷ parts) (suc i) d h e = plain_at parts i d (omega arith) (and_parts _ _ e).1
