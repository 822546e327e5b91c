-- A name of a row's directory is one field, and is read again.
use Rattle.std.proofs.Common.{◌≡◌, ◌∙◌, ℕ, suc, zero, ◌<◌, Bool, true, ◌&&◌, not, cond, List, []}
use Rattle.std.proofs.Common.{◌∷◌, codes, refl, ap, subst, sym, arith, Some, None, inl, inr, ◌⊎◌}
use Rattle.std.specs.Prelude.{nat_lt, ◌==◌}
use Rattle.std.specs.List.{list_all}
use Rattle.std.specs.Str.{IsAscii, bytes_eq}
use Rattle.std.proofs.lemmas.Bool.{and_from, and_parts, or_cases}
use Rattle.std.proofs.lemmas.Bool.Decides.{nat_tests}
use Rattle.std.proofs.lemmas.Slice.Eq.{bytes_eq-Decides}
use Rattle.std.proofs.lemmas.Str.{IsUtf8-from_ascii, is_utf8-from_IsUtf8}
use Rattle.dirtree.specs.Name.{has_name_length, is_dots, is_name, is_name_byte}
use Rattle.plan_text.specs.Fields.{checked_name, name_in}
use Rattle.plan_text.specs.RowNames.{IsRowName, is_row_name}
use Rattle.plan_text.proofs.LineSame.{IsField, is_inside}

-- the slash, or bytes that are seen in print
seen : (name : List ℕ) → IsRowName name → (name ≡ codes "/") ⊎ (list_all is_name_byte name ≡ true)
unfolding is_row_name
seen name h = elim (or_cases (bytes_eq name (codes "/")) (is_name name) h) [
  | inl slash ↦ inl ((bytes_eq-Decides name (codes "/")).0 slash)
  | inr is ↦ inr (and_parts (list_all is_name_byte name) (not (is_dots name))
      (and_parts (has_name_length name) (list_all is_name_byte name && not (is_dots name)) is).1).0
]

bytes_inside : (name : List ℕ) → list_all is_name_byte name ≡ true → IsField name
bytes_inside [] h = refl
bytes_inside (c ∷ name) h =
    let parts = and_parts (is_name_byte c) (list_all is_name_byte name) h in
    and_from (is_inside c) (list_all is_inside name) (and_parts (nat_lt 32 c) (nat_lt c 127 && not (c == 47)) parts.0).0 (bytes_inside name parts.1)

byte_small : (c : ℕ) → is_name_byte c ≡ true → c < 128
byte_small c h = grind (arith, nat_tests)

bytes_ascii : (name : List ℕ) → list_all is_name_byte name ≡ true → IsAscii name
bytes_ascii [] h i = omega arith
bytes_ascii (c ∷ name) h zero = byte_small c (and_parts (is_name_byte c) (list_all is_name_byte name) h).0
bytes_ascii (c ∷ name) h (suc i) = bytes_ascii name (and_parts (is_name_byte c) (list_all is_name_byte name) h).1 i

slash_ascii : IsAscii (codes "/")
slash_ascii zero = omega arith
slash_ascii (suc i) = omega arith

pub row_name_field : (name : List ℕ) → IsRowName name → IsField name
row_name_field name h = elim (seen name h) [
  | inl slash ↦ subst IsField (sym slash) refl
  | inr is ↦ bytes_inside name is
]

name_ascii : (name : List ℕ) → IsRowName name → IsAscii name
name_ascii name h = elim (seen name h) [
  | inl slash ↦ subst IsAscii (sym slash) slash_ascii
  | inr is ↦ bytes_ascii name is
]

pub row_name_again : (name : List ℕ) → IsRowName name → name_in name ≡ Some name
unfolding name_in
row_name_again name h =
    let text = is_utf8-from_IsUtf8 name (IsUtf8-from_ascii name (name_ascii name h)) in
    ap (λ (b : Bool). cond b (checked_name name) None) text ∙ ap (λ (b : Bool). cond b (Some name) None) h
