-- The fields of a text, taken one by one from the front, and what they write.
use Rattle.std.specs.Prelude.{ℕ, ℤ, pos, neg_ℤ, ◌-◌, ◌^◌, Bool, ◌&&◌, ◌||◌, ◌==◌, nat_lt, nat_le, if◌then◌else◌}
use Rattle.std.specs.Prelude.{List, length, drop, Option, Some, None, option_map, option_and_then}
use Rattle.std.specs.Borrow.{Bor}
use Rattle.std.specs.Char.{digit_value}
use Rattle.std.specs.List.{after_first, before_first, list_all}
use Rattle.std.specs.Str.{bytes_eq, is_utf8}
use Rattle.std.specs.Str.Parse.{digits_value, starts_with_minus, without_leading_plus}
use Rattle.mds_types.specs.Mask.{mask_bits}
use Rattle.plan_text.specs.RowNames.{is_row_name}

-- a value and the text after it
abbrev pub Read : Type 0 → Type 0
Read A = Option (A × List ℕ)

-- what a function read, with its value seen through view
abbrev pub read_view : {A B : Type 0} → (A → B) → Option (A × Bor (List ℕ)) → Read B
read_view view r = option_map (λ p. (view p.0, p.1.now)) r

infixl 10 ◌>>=◌
abbrev ◌>>=◌ : {A B : Type 0} → Option A → (A → Option B) → Option B
o >>= f = option_and_then f o

-- a blank or a newline
abbrev pub ends_field : ℕ → Bool
ends_field b = (b == 32) || (b == 10)

-- what the first field writes
abbrev pub read_value : {A : Type 0} → (List ℕ → Option A) → List ℕ → Read A
read_value value text = do
  x ← value (before_first ends_field text)
  Some (x, after_first ends_field text)

-- what comes after a word
abbrev pub behind_word : List ℕ → List ℕ → Option (List ℕ)
behind_word word text =
    if bytes_eq (before_first ends_field text) word then Some (after_first ends_field text) else None

abbrev pub is_numeral : List ℕ → Bool
is_numeral digits = nat_lt 0 (length digits) && list_all (λ c. nat_lt (digit_value c) 10) digits

-- the number that a text writes, where it is at most the limit; a plus may come first
unfoldable pub number_within : ℕ → List ℕ → Option ℕ
number_within limit text =
    let digits = without_leading_plus text in
    if is_numeral digits && nat_le (digits_value 10 digits) limit then Some (digits_value 10 digits) else None

-- the number that a field writes
unfoldable pub number_in : ℕ → List ℕ → Option ℕ
number_in limit field = if is_utf8 field then number_within limit field else None

-- the signed number of 64 bits that a field writes
unfoldable pub signed_in : List ℕ → Option ℤ
signed_in field =
    if starts_with_minus field
    then option_map (λ n. neg_ℤ (pos n)) (number_in (2 ^ 63) (drop 1 field))
    else option_map (λ n. pos n) (number_in (2 ^ 63 - 1) field)

-- the set of ranks that a field writes
unfoldable pub mask_in : List ℕ → Option ℕ
mask_in field = if is_utf8 field then mask_bits field else None

-- a name of a row's directory
abbrev pub checked_name : List ℕ → Option (List ℕ)
checked_name text = if is_row_name text then Some text else None

-- the name that a field writes
unfoldable pub name_in : List ℕ → Option (List ℕ)
name_in field = if is_utf8 field then checked_name field else None
