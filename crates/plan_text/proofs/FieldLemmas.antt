-- The fields of a line, read one by one from the front.
use Rattle.std.proofs.Common.{◌≡◌, ◌∙◌, ℕ, zero, suc, ◌+◌, ◌-◌, ◌/◌, ◌%◌, ◌*◌, ◌<◌, ◌≤◌, ◌^◌, Bool, true, false, cond, List}
use Rattle.std.proofs.Common.{[], ◌∷◌, ◌++◌, codes, length, take, drop, refl, sym, ap, subst, arith, one-add, append_assoc, Option, Some, None}
use Rattle.std.specs.Prelude.{◌==◌, decimal, ℤ, pos, negsuc, neg_ℤ}
use Rattle.std.specs.Char.{digit_value}
use Rattle.std.specs.Fmt.{digit_glyph, digits, digits_onto, signed_decimal}
use Rattle.std.specs.Int.Signed.{mag}
use Rattle.std.specs.List.{after_first, before_first, list_all, position_or_len}
use Rattle.std.specs.Option.{option_and_then, option_map}
use Rattle.std.specs.Str.{IsAscii, bytes_eq}
use Rattle.std.specs.Str.Parse.{AllDigits, IsNumeral, digits_value, starts_with_minus, without_leading_plus}
use Rattle.std.proofs.lemmas.Bool.{and_from, and_parts, eqb-false, le-leb}
use Rattle.std.proofs.lemmas.Bool.Decides.{nat_tests}
use Rattle.std.proofs.lemmas.Fmt.{IsAscii-decimal, decimal_is_IsNumeral, digits_is_IsNumeral}
use Rattle.std.proofs.lemmas.Str.{IsUtf8-from_ascii, is_utf8-from_IsUtf8}
use Rattle.std.proofs.lemmas.Slice.Eq.{bytes_eq-Decides}
use Rattle.std.proofs.Math.Nat.{pow-succ'}
use Rattle.mds_types.specs.Mask.{is_hex, mask_bits}
use Rattle.plan_text.specs.Fields.{mask_in, ends_field, number_in, number_within, signed_in, read_value, behind_word}
use Rattle.plan_text.specs.Text.{behind, line}
use Rattle.plan_text.proofs.LineSame.{IsField, is_inside, decimal_field}
use Rattle.plan_text.proofs.NumberLemmas.{digits_tested, lt-ltb, number_written}

-- what is left of a line when its first fields are read
abbrev pub left : List (List ℕ) → List ℕ → List ℕ
left [] more = more
left (field ∷ fields) more = field ++ (behind fields ++ more)

-- one value after another
pub then_reads : {A B : Type 0} (r : Option A) (x : A) (f : A → Option B) (y : Option B) → r ≡ Some x → f x ≡ y → option_and_then f r ≡ y
then_reads r x f y e h = ap (option_and_then f) e ∙ h

inside_goes_on : (c : ℕ) → is_inside c ≡ true → ends_field c ≡ false
inside_goes_on c h = grind (arith, nat_tests)

field_place : (field : List ℕ) (e : ℕ) (more : List ℕ) → IsField field → ends_field e ≡ true → position_or_len ends_field (field ++ e ∷ more) ≡ length field
field_place [] e more f ends = rw ends refl
field_place (c ∷ field) e more f ends =
    let parts = and_parts (is_inside c) (list_all is_inside field) f in
    rw (inside_goes_on c parts.0, one-add) (ap suc (field_place field e more parts.1 ends))

front_of : (a b : List ℕ) → take (length a) (a ++ b) ≡ a
front_of [] b = refl
front_of (x ∷ a) b = ap (λ (t : List ℕ). x ∷ t) (front_of a b)

back_of : (a : List ℕ) (e : ℕ) (b : List ℕ) → drop (length a + 1) (a ++ e ∷ b) ≡ b
back_of [] e b = refl
back_of (x ∷ a) e b =
    let next : suc (length a) + 1 ≡ suc (length a + 1) = omega arith in
    ap (λ (n : ℕ). drop n (x ∷ (a ++ e ∷ b))) next ∙ back_of a e b

first_field : (field : List ℕ) (e : ℕ) (more : List ℕ) → IsField field → ends_field e ≡ true
    → (before_first ends_field (field ++ e ∷ more) ≡ field) × (after_first ends_field (field ++ e ∷ more) ≡ more)
first_field field e more f ends =
    let place = field_place field e more f ends in (
      ap (λ (n : ℕ). take n (field ++ e ∷ more)) place ∙ front_of field (e ∷ more),
      ap (λ (n : ℕ). drop (n + 1) (field ++ e ∷ more)) place ∙ back_of field e more,
    )

-- the first field that is left, and those after it
pub field_left : (field : List ℕ) (fields : List (List ℕ)) (more : List ℕ) → IsField field
    → (before_first ends_field (left (field ∷ fields) more) ≡ field)
    × (after_first ends_field (left (field ∷ fields) more) ≡ left fields more)
field_left field [] more f = first_field field 10 more f refl
field_left field (next ∷ fields) more f =
    let first = first_field field 32 ((next ++ behind fields) ++ more) f refl in
    (first.0, first.1 ∙ append_assoc next (behind fields) more)

pub value_left : {A : Type 0} (value : List ℕ → Option A) (x : A) (field : List ℕ) (fields : List (List ℕ)) (more : List ℕ) → IsField field
    → value field ≡ Some x → read_value value (left (field ∷ fields) more) ≡ Some (x, left fields more)
value_left {A} value x field fields more f is =
    let first = field_left field fields more f in
    then_reads (value (before_first ends_field (left (field ∷ fields) more))) x _ _ (ap value first.0 ∙ is) (ap (λ (rest : List ℕ). Some (x, rest)) first.1)

same_bytes : (a b : List ℕ) → a ≡ b → bytes_eq a b ≡ true
same_bytes a b h = (bytes_eq-Decides a b).1 h

-- a line's word, with the other fields after it
pub word_left : (word : List ℕ) (fields : List (List ℕ)) (more : List ℕ) → IsField word → behind_word word (left (word ∷ fields) more) ≡ Some (left fields more)
word_left word fields more f =
    let first = field_left word fields more f in
    rw (same_bytes (before_first ends_field (left (word ∷ fields) more)) word first.0) (ap (λ (rest : List ℕ). Some rest) first.1)

pub line_left : (word : List ℕ) (fields : List (List ℕ)) (more : List ℕ) → IsField word → behind_word word (line word fields ++ more) ≡ Some (left fields more)
line_left word fields more f = ap (behind_word word) (append_assoc word (behind fields) more) ∙ word_left word fields more f

not_plus : (c : ℕ) → digit_value c < 10 → (c == 43) ≡ false
not_plus c h = grind (arith, nat_tests)

not_minus : (c : ℕ) → digit_value c < 10 → (c == 45) ≡ false
not_minus c h = grind (arith, nat_tests)

no_plus : (digits : List ℕ) → IsNumeral 10 digits → without_leading_plus digits ≡ digits
no_plus [] numeral = refl
no_plus (c ∷ digits) numeral = rw (not_plus c numeral.1.0) refl

no_minus : (digits : List ℕ) → IsNumeral 10 digits → starts_with_minus digits ≡ false
no_minus [] numeral = refl
no_minus (c ∷ digits) numeral = not_minus c numeral.1.0

pub number_again : (limit n : ℕ) → n ≤ limit → limit < 2 ^ 64 → number_in limit (decimal n) ≡ Some n
unfolding number_in
number_again limit n small low =
    let own = decimal_is_IsNumeral n (omega arith) in
    let plain = no_plus (decimal n) own.0 in
    let text = is_utf8-from_IsUtf8 (decimal n) (IsUtf8-from_ascii (decimal n) (IsAscii-decimal n (omega arith))) in
    ap (λ (b : Bool). cond b (number_within limit (decimal n)) None) text
    ∙ sym (number_written limit (decimal n) n (subst (IsNumeral 10) (sym plain) own.0) (sym (ap (digits_value 10) plain ∙ own.1)) small)

-- a number that is left
pub number_left : (limit n : ℕ) (fields : List (List ℕ)) (more : List ℕ) → n ≤ limit → limit < 2 ^ 64
    → read_value (number_in limit) (left (decimal n ∷ fields) more) ≡ Some (n, left fields more)
number_left limit n fields more small low = value_left (number_in limit) n (decimal n) fields more (decimal_field n (omega arith))
    (number_again limit n small low)

-- a signed number that is left
pub signed_again : (z : ℤ) → mag z < 2 ^ 63 → signed_in (signed_decimal z) ≡ Some z
unfolding signed_in
signed_again (pos n) small =
    let plain = no_minus (decimal n) (decimal_is_IsNumeral n (omega arith)).0 in
    rw plain (ap (option_map (λ (m : ℕ). pos m)) (number_again (2 ^ 63 - 1) n (omega arith) (omega arith)))
signed_again (negsuc n) small = ap (option_map (λ (m : ℕ). neg_ℤ (pos m))) (number_again (2 ^ 63) (suc n) (omega arith) (omega arith))

sixteenth : (n m : ℕ) → n < 16 * m → n / 16 < m
sixteenth n m h = omega arith

-- the digits of a number below 16 ^ k are k at most
hex_length : (j k n : ℕ) (acc : List ℕ) → n < 16 ^ suc k → length (digits_onto j 16 false n acc) ≤ suc k + length acc
hex_length zero k n acc h = omega arith
hex_length (suc j) k n acc h = elim (n / 16 == 0) as
    (λ v. n / 16 == 0 ≡ v → length
    (cond v (digit_glyph false (n % 16) ∷ acc) (digits_onto j 16 false (n / 16) (digit_glyph false (n % 16) ∷ acc))) ≤ suc k + length acc) [
      | true ↦ λ e. omega arith
      | false ↦ λ e. longer k h (eqb-false (n / 16) 0 e) (λ m. hex_length j m (n / 16) (digit_glyph false (n % 16) ∷ acc))
    ] refl
  where
    longer : (k : ℕ) → n < 16 ^ suc k → (n / 16 ≡ 0 → ⊥)
        → ((m : ℕ) → n / 16 < 16 ^ suc m → length (digits_onto j 16 false (n / 16) (digit_glyph false (n % 16) ∷ acc)) ≤ suc m + suc
        (length acc)) → length (digits_onto j 16 false (n / 16) (digit_glyph false (n % 16) ∷ acc)) ≤ suc k + length acc
    longer zero h some more = absurd (some (omega arith))
    longer (suc k) h some more = let shorter = more k (sixteenth n (16 ^ suc k) (subst (λ (m : ℕ). n < m) (pow-succ' 16 (suc k)) h)) in omega (arith, shorter)

hex_short : (n : ℕ) → n < 2 ^ 64 → length (digits 16 false n) ≤ 16
unfolding digits
hex_short n h = let short = hex_length 64 15 n [] (omega arith) in omega (arith, short)

hex_tested : (n : ℕ) → n < 2 ^ 64 → is_hex (digits 16 false n) ≡ true
hex_tested n h =
    let numeral = (digits_is_IsNumeral 16 false (omega arith) (omega arith) n (omega arith)).0 in
    and_from _ _ (lt-ltb 0 (length (digits 16 false n)) numeral.0)
    (and_from _ _ (le-leb (length (digits 16 false n)) 16 (hex_short n h)) (digits_tested 16 (digits 16 false n) numeral.1))

hex_byte : (c : ℕ) → digit_value c < 16 → c < 128
hex_byte c h = grind (arith, nat_tests)

hex_ascii : (ds : List ℕ) → AllDigits 16 ds → IsAscii ds
hex_ascii [] all i = omega arith
hex_ascii (c ∷ ds) all zero = hex_byte c all.0
hex_ascii (c ∷ ds) all (suc i) = hex_ascii ds all.1 i

mask_ascii : (ds : List ℕ) → AllDigits 16 ds → IsAscii (48 ∷ 120 ∷ ds)
mask_ascii ds all zero = omega arith
mask_ascii ds all (suc zero) = omega arith
mask_ascii ds all (suc (suc i)) = hex_ascii ds all i

mask_read : (ds : List ℕ) → is_hex ds ≡ true → mask_bits (codes "0x" ++ ds) ≡ Some (digits_value 16 ds)
mask_read ds is = ap (λ (b : Bool). cond b (Some (digits_value 16 ds)) None) is

-- a mask that is read again
pub mask_again : (n : ℕ) → n < 2 ^ 64 → mask_in (codes "0x" ++ digits 16 false n) ≡ Some n
unfolding mask_in
mask_again n h =
    let ds : List ℕ = digits 16 false n in
    let own = digits_is_IsNumeral 16 false (omega arith) (omega arith) n (omega arith) in
    let text = is_utf8-from_IsUtf8 (48 ∷ 120 ∷ ds) (IsUtf8-from_ascii (48 ∷ 120 ∷ ds) (mask_ascii ds own.0.1)) in
    ap (λ (b : Bool). cond b (mask_bits (codes "0x" ++ ds)) None) text ∙ (mask_read ds (hex_tested n h) ∙ ap (λ (m : ℕ). Some m) own.1)
