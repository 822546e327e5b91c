-- Reading a mask.
use Rattle.std.proofs.Common.{◌≡◌, ℕ, suc, ◌^◌, ◌<◌, ◌≤◌, ◌==◌, true, false, nat_lt, if◌then◌else◌, List, []}
use Rattle.std.proofs.Common.{◌∷◌, length, refl, ap, arith, Result, Ok, Err, Some, None, inl, inr}
use Rattle.std.specs.Prelude.{slice_index}
use Rattle.std.specs.List.{list_all}
use Rattle.std.specs.Char.{digit_value}
use Rattle.std.specs.Result.{result_ok}
use Rattle.std.specs.Str.Parse.{ParsesUnsigned, IsNumeral, AllDigits, digits_value}
use Rattle.std.proofs.lemmas.Int.Digits.{digits_value-lt}
use Rattle.std.proofs.lemmas.Bool.{and_parts, and_from, cases_Bool, ltb-true, le-leb}
use Rattle.std.proofs.Math.Nat.{pow-le-pow_right}
use Rattle.mds_types.specs.Mask.{is_hex}

lt-ltb : (a b : ℕ) → a < b → nat_lt a b ≡ true
lt-ltb a b h = le-leb (suc a) b h

digits_tested : (digits : List ℕ) → AllDigits 16 digits → list_all (λ c. nat_lt (digit_value c) 16) digits ≡ true
digits_tested [] all = refl
digits_tested (c ∷ cs) all = and_from _ _ (lt-ltb (digit_value c) 16 all.0) (digits_tested cs all.1)

tested_digits : (digits : List ℕ) → list_all (λ c. nat_lt (digit_value c) 16) digits ≡ true → AllDigits 16 digits
tested_digits [] is = tt
tested_digits (c ∷ cs) is = (ltb-true (digit_value c) 16 (and_parts _ _ is).0, tested_digits cs (and_parts _ _ is).1)

hex_tested : (digits : List ℕ) → IsNumeral 16 digits → length digits ≤ 16 → is_hex digits ≡ true
hex_tested digits numeral few = and_from _ _ (lt-ltb 0 (length digits) numeral.0)
    (and_from _ _ (le-leb (length digits) 16 few) (digits_tested digits numeral.1))

tested_hex : (digits : List ℕ) → is_hex digits ≡ true → IsNumeral 16 digits
tested_hex digits is =
    let some = and_parts _ _ is in
    let few = and_parts _ _ some.1 in
    (ltb-true 0 (length digits) some.0, tested_digits digits few.1)

-- 16 hexadecimal digits are below 2 ^ 64
hex_fits : (digits : List ℕ) → IsNumeral 16 digits → length digits ≤ 16 → digits_value 16 digits < 2 ^ 64
hex_fits digits numeral few =
    let below : digits_value 16 digits < 16 ^ length digits = digits_value-lt 16 digits numeral.1 in
    let most : 16 ^ length digits ≤ 16 ^ 16 = pow-le-pow_right (omega arith) few in
    omega arith

-- what `from_str_radix` reads of up to 16 bytes that begin with no plus
pub hex_read : {E : Type 0} (digits : List ℕ) (r : Result ℕ E) → ParsesUnsigned 64 16 digits r → (slice_index digits 0 == 43) ≡ false → length digits ≤ 16
    → result_ok r ≡ (if is_hex digits then Some (digits_value 16 digits) else None)
hex_read digits (Ok x) parses plain few =
    let read = rw plain at parses in
    rw (hex_tested digits read.0.0 few) (ap Some read.1)
hex_read digits (Err e) parses plain few =
    let refuses = rw plain at parses in
    elim (cases_Bool (is_hex digits)) [
      | inl hex ↦
          let numeral = tested_hex digits hex in
          absurd (refuses (numeral, hex_fits digits numeral few))
      | inr not ↦ rw not refl
    ]
