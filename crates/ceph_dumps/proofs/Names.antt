-- Names as they are written in lists, and read back.
use Rattle.std.proofs.Common.{◌≡◌, ◌∙◌, ◌==◌, ◌<◌, ◌^◌, ◌&&◌, ◌++◌, ◌∷◌, ℕ, Bool, true, false, List, [], All, Option, Some, None, ap, arith, length, refl}
use Rattle.std.specs.Prelude.{decimal, is_some, nat_le, slice_index, if◌then◌else◌}
use Rattle.std.specs.Int.{IsInRange}
use Rattle.std.specs.List.{flat_map, list_any}
use Rattle.std.specs.Option.{unwrap_or}
use Rattle.std.specs.Str.Parse.{AllDigits}
use Rattle.std.proofs.lemmas.Bool.{eqb-true, or_parts}
use Rattle.std.proofs.lemmas.Bool.Decides.{nat_tests}
use Rattle.std.proofs.lemmas.Fmt.{digits_decimal}
use Rattle.std.proofs.lemmas.List.Elements.{All-append, All-cons, All-nil}
use Rattle.std.proofs.lemmas.Str.Parse.{IsDigitsTest, numerals_by_value, tells_digits}
use Rattle.ceph_dumps.specs.OwnList.{digit_count, has_octal, is_digit_to, name_byte, named_bytes, octal_byte}

and_no : (b : Bool) → (b && false) ≡ false
and_no true = refl
and_no false = refl

-- a byte that isn't a backslash begins no octal digits
no_octal : (c : ℕ) (cs : List ℕ) → (c == 92) ≡ false → octal_byte (c ∷ cs) ≡ None
no_octal c cs other =
    let none : has_octal (c ∷ cs) ≡ false =
    ap (λ (b : Bool). nat_le 4 (length (c ∷ cs))
    && (b && (is_digit_to 51 (slice_index (c ∷ cs) 1)
    && (is_digit_to 55 (slice_index (c ∷ cs) 2) && is_digit_to 55 (slice_index (c ∷ cs) 3))))) other
    ∙ and_no (nat_le 4 (length (c ∷ cs))) in
    rw none refl

-- a byte that isn't a backslash means itself
named_other : (c : ℕ) (cs : List ℕ) → (c == 92) ≡ false → named_bytes 0 (c ∷ cs) ≡ c ∷ named_bytes 0 cs
named_other c cs other =
    ap (λ (byte : Option ℕ). unwrap_or byte c ∷ named_bytes (if is_some byte then 3 else 0) cs) (no_octal c cs other)

-- a name without a backslash means itself
pub named_plain : (name : List ℕ) → list_any (λ byte. byte == 92) name ≡ false → named_bytes 0 name ≡ name
named_plain [] none = refl
named_plain (c ∷ cs) none =
    let parts : ((c == 92) ≡ false) × (list_any (λ byte. byte == 92) cs ≡ false) = or_parts (c == 92) (list_any (λ byte. byte == 92) cs) none in
    named_other c cs parts.0 ∙ ap (λ (rest : List ℕ). c ∷ rest) (named_plain cs parts.1)

-- an octal escape means its byte
escape_read : (byte x y z : ℕ) (rest : List ℕ) → octal_byte (92 ∷ x ∷ y ∷ z ∷ rest) ≡ Some byte
    → named_bytes 0 (92 ∷ x ∷ y ∷ z ∷ rest) ≡ byte ∷ named_bytes 0 rest
escape_read byte x y z rest is =
    ap (λ (byte : Option ℕ). unwrap_or byte 92 ∷ named_bytes (if is_some byte then 3 else 0) (x ∷ y ∷ z ∷ rest)) is

-- there are three digits behind the backslash
octal_if_long : (byte x y z : ℕ) (rest : List ℕ) → (if nat_le 4 (length (92 ∷ x ∷ y ∷ z ∷ rest)) && true then Some byte else None) ≡ Some byte
octal_if_long byte x y z rest =
    let long : nat_le 4 (length (92 ∷ x ∷ y ∷ z ∷ rest)) ≡ true = grind (arith, nat_tests) in
    ap (λ (b : Bool). if b && true then Some byte else None) long

-- what is written of a byte means that byte
named_byte : (c : ℕ) (rest : List ℕ) (slash line return : Bool) → (c == 92) ≡ slash → (c == 10) ≡ line → (c == 13) ≡ return
    → named_bytes 0 (name_byte c ++ rest) ≡ c ∷ named_bytes 0 rest
named_byte c rest true line return is _ _ = rw (eqb-true c 92 is) (escape_read 92 49 51 52 rest (octal_if_long 92 49 51 52 rest))
named_byte c rest false true return _ is _ = rw (eqb-true c 10 is) (escape_read 10 48 49 50 rest (octal_if_long 10 48 49 50 rest))
named_byte c rest false false true _ _ is = rw (eqb-true c 13 is) (escape_read 13 48 49 53 rest (octal_if_long 13 48 49 53 rest))
named_byte c rest false false false other line return = rw other (rw line (rw return (named_other c rest other)))

-- what is written of a path means that path
pub named_path : (path : List ℕ) → named_bytes 0 (flat_map name_byte path) ≡ path
named_path [] = refl
named_path (c ∷ cs) =
    named_byte c (flat_map name_byte cs) (c == 92) (c == 10) (c == 13) refl refl refl ∙ ap (λ (rest : List ℕ). c ∷ rest) (named_path cs)

-- digits, up to the blank after them
pub digits_counted : (digits rest : List ℕ) → AllDigits 10 digits → digit_count (digits ++ 32 ∷ rest) ≡ length digits
digits_counted [] rest all = refl
digits_counted (c ∷ cs) rest all =
    let both : IsInRange 48 57 c × AllDigits 10 cs = IsDigitsTest.parts tells_digits c cs all in
    let digit : is_digit_to 57 c ≡ true = grind (arith, nat_tests, both.0) in
    let next : digit_count (cs ++ 32 ∷ rest) ≡ length cs = digits_counted cs rest both.1 in
    rw digit (omega (arith, next))

-- no digit, and no byte of a written name, is a newline
pub no_newline_in_digits : (digits : List ℕ) → AllDigits 10 digits → All (λ c. (c == 10) ≡ false) digits
no_newline_in_digits [] all = All-nil _
no_newline_in_digits (c ∷ cs) all =
    let both : IsInRange 48 57 c × AllDigits 10 cs = IsDigitsTest.parts tells_digits c cs all in
    All-cons (λ c. (c == 10) ≡ false) c cs (grind (arith, nat_tests, both.0)) (no_newline_in_digits cs both.1)

pub no_blank_in_digits : (digits : List ℕ) → AllDigits 10 digits → All (λ c. (c == 32) ≡ false) digits
no_blank_in_digits [] all = All-nil _
no_blank_in_digits (c ∷ cs) all =
    let both : IsInRange 48 57 c × AllDigits 10 cs = IsDigitsTest.parts tells_digits c cs all in
    All-cons (λ c. (c == 32) ≡ false) c cs (grind (arith, nat_tests, both.0)) (no_blank_in_digits cs both.1)

-- four bytes without a newline
four : (a b c d : ℕ) → (a == 10) ≡ false → (b == 10) ≡ false → (c == 10) ≡ false → (d == 10) ≡ false → All (λ c. (c == 10) ≡ false) (a ∷ b ∷ c ∷ d ∷ [])
four a b c d first second third fourth =
    let is : ℕ → Type 0 = λ c. (c == 10) ≡ false in
    All-cons is a (b ∷ c ∷ d ∷ []) first (All-cons is b (c ∷ d ∷ []) second (All-cons is c (d ∷ []) third (All-cons is d [] fourth (All-nil is))))

no_newline_in_byte : (c : ℕ) (slash line return : Bool) → (c == 92) ≡ slash → (c == 10) ≡ line → (c == 13) ≡ return → All (λ c. (c == 10) ≡ false) (name_byte c)
no_newline_in_byte c true line return is _ _ = rw is (four 92 49 51 52 refl refl refl refl)
no_newline_in_byte c false true return other is _ = rw other (rw is (four 92 48 49 50 refl refl refl refl))
no_newline_in_byte c false false true other line is = rw other (rw line (rw is (four 92 48 49 53 refl refl refl refl)))
no_newline_in_byte c false false false other line return = rw other (rw line (rw return (All-cons (λ c. (c == 10) ≡ false) c [] line (All-nil _))))

pub no_newline_in_name : (path : List ℕ) → All (λ c. (c == 10) ≡ false) (flat_map name_byte path)
no_newline_in_name [] = All-nil _
no_newline_in_name (c ∷ cs) =
    All-append (λ c. (c == 10) ≡ false) (name_byte c) (flat_map name_byte cs)
    (no_newline_in_byte c (c == 92) (c == 10) (c == 13) refl refl refl) (no_newline_in_name cs)

-- a number is written in digits
pub decimal_digits : (number : ℕ) → number < 2 ^ 64 → AllDigits 10 (decimal number)
decimal_digits number small = digits_decimal (numerals_by_value _ tells_digits) number small
