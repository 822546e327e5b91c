-- Numbers that are read, and the tests that say which they are.
use Rattle.std.proofs.Common.{◌≡◌, ◌<◌, ◌&&◌, ◌^◌, ℕ, ℤ, pos, negsuc, Bool, true, false, List, [], ◌∷◌, length, Option, Some, None}
use Rattle.std.proofs.Common.{Result, Ok, Err, ap, arith, refl, sym, ◌∙◌, w64, ok_or, MatchOption, option_and_then}
use Rattle.std.proofs.Common.{FitsSigned, ⊎_elim, if◌then◌else◌}
use Rattle.std.proofs.lemmas.Bool.{and_from, and_parts, cases_Bool, lt-ltb, ltb-true}
use Rattle.std.specs.Char.{digit_value}
use Rattle.std.specs.List.{list_all}
use Rattle.std.specs.Prelude.{nat_lt}
use Rattle.std.specs.Str.Parse.{AllDigits, IsNumeral, ParsesSigned, ParsesUnsigned, digits_value, signed_digits_value}
use Rattle.std.specs.Str.Parse.{without_leading_plus, without_leading_sign}
use Rattle.ceph_dumps.specs.Numbers.{fits_64, is_digits, is_unsigned, is_whole, unsigned_of, whole_of}

all_digits : (text : List ℕ) → list_all (λ c. nat_lt (digit_value c) 10) text ≡ true → AllDigits 10 text
all_digits [] e = tt
all_digits (c ∷ text) e =
    let parts = and_parts (nat_lt (digit_value c) 10) (list_all (λ c. nat_lt (digit_value c) 10) text) e in
    (ltb-true (digit_value c) 10 parts.0, all_digits text parts.1)

digits_all : (text : List ℕ) → AllDigits 10 text → list_all (λ c. nat_lt (digit_value c) 10) text ≡ true
digits_all [] d = refl
digits_all (c ∷ text) d = and_from (nat_lt (digit_value c) 10) _ (lt-ltb (digit_value c) 10 d.0) (digits_all text d.1)

pub numeral : (text : List ℕ) → is_digits text ≡ true → IsNumeral 10 text
numeral text e =
    let parts = and_parts (nat_lt 0 (length text)) (list_all (λ c. nat_lt (digit_value c) 10) text) e in
    (ltb-true 0 (length text) parts.0, all_digits text parts.1)

pub are_digits : (text : List ℕ) → IsNumeral 10 text → is_digits text ≡ true
are_digits text n = and_from (nat_lt 0 (length text)) _ (lt-ltb 0 (length text) n.0) (digits_all text n.1)

fits : (z : ℤ) → fits_64 z ≡ true → FitsSigned w64 z
fits (pos n) e = record { sfits = ltb-true n (2 ^ 63) e }
fits (negsuc n) e = record { sfits = ltb-true n (2 ^ 63) e }

fit : (z : ℤ) → FitsSigned w64 z → fits_64 z ≡ true
fit (pos n) f = lt-ltb n (2 ^ 63) f.sfits
fit (negsuc n) f = lt-ltb n (2 ^ 63) f.sfits

if_not : {A : Type 0} (b : Bool) (a : A) → (b ≡ true → ⊥) → None ≡ (if b then Some a else None)
if_not b a never = ⊎_elim (λ (e : b ≡ true). absurd (never e)) (λ (e : b ≡ false). rw e refl) (cases_Bool b)

if_so : {A : Type 0} (b : Bool) (a : A) → b ≡ true → Some a ≡ (if b then Some a else None)
if_so b a e = rw e refl

whole_is : (r : Option ℤ) (text : List ℕ) → ParsesSigned w64 10 text (ok_or r text) → r ≡ whole_of text
whole_is None text never =
    if_not (is_whole text) (signed_digits_value 10 text) (λ e.
    let parts = and_parts (is_digits (without_leading_sign text)) (fits_64 (signed_digits_value 10 text)) e in
    never (numeral (without_leading_sign text) parts.0, fits (signed_digits_value 10 text) parts.1))
whole_is (Some z) text is =
    ap Some is.1 ∙ if_so (is_whole text) (signed_digits_value 10 text)
    (and_from (is_digits (without_leading_sign text)) _ (are_digits (without_leading_sign text) is.0.0) (fit (signed_digits_value 10 text) is.0.1))

pub whole_from : (number : Option (List ℕ)) (r : Option ℤ)
    → MatchOption number (r ≡ None) (λ text. ParsesSigned w64 10 text (ok_or r text)) → r ≡ option_and_then whole_of number
whole_from None r is = is
whole_from (Some text) r is = whole_is r text is

true_and : (a b : Bool) → a ≡ true → (a && b) ≡ b
true_and a b e = rw e refl

-- a number of 64 bits, and then of 32
abbrev narrow : Result ℕ (List ℕ) → Option ℕ
narrow (Ok n) = if nat_lt n (2 ^ 32) then Some n else None
narrow (Err e) = None

unsigned_is : (r : Result ℕ (List ℕ)) (text : List ℕ) → ParsesUnsigned 64 10 text r → narrow r ≡ unsigned_of text
unsigned_is (Err e) text never =
    if_not (is_unsigned text) (digits_value 10 (without_leading_plus text)) (λ e.
    let parts = and_parts (is_digits (without_leading_plus text)) (nat_lt (digits_value 10 (without_leading_plus text)) (2 ^ 32)) e in
    let small : digits_value 10 (without_leading_plus text) < 2 ^ 32 = ltb-true _ (2 ^ 32) parts.1 in
    never (numeral (without_leading_plus text) parts.0, omega (arith, small)))
unsigned_is (Ok n) text is =
    let v = digits_value 10 (without_leading_plus text) in
    ap (λ (m : ℕ). narrow (Ok m)) is.1
    ∙ ap (λ (b : Bool). if b then Some v else None)
    (sym (true_and (is_digits (without_leading_plus text)) (nat_lt v (2 ^ 32)) (are_digits (without_leading_plus text) is.0.0)))

pub unsigned_if : (number : Option (List ℕ)) (r : Option ℕ)
    → MatchOption number (r ≡ None) (λ text. ParsesUnsigned 64 10 text (ok_or r text)) → (n : ℕ) → r ≡ Some n
    → option_and_then unsigned_of number ≡ (if nat_lt n (2 ^ 32) then Some n else None)
unsigned_if None r missing n is = absurd (cc)
unsigned_if (Some text) r parses n is = sym (unsigned_is (ok_or r text) text parses) ∙ ap (λ (o : Option ℕ). narrow (ok_or o text)) is

pub unsigned_none : (number : Option (List ℕ)) (r : Option ℕ)
    → MatchOption number (r ≡ None) (λ text. ParsesUnsigned 64 10 text (ok_or r text)) → r ≡ None
    → option_and_then unsigned_of number ≡ None
unsigned_none None r missing is = refl
unsigned_none (Some text) r parses is = sym (unsigned_is (ok_or r text) text parses) ∙ ap (λ (o : Option ℕ). narrow (ok_or o text)) is
