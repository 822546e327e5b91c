-- What `parse` says of the text of a number.
use Rattle.std.proofs.Common.{◌≡◌, ◌∙◌, ℕ, suc, ◌<◌, ◌≤◌, ◌^◌, Bool, true, false, ◌&&◌, cond, List}
use Rattle.std.proofs.Common.{[], ◌∷◌, length, refl, ap, subst, arith, Option, Some, None, Result, Ok, Err}
use Rattle.std.specs.Prelude.{nat_lt}
use Rattle.std.specs.Char.{digit_value}
use Rattle.std.specs.List.{list_all}
use Rattle.std.specs.Str.{IsUtf8, is_utf8}
use Rattle.std.specs.Str.Parse.{AllDigits, IsNumeral, ParsesUnsigned, digits_value, without_leading_plus}
use Rattle.std.proofs.lemmas.Bool.{and_from, and_parts, le-leb, leb-true, ltb-true}
use Rattle.std.proofs.lemmas.Result.{OkIff-at_ok, OkIff-at_err}
use Rattle.std.proofs.lemmas.Str.{IsUtf8-from_is_utf8, is_utf8-from_IsUtf8}
use Rattle.plan_text.specs.Fields.{is_numeral, number_within}

pub lt-ltb : (a b : ℕ) → a < b → nat_lt a b ≡ true
lt-ltb a b h = le-leb (suc a) b h

pub digits_tested : (base : ℕ) (digits : List ℕ) → AllDigits base digits → list_all (λ c. nat_lt (digit_value c) base) digits ≡ true
digits_tested base [] all = refl
digits_tested base (c ∷ cs) all = and_from _ _ (lt-ltb (digit_value c) base all.0) (digits_tested base cs all.1)

tested_digits : (digits : List ℕ) → list_all (λ c. nat_lt (digit_value c) 10) digits ≡ true → AllDigits 10 digits
tested_digits [] is = tt
tested_digits (c ∷ cs) is = (ltb-true (digit_value c) 10 (and_parts _ _ is).0, tested_digits cs (and_parts _ _ is).1)

pub numeral_tested : (digits : List ℕ) → IsNumeral 10 digits → is_numeral digits ≡ true
numeral_tested digits numeral = and_from _ _ (lt-ltb 0 (length digits) numeral.0) (digits_tested 10 digits numeral.1)

tested_numeral : (digits : List ℕ) → is_numeral digits ≡ true → IsNumeral 10 digits
tested_numeral digits is = (ltb-true 0 (length digits) (and_parts _ _ is).0, tested_digits digits (and_parts _ _ is).1)

guard_some : (a b : Bool) (x : ℕ) → a ≡ true → b ≡ true → Some x ≡ cond (a && b) (Some x) None
guard_some a b x p q = rw (p, q) refl

guard_none : (a b : Bool) (x : ℕ) → (a ≡ true → b ≡ true → ⊥) → None ≡ cond (a && b) (Some x) None
guard_none false b x h = refl
guard_none true false x h = refl
guard_none true true x h = absurd (h refl refl)

-- a number within the limit is written
pub number_written : (limit : ℕ) (text : List ℕ) (x : ℕ) → IsNumeral 10 (without_leading_plus text)
    → x ≡ digits_value 10 (without_leading_plus text) → x ≤ limit → Some x ≡ number_within limit text
unfolding number_within
number_written limit text x numeral value small =
    ap Some value ∙ guard_some _ _ _ (numeral_tested _ numeral)
    (le-leb (digits_value 10 (without_leading_plus text)) limit (subst (λ n. n ≤ limit) value small))

module _ {E : Type 0} (limit : ℕ) (text : List ℕ) (r : Result ℕ E) (h : ParsesUnsigned 64 10 text r) where
  pub number_parsed : (x : ℕ) → r ≡ Ok x → x ≤ limit → Some x ≡ number_within limit text
  number_parsed x e small = let is = OkIff-at_ok r _ _ x h e in number_written limit text x is.0.0 is.1 small

  pub number_large : (x : ℕ) → r ≡ Ok x → limit < x → None ≡ number_within limit text
  unfolding number_within
  number_large x e large =
      let value : x ≡ digits_value 10 (without_leading_plus text) = (OkIff-at_ok r _ _ x h e).1 in
      guard_none _ _ _ (λ p q. let small : digits_value 10 (without_leading_plus text) ≤ limit = leb-true _ limit q in omega (arith, value, small, large))

  pub number_refused : (e : E) → r ≡ Err e → limit < 2 ^ 64 → None ≡ number_within limit text
  unfolding number_within
  number_refused e is low =
      guard_none _ _ _ (λ p q. OkIff-at_err r _ _ e h is (
        tested_numeral _ p,
        (let small : digits_value 10 (without_leading_plus text) ≤ limit = leb-true _ limit q in
            omega (arith, small, low)),
      ))

-- a field that is text, and one that isn't
pub read_text : {A : Type 0} (read : List ℕ → Option A) (field : List ℕ) → IsUtf8 field → read field ≡ cond (is_utf8 field) (read field) None
read_text read field is = rw (is_utf8-from_IsUtf8 field is) refl

no_text : {A : Type 0} (test : Bool) (x : Option A) → (test ≡ true → ⊥) → None ≡ cond test x None
no_text false x h = refl
no_text true x h = absurd (h refl)

pub read_no_text : {A : Type 0} (read : List ℕ → Option A) (field : List ℕ) → (IsUtf8 field → ⊥) → None ≡ cond (is_utf8 field) (read field) None
read_no_text read field not = no_text (is_utf8 field) (read field) (λ e. not (IsUtf8-from_is_utf8 field e))
