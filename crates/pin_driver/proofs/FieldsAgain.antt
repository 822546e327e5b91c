-- Fields that are written are read again.
use Rattle.std.proofs.Common.{◌≡◌, ◌∙◌, ℕ, suc, ◌+◌, ◌-◌, ◌*◌, ◌/◌, ◌%◌, ◌<◌, ◌≤◌, ◌^◌, Bool, true, false, not, ◌&&◌, cond}
use Rattle.std.proofs.Common.{List, [], ◌∷◌, ◌++◌, codes, length, take, drop, refl, sym, ap, subst, arith, one-add, append_assoc, Option, Some, None}
use Rattle.std.specs.Prelude.{◌==◌, decimal, nat_le, slice_index, IfSome}
use Rattle.std.specs.Char.{digit_value}
use Rattle.std.specs.List.{after_first, before_first, list_all, position_or_len}
use Rattle.std.specs.Option.{option_map}
use Rattle.std.specs.Str.{bytes_eq}
use Rattle.std.specs.Str.Parse.{AllDigits, IsNumeral, digits_value_after}
use Rattle.std.proofs.lemmas.Bool.{and_from, and_parts, le-leb, lt-ltb, false_from_ne_true}
use Rattle.std.proofs.lemmas.Bool.Decides.{nat_tests}
use Rattle.std.proofs.lemmas.Fmt.{decimal_is_IsNumeral}
use Rattle.std.proofs.lemmas.List.Elements.{All-head, All-tail}
use Rattle.std.proofs.lemmas.Slice.Eq.{bytes_eq-Decides}
use Rattle.pin_driver.specs.StoredReading.{escape_value, field_bytes, field_number, field_rank, closes_field, is_escape, is_octal_to}
use Rattle.pin_driver.specs.StoredReading.{meant_bytes, next_digit, number_onto, or_dash, read_field, skip_word}
use Rattle.pin_driver.specs.StoredText.{AreBytes, field_text, is_kept, kept_bytes, last_text, number_or_dash}
use Rattle.pin_driver.proofs.Many.{then_reads}

-- a field has no byte that ends it
abbrev goes_on : ℕ → Bool
goes_on c = not (closes_field c)

abbrev pub IsField : List ℕ → Type 0
IsField field = list_all goes_on field ≡ true

field_place : (field : List ℕ) (e : ℕ) (more : List ℕ) → IsField field → closes_field e ≡ true → position_or_len closes_field (field ++ e ∷ more) ≡
    length field
field_place [] e more f ends = rw ends refl
field_place (c ∷ field) e more f ends =
    let parts = and_parts (goes_on c) (list_all goes_on field) f in
    rw (parts.0, one-add) (ap suc (field_place field e more parts.1 ends))

front_of : (a b : List ℕ) → take (length a) (a ++ b) ≡ a
front_of [] b = refl
front_of (x ∷ a) b = ap (λ (t : List ℕ). x ∷ t) (front_of a b)

back_of : (a : List ℕ) (e : ℕ) (b : List ℕ) → drop (length a + 1) (a ++ e ∷ b) ≡ b
back_of [] e b = refl
back_of (x ∷ a) e b =
    let next : suc (length a) + 1 ≡ suc (length a + 1) = omega arith in
    ap (λ (n : ℕ). drop n (x ∷ (a ++ e ∷ b))) next ∙ back_of a e b

first_field : (field : List ℕ) (e : ℕ) (more : List ℕ) → IsField field → closes_field e ≡ true →
    (before_first closes_field (field ++ e ∷ more) ≡ field) × (after_first closes_field (field ++ e ∷ more) ≡ more)
first_field field e more f ends =
    let place = field_place field e more f ends in (
      ap (λ (n : ℕ). take n (field ++ e ∷ more)) place ∙ front_of field (e ∷ more),
      ap (λ (n : ℕ). drop (n + 1) (field ++ e ∷ more)) place ∙ back_of field e more,
    )

-- the value of a field, whichever byte ends it
value_first : {A : Type 0} (value : List ℕ → Option A) (x : A) (field : List ℕ) (e : ℕ) (more : List ℕ) → IsField field → closes_field e ≡ true →
    value field ≡ Some x → read_field value ((field ++ e ∷ []) ++ more) ≡ Some (x, more)
value_first {A} value x field e more f ends is =
    let first = first_field field e more f ends in
    ap (read_field value) (append_assoc field (e ∷ []) more)
    ∙ then_reads (value (before_first closes_field (field ++ e ∷ more))) x _ _ (ap value first.0 ∙ is)
    (ap (λ (rest : List ℕ). Some (x, rest)) first.1)

pub value_next : {A : Type 0} (value : List ℕ → Option A) (x : A) (field more : List ℕ) → IsField field → value field ≡ Some x →
    read_field value (field_text field ++ more) ≡ Some (x, more)
value_next value x field more f is = value_first value x field 32 more f refl is

pub value_last : {A : Type 0} (value : List ℕ → Option A) (x : A) (field more : List ℕ) → IsField field → value field ≡ Some x →
    read_field value (last_text field ++ more) ≡ Some (x, more)
value_last value x field more f is = value_first value x field 10 more f refl is

same_bytes : (a b : List ℕ) → a ≡ b → bytes_eq a b ≡ true
same_bytes a b h = (bytes_eq-Decides a b).1 h

word_first : (word : List ℕ) (e : ℕ) (more : List ℕ) → IsField word → closes_field e ≡ true → skip_word word ((word ++ e ∷ []) ++ more) ≡ Some more
word_first word e more f ends =
    let first = first_field word e more f ends in
    ap (skip_word word) (append_assoc word (e ∷ []) more)
    ∙ rw (same_bytes (before_first closes_field (word ++ e ∷ more)) word first.0) (ap (λ (rest : List ℕ). Some rest) first.1)

pub word_next : (word more : List ℕ) → IsField word → skip_word word (field_text word ++ more) ≡ Some more
word_next word more f = word_first word 32 more f refl

pub word_last : (word more : List ℕ) → IsField word → skip_word word (last_text word ++ more) ≡ Some more
word_last word more f = word_first word 10 more f refl

-- numbers
digit_goes_on : (c : ℕ) → digit_value c < 10 → goes_on c ≡ true
digit_goes_on c h = grind (arith, nat_tests)

digit_range : (c : ℕ) → digit_value c < 10 → (48 ≤ c) × (c ≤ 57) × (digit_value c ≡ c - 48)
digit_range c h = grind (arith, nat_tests)

digits_field : (ds : List ℕ) → AllDigits 10 ds → IsField ds
digits_field [] all = refl
digits_field (c ∷ ds) all = and_from _ _ (digit_goes_on c all.0) (digits_field ds all.1)

pub decimal_field : (n : ℕ) → n < 2 ^ 64 → IsField (decimal n)
decimal_field n small = digits_field (decimal n) (decimal_is_IsNumeral n small).0.1

no_less : (n : ℕ) (ds : List ℕ) → n ≤ digits_value_after 10 n ds
no_less n [] = omega arith
no_less n (c ∷ ds) = let more : n * 10 + digit_value c ≤ digits_value_after 10 (n * 10 + digit_value c) ds = no_less (n * 10 + digit_value c) ds in
    omega (arith, more)

digits_again : (n : ℕ) (ds : List ℕ) → AllDigits 10 ds → digits_value_after 10 n ds < 2 ^ 64 → number_onto n ds ≡ Some (digits_value_after 10 n ds)
digits_again n [] all small = refl
digits_again n (c ∷ ds) all small =
    let range : (48 ≤ c) × (c ≤ 57) × (digit_value c ≡ c - 48) = digit_range c all.0 in
    let below : n * 10 + (c - 48) < 2 ^ 64 = omega (arith, range.2, no_less (n * 10 + digit_value c) ds, small) in
    let one : next_digit n c ≡ Some (n * 10 + (c - 48)) =
    rw (le-leb 48 c range.0, le-leb c 57 range.1, lt-ltb (n * 10 + (c - 48)) (2 ^ 64) below) refl in
    then_reads (next_digit n c) (n * 10 + (c - 48)) (λ (more : ℕ). number_onto more ds) _ one
    (ap (λ (d : ℕ). number_onto (n * 10 + d) ds) (sym range.2) ∙ digits_again (n * 10 + digit_value c) ds all.1 small)

pub number_again : (n : ℕ) → n < 2 ^ 64 → field_number (decimal n) ≡ Some n
number_again n small =
    let own = decimal_is_IsNumeral n small in
    digits_again 0 (decimal n) own.0.1 (omega (arith, own.1, small)) ∙ ap Some own.1

pub rank_again : (n : ℕ) → n < 64 → field_rank (decimal n) ≡ Some n
rank_again n small =
    then_reads (field_number (decimal n)) n _ (Some n) (number_again n (omega (arith, small))) (rw (lt-ltb n 64 small) refl)

no_dash : (ds : List ℕ) → IsNumeral 10 ds → (ds ≡ codes "-" → ⊥)
no_dash ds numeral e = let bad : IsNumeral 10 (codes "-") = subst (IsNumeral 10) e numeral in omega (arith, bad.1.0)

pub dash_again : (value : List ℕ → Option ℕ) (o : Option ℕ) → IfSome o (λ n. n < 2 ^ 64) → IfSome o (λ n. value (decimal n) ≡ Some n) →
    or_dash value (number_or_dash o) ≡ Some o
dash_again value None small is = refl
dash_again value (Some n) small is =
    let other : bytes_eq (decimal n) (codes "-") ≡ false =
    false_from_ne_true (bytes_eq (decimal n) (codes "-"))
    (λ e. no_dash (decimal n) (decimal_is_IsNumeral n small).0 ((bytes_eq-Decides (decimal n) (codes "-")).0 e)) in
    rw other (ap (option_map (λ n. Some n)) is)

pub dash_field : (o : Option ℕ) → IfSome o (λ n. n < 2 ^ 64) → IsField (number_or_dash o)
dash_field None small = refl
dash_field (Some n) small = decimal_field n small

-- bytes
kept_goes_on : (c : ℕ) → is_kept c ≡ true → goes_on c ≡ true
kept_goes_on c h = grind (arith, nat_tests)

octal_goes_on : (d : ℕ) → d < 8 → goes_on (48 + d) ≡ true
octal_goes_on d h = grind (arith, nat_tests)

byte_field : (b : Bool) (c : ℕ) (rest : List ℕ) → is_kept c ≡ b → c < 256 → IsField rest → IsField
    (cond b (c ∷ []) (92 ∷ (48 + c / 64) ∷ (48 + c / 8 % 8) ∷ (48 + c % 8) ∷ []) ++ rest)
byte_field true c rest e small f = and_from _ _ (kept_goes_on c e) f
byte_field false c rest e small f =
    and_from _ _ refl (and_from _ _ (octal_goes_on (c / 64) (omega (arith, small)))
    (and_from _ _ (octal_goes_on (c / 8 % 8) (omega arith)) (and_from _ _ (octal_goes_on (c % 8) (omega arith)) f)))

kept_is_no_escape : (c : ℕ) → is_kept c ≡ true → (c == 92) ≡ false
kept_is_no_escape c h = grind (arith, nat_tests)

not_both : (a b : Bool) → (a && (false && b)) ≡ false
not_both true b = refl
not_both false b = refl

no_escape : (c : ℕ) (rest : List ℕ) → is_kept c ≡ true → escape_value (c ∷ rest) ≡ None
no_escape c rest h =
    let tail : Bool = is_octal_to 51 (slice_index (c ∷ rest) 1) && (is_octal_to 55 (slice_index (c ∷ rest) 2) && is_octal_to 55 (slice_index (c ∷ rest) 3)) in
    let none : (nat_le 4 (length (c ∷ rest)) && ((c == 92) && tail)) ≡ false =
    ap (λ (b : Bool). nat_le 4 (length (c ∷ rest)) && (b && tail)) (kept_is_no_escape c h) ∙ not_both (nat_le 4 (length (c ∷ rest))) tail in
    rw none refl

octal_to : (most d : ℕ) → 48 + d ≤ most → is_octal_to most (48 + d) ≡ true
octal_to most d h = and_from _ _ (le-leb 48 (48 + d) (omega arith)) (le-leb (48 + d) most h)

octal_sum : (c : ℕ) → (48 + c / 64 - 48) * 64 + (48 + c / 8 % 8 - 48) * 8 + (48 + c % 8 - 48) ≡ c
octal_sum c = omega arith

escaped : (c : ℕ) (rest : List ℕ) → c < 256 → escape_value (92 ∷ (48 + c / 64) ∷ (48 + c / 8 % 8) ∷ (48 + c % 8) ∷ rest) ≡ Some c
escaped c rest small =
    let tests : is_escape (92 ∷ (48 + c / 64) ∷ (48 + c / 8 % 8) ∷ (48 + c % 8) ∷ rest) ≡ true =
    and_from _ _ (le-leb 4 (suc (suc (suc (suc (length rest))))) (omega arith))
    (and_from _ _ refl
    (and_from _ _ (octal_to 51 (c / 64) (omega (arith, small))) (and_from _ _ (octal_to 55 (c / 8 % 8) (omega arith))
    (octal_to 55 (c % 8) (omega arith))))) in
    rw tests (ap Some (octal_sum c))

first_byte : (c : ℕ) (path : List ℕ) → AreBytes (c ∷ path) → c < 256
first_byte c path all = All-head (λ x. x < 256) c path all

other_bytes : (c : ℕ) (path : List ℕ) → AreBytes (c ∷ path) → AreBytes path
other_bytes c path all = All-tail (λ x. x < 256) c path all

pub bytes_field : (path : List ℕ) → AreBytes path → IsField (kept_bytes path)
bytes_field [] all = refl
bytes_field (c ∷ path) all =
    byte_field (is_kept c) c (kept_bytes path) refl (first_byte c path all) (bytes_field path (other_bytes c path all))

byte_again : (b : Bool) (c : ℕ) (rest : List ℕ) → is_kept c ≡ b → c < 256 →
    meant_bytes 0 (cond b (c ∷ []) (92 ∷ (48 + c / 64) ∷ (48 + c / 8 % 8) ∷ (48 + c % 8) ∷ []) ++ rest) ≡ c ∷ meant_bytes 0 rest
byte_again true c rest e small = rw (no_escape c rest e) refl
byte_again false c rest e small = rw (escaped c rest small) refl

meant_again : (path : List ℕ) → AreBytes path → meant_bytes 0 (kept_bytes path) ≡ path
meant_again [] all = refl
meant_again (c ∷ path) all =
    byte_again (is_kept c) c (kept_bytes path) refl (first_byte c path all)
    ∙ ap (λ (t : List ℕ). c ∷ t) (meant_again path (other_bytes c path all))

pub bytes_again : (path : List ℕ) → AreBytes path → field_bytes (kept_bytes path) ≡ Some path
bytes_again path all = ap Some (meant_again path all)
