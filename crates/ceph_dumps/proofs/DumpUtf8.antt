-- The text of a dump is UTF-8, whatever its bytes.
use Rattle.std.proofs.Common.{◌≡◌, ◌<◌, ◌≤◌, ◌+◌, ◌-◌, ◌/◌, ◌%◌, ◌==◌, ℕ, zero, suc, true, false, All, IsUtf8, List, [], ◌∷◌}
use Rattle.std.proofs.Common.{arith, codes, get_or, length, lit<, ltb, refl, subst, sym, take, true≢false, ⊎_elim, if◌then◌else◌}
use Rattle.std.specs.Prelude.{⊤}
use Rattle.std.proofs.lemmas.Bool.{cases_Bool, lt-ltb, ne_eqb}
use Rattle.std.proofs.lemmas.Bool.Decides.{nat_tests}
use Rattle.std.proofs.lemmas.List.Elements.{All-from_recursion, All-head, All-tail}
use Rattle.std.proofs.lemmas.Slice.Eq.{bytes_eq-Decides}
use Rattle.std.proofs.lemmas.Str.{IsUtf8-append, IsUtf8-encode, IsUtf8-from_ascii, IsUtf8-nil}
use Rattle.std.proofs.Math.Utf8.{encode, low_scalar}
use Rattle.ceph_dumps.specs.DumpText.{bare_length, begins_with, dump_text, over_byte, word_left, word_length, written_over}
use Rattle.ceph_dumps.specs.KeyPath.{place_after}
use Rattle.ceph_dumps.specs.WideBytes.{wide}
use Rattle.ceph_dumps.specs.declared.bare_words.Place.{Place}
use Rattle.ceph_dumps.specs.declared.bare_words.Place.TheVariants.{Bare, Escaped, Quoted}

-- ---- what is written over is ASCII

abbrev AreAscii : ℕ → List ℕ → Type 0
AreAscii zero text = ⊤
AreAscii (suc n) [] = ⊤
AreAscii (suc n) (byte ∷ text) = (byte < 128) × AreAscii n text

from_front : (n : ℕ) (text : List ℕ) → All (λ byte. byte < 128) (take n text) → AreAscii n text
from_front zero text all = tt
from_front (suc n) [] all = tt
from_front (suc n) (byte ∷ text) all =
    (All-head (λ b. b < 128) byte (take n text) all, from_front n text (All-tail (λ b. b < 128) byte (take n text) all))

word_ascii : (text word : List ℕ) → All (λ byte. byte < 128) word → begins_with text word ≡ true → AreAscii (length word) text
word_ascii text word all e =
    from_front (length word) text (subst (All (λ byte. byte < 128)) (sym ((bytes_eq-Decides (take (length word) text) word).0 e)) all)

four : (a b c d : ℕ) → a < 128 → b < 128 → c < 128 → d < 128 → All (λ byte. byte < 128) (a ∷ b ∷ c ∷ d ∷ [])
four a b c d p q r s = All-from_recursion (λ byte. byte < 128) (a ∷ b ∷ c ∷ d ∷ []) (p, (q, (r, (s, tt))))

three : (a b c : ℕ) → a < 128 → b < 128 → c < 128 → All (λ byte. byte < 128) (a ∷ b ∷ c ∷ [])
three a b c p q r = All-from_recursion (λ byte. byte < 128) (a ∷ b ∷ c ∷ []) (p, (q, (r, tt)))

last_ascii : (text : List ℕ) → AreAscii (if begins_with text (codes "nan") then 3 else 0) text
last_ascii text =
    ⊎_elim
    (λ (e : begins_with text (codes "nan") ≡ true). rw e (word_ascii text (codes "nan") (three 110 97 110 (lit< tt) (lit< tt) (lit< tt)) e))
    (λ (e : begins_with text (codes "nan") ≡ false). rw e tt)
    (cases_Bool (begins_with text (codes "nan")))

third_ascii : (text : List ℕ)
    → AreAscii (if begins_with text (codes "inf") then 3 else if begins_with text (codes "nan") then 3 else 0) text
third_ascii text =
    ⊎_elim
    (λ (e : begins_with text (codes "inf") ≡ true). rw e (word_ascii text (codes "inf") (three 105 110 102 (lit< tt) (lit< tt) (lit< tt)) e))
    (λ (e : begins_with text (codes "inf") ≡ false). rw e (last_ascii text))
    (cases_Bool (begins_with text (codes "inf")))

second_ascii : (text : List ℕ)
    → AreAscii
    (if begins_with text (codes "-nan") then 4
    else if begins_with text (codes "inf") then 3 else if begins_with text (codes "nan") then 3 else 0) text
second_ascii text =
    ⊎_elim
    (λ (e : begins_with text (codes "-nan") ≡ true).
    rw e (word_ascii text (codes "-nan") (four 45 110 97 110 (lit< tt) (lit< tt) (lit< tt) (lit< tt)) e))
    (λ (e : begins_with text (codes "-nan") ≡ false). rw e (third_ascii text))
    (cases_Bool (begins_with text (codes "-nan")))

length_ascii : (text : List ℕ) → AreAscii (word_length text) text
length_ascii text =
    ⊎_elim
    (λ (e : begins_with text (codes "-inf") ≡ true).
    rw e (word_ascii text (codes "-inf") (four 45 105 110 102 (lit< tt) (lit< tt) (lit< tt) (lit< tt)) e))
    (λ (e : begins_with text (codes "-inf") ≡ false). rw e (second_ascii text))
    (cases_Bool (begins_with text (codes "-inf")))

bare_ascii : (place : Place) (text : List ℕ) → AreAscii (bare_length place text) text
bare_ascii Bare text = length_ascii text
bare_ascii Quoted text = tt
bare_ascii Escaped text = tt

left_ascii : (left : ℕ) (place : Place) (text : List ℕ) → AreAscii left text → AreAscii (word_left left place text) text
left_ascii left place text ascii =
    ⊎_elim
    (λ (e : (left == 0) ≡ true). rw e (bare_ascii place text))
    (λ (e : (left == 0) ≡ false). rw e ascii)
    (cases_Bool (left == 0))

behind_ascii : (n byte : ℕ) (text : List ℕ) → (n == 0) ≡ false → AreAscii n (byte ∷ text) → AreAscii (n - 1) text
behind_ascii zero byte text e ascii = absurd (true≢false e)
behind_ascii (suc n) byte text e ascii = let less : n ≡ suc n - 1 = omega arith in subst (λ (m : ℕ). AreAscii m text) less ascii.1

-- ---- a byte below 0x80

one_byte : (byte : ℕ) → byte < 128 → IsUtf8 (byte ∷ [])
one_byte byte small = IsUtf8-from_ascii (byte ∷ []) (each byte small) where
  each : (b : ℕ) → b < 128 → (i : ℕ) → get_or (b ∷ []) i 0 < 128
  each b lt zero = lt
  each b lt (suc i) = lit< tt

over_small : (n : ℕ) → over_byte n < 128
over_small n =
    ⊎_elim (λ (e : (n == 0) ≡ true). rw e (lit< tt)) (λ (e : (n == 0) ≡ false). rw e (lit< tt)) (cases_Bool (n == 0))

abbrev OnwardUtf8 : List ℕ → Type 0
OnwardUtf8 text = (left : ℕ) (place : Place) → AreAscii left text → IsUtf8 (written_over left place text)

plain_byte : (byte : ℕ) (text : List ℕ) → byte < 128 → OnwardUtf8 text → OnwardUtf8 (byte ∷ text)
plain_byte byte text small more left place ascii =
    let n = word_left left place (byte ∷ text) in
    let here = left_ascii left place (byte ∷ text) ascii in
    ⊎_elim
    (λ (e : (word_left left place (byte ∷ text) == 0) ≡ true).
    rw e (IsUtf8-append (byte ∷ []) (written_over 0 (place_after place byte) text) (one_byte byte small) (more 0 (place_after place byte) tt)))
    (λ (e : (word_left left place (byte ∷ text) == 0) ≡ false).
    rw e (IsUtf8-append (over_byte (n - 1) ∷ []) (written_over (n - 1) place text) (one_byte (over_byte (n - 1)) (over_small (n - 1)))
    (more (n - 1) place (behind_ascii n byte text e here))))
    (cases_Bool (word_left left place (byte ∷ text) == 0))

-- ---- a byte from 0x80, as two bytes

no_word : (byte : ℕ) (text : List ℕ) → 128 ≤ byte → word_length (byte ∷ text) ≡ 0
no_word byte text high =
    rw (ne_eqb byte 45 (λ same. omega (arith, high)), ne_eqb byte 105 (λ same. omega (arith, high)), ne_eqb byte 110 (λ same. omega (arith, high))) refl

none_bare : (place : Place) (byte : ℕ) (text : List ℕ) → 128 ≤ byte → bare_length place (byte ∷ text) ≡ 0
none_bare Bare byte text high = no_word byte text high
none_bare Quoted byte text high = refl
none_bare Escaped byte text high = refl

none_left : (left : ℕ) (place : Place) (byte : ℕ) (text : List ℕ) → 128 ≤ byte → AreAscii left (byte ∷ text)
    → word_left left place (byte ∷ text) ≡ 0
none_left zero place byte text high ascii = none_bare place byte text high
none_left (suc left) place byte text high ascii = let never : ⊥ = omega (arith, high, ascii.0) in absurd never

two_bytes : (byte : ℕ) → 128 ≤ byte → byte < 256 → IsUtf8 ((192 + byte / 64) ∷ (128 + byte % 64) ∷ [])
unfolding encode
two_bytes byte high small =
    let first : ltb byte 128 ≡ false = grind (arith, nat_tests) in
    let second : ltb byte 2048 ≡ true = lt-ltb byte 2048 (omega (arith, small)) in
    let is : encode byte ≡ (192 + byte / 64) ∷ (128 + byte % 64) ∷ [] = rw (first, second) refl in
    subst IsUtf8 is (IsUtf8-encode byte (low_scalar byte (omega (arith, small))))

wide_one : (byte : ℕ) (text : List ℕ) → 128 ≤ byte → byte < 256 → OnwardUtf8 text
    → OnwardUtf8 ((192 + byte / 64) ∷ (128 + byte % 64) ∷ text)
wide_one byte text high small more left place ascii =
    let lead = 192 + byte / 64 in
    let trail = 128 + byte % 64 in
    let place₁ = place_after place lead in
    rw (none_left left place lead (trail ∷ text) (omega arith) ascii, none_left 0 place₁ trail text (omega arith) tt)
    (IsUtf8-append (lead ∷ trail ∷ []) (written_over 0 (place_after place₁ trail) text) (two_bytes byte high small)
    (more 0 (place_after place₁ trail) tt))

-- ---- all bytes

pub wide_utf8 : (bytes : List ℕ) → ((i : ℕ) → get_or bytes i 0 < 256) → OnwardUtf8 (wide bytes)
wide_utf8 [] small = λ left place ascii. IsUtf8-nil
wide_utf8 (byte ∷ bytes) small =
    let more : OnwardUtf8 (wide bytes) = wide_utf8 bytes (λ i. small (suc i)) in
    ⊎_elim
    (λ (e : ltb byte 128 ≡ true). rw e (plain_byte byte (wide bytes) (grind (arith, nat_tests)) more))
    (λ (e : ltb byte 128 ≡ false). rw e (wide_one byte (wide bytes) (grind (arith, nat_tests)) (small 0) more))
    (cases_Bool (ltb byte 128))

pub dump_utf8 : (bytes : List ℕ) → ((i : ℕ) → get_or bytes i 0 < 256) → IsUtf8 (dump_text bytes)
dump_utf8 bytes small = wide_utf8 bytes small 0 Bare tt
