-- Two words with a blank between them: where the first ends.
use Rattle.std.proofs.Common.{◌≡◌, ◌∙◌, ◌<◌, ◌≤◌, ◌++◌, ◌∷◌, ◌==◌, ℕ, List, All, true}
use Rattle.std.proofs.Common.{false, ap, arith, drop, length, refl, slice_index, subst, sym, take, ⊎_elim}
use Rattle.std.specs.Str.{IsAscii}
use Rattle.std.proofs.Math.Seq.{drop-append_seam, get_or-append_seam, take-append_seam}
use Rattle.std.proofs.lemmas.Bool.{both_ways, cases_lt}
use Rattle.std.proofs.lemmas.Bool.Decides.{nat_tests}
use Rattle.std.proofs.lemmas.List.{get_or_append_left, get_or_past, length-append}
use Rattle.std.proofs.lemmas.List.Elements.{All-from_get_or}
use Rattle.ceph_dumps.specs.Complete.{AreTwoWords, IsWord, is_word_byte}

small : (c : ℕ) → is_word_byte c ≡ true → c < 128
small c is = grind (arith, nat_tests)

no_newline : (c : ℕ) → is_word_byte c ≡ true → (c == 10) ≡ false
no_newline c is = grind (arith, nat_tests)

pub no_newline_in_word : (word : List ℕ) → IsWord word → All (λ c. (c == 10) ≡ false) word
no_newline_in_word word is = All-from_get_or (λ c. (c == 10) ≡ false) word 0 (λ i l. no_newline (slice_index word i) (is.bytes i l))

pub ascii_word : (word : List ℕ) → IsWord word → IsAscii word
ascii_word word is i =
    ⊎_elim (λ (l : i < length word). small (slice_index word i) (is.bytes i l))
    (λ (past : length word ≤ i). let zero : slice_index word i ≡ 0 = get_or_past word i 0 past in omega (arith, zero))
    (cases_lt i (length word))

-- the first word ends where its bytes end
pub word_ends : (line name fsid : List ℕ) (n : ℕ) → AreTwoWords line name fsid → n ≤ length line
    → ((i : ℕ) → i < n → is_word_byte (slice_index line i) ≡ true)
    → (n < length line → is_word_byte (slice_index line n) ≡ false) → n ≡ length name
word_ends line name fsid n are inside word end =
    let at_blank : slice_index line (length name) ≡ 32 = ap (λ (l : List ℕ). slice_index l (length name)) are.whole ∙ get_or-append_seam name 32 fsid 0 in
    ⊎_elim (λ (less : n < length name).
    let same : slice_index line n ≡ slice_index name n = ap (λ (l : List ℕ). slice_index l n) are.whole ∙ get_or_append_left name (32 ∷ fsid) 0 n less in
    let long : n < length line = subst (λ (l : List ℕ). n < length l) (sym are.whole) (longer name fsid n less) in
    absurd (both_ways (is_word_byte (slice_index line n)) (end long) (ap is_word_byte same ∙ are.name_is.bytes n less)))
    (λ (more : length name ≤ n).
    ⊎_elim (λ (past : length name < n).
    absurd (both_ways (is_word_byte (slice_index line (length name))) (ap is_word_byte at_blank) (word (length name) past)))
    (λ (there : n ≤ length name). omega (arith, there, more))
    (cases_lt (length name) n))
    (cases_lt n (length name))
  where
    longer : (name fsid : List ℕ) (n : ℕ) → n < length name → n < length (name ++ 32 ∷ fsid)
    longer name fsid n less = omega (arith, less, length-append name (32 ∷ fsid))

-- what lies on both sides of the blank
pub front_is : (line name fsid : List ℕ) (n : ℕ) → AreTwoWords line name fsid → n ≡ length name → take n line ≡ name
front_is line name fsid n are is = ap (λ (k : ℕ). take k line) is ∙ (ap (take (length name)) are.whole ∙ take-append_seam name (32 ∷ fsid))

pub back_is : (line name fsid : List ℕ) (n : ℕ) → AreTwoWords line name fsid → n ≡ length name → drop n line ≡ 32 ∷ fsid
back_is line name fsid n are is = ap (λ (k : ℕ). drop k line) is ∙ (ap (drop (length name)) are.whole ∙ drop-append_seam name (32 ∷ fsid))

pub words_same : (line a b x y : List ℕ) → AreTwoWords line a b → AreTwoWords line x y → (a ≡ x) × (b ≡ y)
words_same line a b x y one two =
    let inside : length a ≤ length line = omega (arith, ap length one.whole, length-append a (32 ∷ b)) in
    let n : length a ≡ length x = word_ends line x y (length a) two inside
    (λ i l. ap is_word_byte (ap (λ (ls : List ℕ). slice_index ls i) one.whole ∙ get_or_append_left a (32 ∷ b) 0 i l) ∙ one.name_is.bytes i l)
    (λ l. ap is_word_byte (ap (λ (ls : List ℕ). slice_index ls (length a)) one.whole ∙ get_or-append_seam a 32 b 0)) in
    let behind : 32 ∷ b ≡ 32 ∷ y = sym (back_is line a b (length a) one refl) ∙ back_is line x y (length a) two n in
    (sym (front_is line a b (length a) one refl) ∙ front_is line x y (length a) two n, ap (drop 1) behind)
