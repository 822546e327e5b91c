-- Reading gives back what was quoted.
use Rattle.std.proofs.Common.{◌≡◌, ◌≢◌, ◌∙◌, ◌<◌, ℕ, true, false, eqb, List, [], ◌∷◌, ◌++◌, ◌+◌, All, Some, get_or, length, take, refl, ap, sym, arith, ⊎_elim}
use Rattle.std.specs.List.{flat_map}
use Rattle.std.proofs.lemmas.Bool.{cases_Bool, eq-eqb, eqb-true, ne_eqb, both_ways}
use Rattle.std.proofs.lemmas.List.{append_assoc, flat_map_more, take_more}
use Rattle.std.proofs.lemmas.List.Elements.{All-head, All-tail}
use Rattle.ceph_plan.specs.Words.{Plain, Quoted, escaped, is_end, ends_word, read_word, with_byte, IsWordFor}

-- a quote in quotes is read as one
reads_quote : (text : List ℕ) → read_word Quoted (39 ∷ 92 ∷ 39 ∷ 39 ∷ text) ≡ with_byte 39 (read_word Quoted text)
reads_quote text = refl

reads_other : (c : ℕ) (text : List ℕ) → c ≢ 39 → read_word Quoted (c ∷ text) ≡ with_byte c (read_word Quoted text)
reads_other c text other = rw (ne_eqb c 39 other) refl

reads_escaped : (c : ℕ) (text : List ℕ) → read_word Quoted (escaped c ++ text) ≡ with_byte c (read_word Quoted text)
reads_escaped c text =
    ⊎_elim (λ (is : eqb c 39 ≡ true).
    let same : c ≡ 39 = eqb-true c 39 is in
    rw (is, same) (reads_quote text))
    (λ (is : eqb c 39 ≡ false).
    rw is (reads_other c text (λ same. both_ways (eqb c 39) is (ap (λ (k : ℕ). eqb k 39) same))))
    (cases_Bool (eqb c 39))

with_some : (c : ℕ) (word rest : List ℕ) → 0 < c → with_byte c (Some (word, rest)) ≡ Some (c ∷ word, rest)
with_some c word rest some = rw (ne_eqb c 0 (λ same. omega (arith, same, some))) refl

ends_plain : (rest : List ℕ) → ends_word rest ≡ true → read_word Plain rest ≡ Some ([], rest)
ends_plain [] e = refl
ends_plain (c ∷ rest) e =
    let not_quote : eqb c 39 ≡ false = ne_eqb c 39 (λ same. both_ways true (sym e ∙ ap is_end same) refl) in
    let not_escape : eqb c 92 ≡ false = ne_eqb c 92 (λ same. both_ways true (sym e ∙ ap is_end same) refl) in
    rw (not_quote, not_escape, e) refl

reads_all : (bytes rest : List ℕ) → All (λ c. 0 < c) bytes → ends_word rest ≡ true → read_word Quoted (flat_map escaped bytes ++ 39 ∷ rest) ≡ Some (bytes, rest)
reads_all [] rest some e = ends_plain rest e
reads_all (c ∷ bytes) rest some e =
    ap (λ (text : List ℕ). read_word Quoted text) (append_assoc (escaped c) (flat_map escaped bytes) (39 ∷ rest))
    ∙ (reads_escaped c (flat_map escaped bytes ++ 39 ∷ rest)
    ∙ (ap (with_byte c) (reads_all bytes rest (All-tail (λ k. 0 < k) c bytes some) e)
    ∙ with_some c bytes rest (All-head (λ k. 0 < k) c bytes some)))

pub word-for : (bytes word : List ℕ) → All (λ c. 0 < c) bytes → word ≡ (39 ∷ flat_map escaped bytes) ++ 39 ∷ [] → IsWordFor bytes word
word-for bytes word some is rest e =
    ap (λ (w : List ℕ). read_word Plain (w ++ rest)) is
    ∙ (ap (λ (text : List ℕ). read_word Quoted text) (append_assoc (flat_map escaped bytes) (39 ∷ []) rest)
    ∙ reads_all bytes rest some e)

-- one more byte is quoted
pub quoted-more : (bytes before after : List ℕ) (i : ℕ) → i < length bytes → before ≡ 39 ∷ flat_map escaped (take i bytes)
    → after ≡ before ++ escaped (get_or bytes i 0) → after ≡ 39 ∷ flat_map escaped (take (i + 1) bytes)
quoted-more bytes before after i inside before_is after_is =
    after_is
    ∙ (ap (λ (word : List ℕ). word ++ escaped (get_or bytes i 0)) before_is
    ∙ (flat_map_more escaped (39 ∷ []) (take i bytes) (get_or bytes i 0)
    ∙ ap (λ (those : List ℕ). 39 ∷ flat_map escaped those) (sym (take_more bytes i 0 inside))))

pub escaped-quote : (c : ℕ) → c ≡ 39 → 39 ∷ 92 ∷ 39 ∷ 39 ∷ [] ≡ escaped c
escaped-quote c is = rw (eq-eqb c 39 is) refl

pub escaped-other : (c : ℕ) → c ≢ 39 → c ∷ [] ≡ escaped c
escaped-other c other = rw (ne_eqb c 39 other) refl
