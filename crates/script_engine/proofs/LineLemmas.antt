-- The lines of bytes that are whole lines and a rest.
use Rattle.std.proofs.Common.{◌≡◌, ◌≢◌, ℕ, zero, suc, ◌<◌, true, ◌==◌, List, [], ◌∷◌, ◌++◌, length, take, drop, get_or, refl, sym, ap, ◌∙◌, append_assoc, arith}
use Rattle.std.proofs.lemmas.Bool.{false_from_ne_true}
use Rattle.std.specs.List.{AllByRecursion}
use Rattle.script_engine.specs.Lines.{lines_of, whole_lines, IsLine, ended}

pub ended_push : (lines : List (List ℕ)) (line : List ℕ) → ended (lines ++ line ∷ []) ≡ ended lines ++ (line ++ 10 ∷ [])
ended_push [] line = refl
ended_push (l ∷ lines) line = ap (λ (t : List ℕ). l ++ 10 ∷ t) (ended_push lines line) ∙ sym (append_assoc l (10 ∷ ended lines) (line ++ 10 ∷ []))

pub is_line_append : (line part : List ℕ) → IsLine line → IsLine part → IsLine (line ++ part)
is_line_append [] part is more = more
is_line_append (b ∷ line) part is more = (is.0, is_line_append line part is.1 more)

-- what comes before the first newline is a line
pub is_line_before : (bytes : List ℕ) (n : ℕ) → ((k : ℕ) → k < n → (get_or bytes k 0 == 10) ≡ true → ⊥) → IsLine (take n bytes)
is_line_before bytes zero none = tt
is_line_before [] (suc n) none = tt
is_line_before (b ∷ bytes) (suc n) none = (false_from_ne_true (b == 10) (none 0 (omega arith)), is_line_before bytes n (λ k inside. none (suc k) (omega arith)))

pub is_line_whole : (bytes : List ℕ) → ((k : ℕ) → k < length bytes → (get_or bytes k 0 == 10) ≡ true → ⊥) → IsLine bytes
is_line_whole [] none = tt
is_line_whole (b ∷ bytes) none = (false_from_ne_true (b == 10) (none 0 (omega arith)), is_line_whole bytes (λ k inside. none (suc k) (omega arith)))

-- the bytes before a newline, the newline, and the bytes after it
pub cut_at : (bytes : List ℕ) (n : ℕ) → n < length bytes → get_or bytes n 0 ≡ 10 → bytes ≡ take n bytes ++ 10 ∷ drop (suc n) bytes
cut_at [] n inside is = absurd (omega arith)
cut_at (b ∷ bytes) zero inside is = ap (λ (c : ℕ). c ∷ bytes) is
cut_at (b ∷ bytes) (suc n) inside is = ap (λ (t : List ℕ). b ∷ t) (cut_at bytes n (omega arith) is)

pub all_push : (lines : List (List ℕ)) (line : List ℕ) → AllByRecursion IsLine lines → IsLine line → AllByRecursion IsLine (lines ++ line ∷ [])
all_push [] line all is = (is, tt)
all_push (l ∷ lines) line all is = (all.0, all_push lines line all.1 is)

line_then : (line more : List ℕ) → IsLine line → lines_of (line ++ 10 ∷ more) ≡ line ∷ lines_of more
line_then [] more is = refl
line_then (b ∷ line) more is = rw (is.0, line_then line more is.1) refl

pub lines_of_ended : (lines : List (List ℕ)) (rest : List ℕ) → AllByRecursion IsLine lines → lines_of (ended lines ++ rest) ≡ lines ++ lines_of rest
lines_of_ended [] rest all = refl
lines_of_ended (l ∷ lines) rest all = rw append_assoc
    (line_then l (ended lines ++ rest) all.0 ∙ ap (λ (ls : List (List ℕ)). l ∷ ls) (lines_of_ended lines rest all.1))

pub lines_of_line : (line : List ℕ) → IsLine line → line ≢ [] → lines_of line ≡ line ∷ []
lines_of_line [] is some = absurd (some refl)
lines_of_line (b ∷ []) is some = rw is.0 refl
lines_of_line (b ∷ c ∷ line) is some = rw (is.0, lines_of_line (c ∷ line) is.1 (λ e. cc)) refl

whole_then : (line more : List ℕ) → IsLine line → whole_lines (line ++ 10 ∷ more) ≡ line ∷ whole_lines more
whole_then [] more is = refl
whole_then (b ∷ line) more is = rw (is.0, whole_then line more is.1) refl

pub no_whole_line : (line : List ℕ) → IsLine line → whole_lines line ≡ []
no_whole_line [] is = refl
no_whole_line (b ∷ line) is = rw (is.0, no_whole_line line is.1) refl

pub whole_lines_ended : (lines : List (List ℕ)) (rest : List ℕ) → AllByRecursion IsLine lines → whole_lines (ended lines ++ rest) ≡ lines ++ whole_lines rest
whole_lines_ended [] rest all = refl
whole_lines_ended (l ∷ lines) rest all = rw append_assoc
    (whole_then l (ended lines ++ rest) all.0 ∙ ap (λ (ls : List (List ℕ)). l ∷ ls) (whole_lines_ended lines rest all.1))
