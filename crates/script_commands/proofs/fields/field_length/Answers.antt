use Rattle.std.proofs.Common.{◌≡◌, ℕ, ◌<◌, ◌≤◌, Bool, true, false, ◌||◌, ◌==◌, List, length, refl, sym, ◌∙◌, arith, get_or}
use Rattle.std.proofs.lemmas.Bool.{false_from_ne_true}
use Rattle.std.proofs.lemmas.List.Sums.{position_or_len_is}
use Rattle.std.specs.List.{position_or_len}
use Rattle.memchr.specs.Find.{is_byte3}
use Rattle.script_commands.specs.Commands.{is_blank}
use Rattle.script_commands.proofs.fields.field_length.Goals as goal

either : (a b c : Bool) → (a || b || c) ≡ (a || (b || c))
either true b c = refl
either false b c = refl

-- the bytes that are searched for are the blanks
sought : (b : ℕ) → is_byte3 32 9 13 b ≡ is_blank b
sought b = either (b == 32) (b == 9) (b == 13)

-- the first of them is the first blank
first_blank : (line : List ℕ) (n : ℕ) → n ≤ length line → ((k : ℕ) → k < n → is_byte3 32 9 13 (get_or line k 0) ≡ true → ⊥)
    → (n < length line → is_byte3 32 9 13 (get_or line n 0) ≡ true) → n ≡ position_or_len is_blank line
first_blank line n within before here = sym (position_or_len_is is_blank line n 0 within
    (λ k h. false_from_ne_true (is_blank (get_or line k 0)) (λ e. before k h (sought (get_or line k 0) ∙ e)))
    (λ h. sym (sought (get_or line n 0)) ∙ here h))

pub returns-in-Some-clause-value : goal.returns-in-Some-clause-value
returns-in-Some-clause-value c = first_blank c.args.line.now c.in-Some.end (omega (arith, c.in-Some.ensures.0.high))
    (λ k h. c.in-Some.ensures.0.before k (omega arith) h) (λ _. c.in-Some.ensures.1)

pub returns-in-None-clause-value : goal.returns-in-None-clause-value
returns-in-None-clause-value c = first_blank c.args.line.now (length c.args.line.now) (omega arith)
    (λ k h. c.in-None.ensures k (omega arith) h) (λ h. absurd (omega arith))
