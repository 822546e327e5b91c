-- What was read of a host.
use Rattle.std.proofs.Common.{◌≢◌, ◌∙◌, inl, inr, codes, ℕ, List, [], ◌∷◌, ◌++◌, Option, Some, None, Result, Ok, Err, OnErr, sym, ap, append_assoc, append-nil}
use Rattle.std.specs.Io.KnownBytes.{Consumes}
use Rattle.std.specs.List.{flat_map}
use Rattle.std.proofs.lemmas.List.Concat.{flat_map-append}
use Rattle.std.proofs.lemmas.List.Elements.{All-push}
use Rattle.pin_driver.specs.StoredText.{last_text}
use Rattle.std.proofs.KnownBytes.{Consumes-trans}
use Rattle.pin_driver.specs.declared.answer.HostAnswer.{HostAnswer}
use Rattle.drive_lines.specs.Dialogue.{AreAllKnown, GivesAnswer, HasTaken, HostBytes, IsOneLine}
use Rattle.drive_lines.specs.Outcomes.{IsBeforeDot}

module _ {R : Type 0} (remaining : R → Option (List ℕ)) (a b c : HostBytes R) (bytes : List ℕ) where
  pub taken_more : (more : List ℕ) → HasTaken remaining a b bytes → HasTaken remaining b c more → HasTaken remaining a c (bytes ++ more)
  taken_more more before now = (
    Consumes-trans (remaining a.reader) (remaining b.reader) (remaining c.reader) bytes more before.0 now.0,
    now.1 ∙ ap (λ (t : List ℕ). t ++ more)
        before.1 ∙ append_assoc a.taken bytes more,
  )

all_after : (known left : Option (List ℕ)) (front piece : List ℕ) → Consumes known left front → AreAllKnown left piece → AreAllKnown known (front ++ piece)
all_after None left front piece took all = tt
all_after (Some xs) None front piece took all = absurd took
all_after (Some xs) (Some ys) front piece took all = took ∙ ap (λ (t : List ℕ). front ++ t) all

-- a piece that gives an answer gives it after others, too
pub gives_after : (known left : Option (List ℕ)) (front piece : List ℕ) (a : HostAnswer) → Consumes known left front → GivesAnswer left [] piece a →
    GivesAnswer known front piece a
gives_after known left front piece a took gives = elim gives [
  | inl line ↦ inl line
  | inr other ↦ elim other [
    | inl long ↦ inr (inl long)
    | inr ends ↦ inr (inr (ends.0, ends.1, all_after known left front piece took ends.2, ends.3))
  ]
]

pub on_err : {A E : Type 0} (r : Result A E) (P : Type 0) → P → OnErr r P
on_err (Ok x) P p = tt
on_err (Err e) P p = p

-- one more line of a text
pub one_line_more : (text line : List ℕ) → IsBeforeDot text → IsOneLine line → line ≢ codes "." → IsBeforeDot (text ++ last_text line)
one_line_more text line is one other = (
  is.0 ++ line ∷ [],
  ap (λ (t : List ℕ). t ++ last_text line) is.1 ∙ ap (λ (t : List ℕ). flat_map last_text is.0 ++ t) (sym (append-nil (last_text line))) ∙ sym
      (flat_map-append last_text is.0 (line ∷ [])),
  All-push (λ l. IsOneLine l × (l ≢ codes ".")) is.0 line is.2 (one, other),
)
