-- What is printed for what was judged.
use Rattle.std.proofs.Common.{◌≡◌, ◌≤◌, ◌⊎◌, ℕ, List, Option, Some, None, Result, Ok, Err, IfOk, IfSome, IsTrue, inl, inr, refl, arith, string_bytes}
use Rattle.std.specs.Prelude.{IfErr, OnOk}
use Rattle.std.specs.Io.KnownBytes.{Appends}
use Rattle.plan_text.specs.declared.read_error.ReadError.TheVariants.{Line, Memory}
use Rattle.certificate_judge.specs.Judged.{AreCertificates, GrowsByFront, HaveAnswers, IsJudged, Refuses, error_status, memory_line}
use Rattle.certificate_judge.specs.declared.answers.Answers.{Answers}
use Rattle.certificate_judge.specs.declared.judge_error.JudgeError.{JudgeError}
use Rattle.certificate_judge.specs.declared.judge_error.JudgeError.TheVariants.{Read, Text}

not_two : (status : ℕ) → status ≡ 2 → (status ≤ 1) ⊎ (status ≡ 3) → ⊥
not_two status two few = elim few [
  | inl low ↦ omega (arith, low, two)
  | inr three ↦ omega (arith, three, two)
]

at_most : (status : ℕ) → (status ≤ 1) ⊎ (status ≡ 3) → status ≤ 3
at_most status few = elim few [
  | inl low ↦ omega (arith, low)
  | inr three ↦ omega (arith, three)
]

some_all : (known : Option (List ℕ)) (Q : List ℕ → Type 0) → ((bytes : List ℕ) → Q bytes) → IfSome known Q
some_all None Q f = tt
some_all (Some bytes) Q f = f bytes

some_more : (known : Option (List ℕ)) (P Q : List ℕ → Type 0) → IfSome known P → ((bytes : List ℕ) → P bytes → Q bytes) → IfSome known Q
some_more None P Q h f = tt
some_more (Some bytes) P Q h f = f bytes h

module _ {W E : Type 0} (printed : W → Option (List ℕ)) (said : E → Option (List ℕ)) (known : Option (List ℕ)) (old new : W)
    (before after : E) (status : ℕ) where
  -- what is printed for answers
  printed_is : (a : Answers) (bytes : List ℕ) → HaveAnswers bytes a → (status ≡ 0 → IsTrue a.hold) → (status ≡ 1 → ¬ (IsTrue a.hold))
      → (status ≤ 1 → Appends (printed old) (printed new) (string_bytes a.lines)) → GrowsByFront (printed old) (printed new) (string_bytes a.lines)
      → (status ≤ 1) ⊎ (status ≡ 3) → IsJudged printed said bytes old new before after status
  printed_is a bytes are holds fails all front few = record {
    yes = λ s. (are.exact.0 (holds s), are.best (holds s));
    no = λ s. (are.certificates, λ every. fails s (are.exact.1 every));
    answered = λ s. (string_bytes a.lines, are.lines, all s);
    unprinted = λ s. absurd (not_two status s few);
    reason = λ s. absurd (not_two status s few);
    unwritten = λ s. (string_bytes a.lines, are.lines, front);
    few = at_most status few;
  }

  -- what is printed where the bytes are refused
  refused_is : (bytes : List ℕ) → status ≡ 2 → new ≡ old → ¬ (AreCertificates bytes) ⊎ GrowsByFront (said before) (said after) memory_line
      → IsJudged printed said bytes old new before after status
  refused_is bytes two same because = record {
    yes = λ s. absurd (omega (arith, s, two));
    no = λ s. absurd (omega (arith, s, two));
    answered = λ s. absurd (omega (arith, s, two));
    unprinted = λ s. same;
    reason = λ s. because;
    unwritten = λ s. absurd (omega (arith, s, two));
    few = omega (arith, two);
  }

  abbrev IsSo : List ℕ → Type 0
  IsSo bytes = IsJudged printed said bytes old new before after status

  abbrev IsReport : Type 0
  IsReport = IfSome known IsSo ⊎ ((status ≡ 3) × (new ≡ old))

  pub judged_is : (r : Result Answers JudgeError)
      → IfOk r (λ a. IfSome known (λ bytes. HaveAnswers bytes a)) → IfErr r (λ error. IfSome known (λ bytes. Refuses bytes error))
      → IfOk r (λ a. status ≡ 0 → IsTrue a.hold) → IfOk r (λ a. status ≡ 1 → ¬ (IsTrue a.hold))
      → IfOk r (λ a. status ≤ 1 → Appends (printed old) (printed new) (string_bytes a.lines))
      → IfOk r (λ a. GrowsByFront (printed old) (printed new) (string_bytes a.lines))
      → OnOk r ((status ≤ 1) ⊎ (status ≡ 3)) → IfErr r (λ error. (status ≡ error_status error) × (new ≡ old))
      → IfErr r (λ error. error ≡ Text Memory → GrowsByFront (said before) (said after) memory_line)
      → IsReport
  judged_is (Ok a) are refuses holds fails all front few refused memory =
      inl (some_more known (λ bytes. HaveAnswers bytes a) IsSo are (λ bytes h. printed_is a bytes h holds fails all front few))
  judged_is (Err (Read error)) are refuses holds fails all front few refused memory = inr refused
  judged_is (Err (Text Memory)) are refuses holds fails all front few refused memory =
      inl (some_all known IsSo (λ bytes. refused_is bytes refused.0 refused.1 (inr (memory refl))))
  judged_is (Err (Text (Line line expected))) are refuses holds fails all front few refused memory =
      inl (some_more known (λ bytes. ¬ (AreCertificates bytes)) IsSo refuses (λ bytes h. refused_is bytes refused.0 refused.1 (inl h)))
