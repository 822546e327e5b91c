-- What is known of a file when some of its certificates are judged.
use Rattle.std.proofs.Common.{◌≡◌, ◌≢◌, ◌∙◌, ℕ, ◌+◌, ◌<◌, ◌≤◌, List, [], ◌∷◌, ◌++◌, All}
use Rattle.std.proofs.Common.{length, refl, sym, ap, subst, arith, append_assoc, append-nil, length-append, Option, Some, None, IfSome}
use Rattle.std.specs.Io.KnownBytes.{Consumes, IsAtEnd, prepend_known}
use Rattle.std.proofs.KnownBytes.{Consumes-trans}
use Rattle.std.proofs.lemmas.List.Elements.{All-append, All-cons, All-head, All-nil, All-tail}
use Rattle.mds_types.specs.Plan.{PlanData}
use Rattle.mds_types.specs.Problem.{ProblemData}
use Rattle.plan_text.specs.Text.{text, texts}
use Rattle.plan_text.specs.Writable.{IsWritable}
use Rattle.plan_text.specs.declared.certificate.Certificate.{Certificate}
use Rattle.certificate_judge.specs.Judged.{AreAnswersFor, AreCertificates, AreTexts, HaveAnswers, ProofsHold, Refuses}
use Rattle.certificate_judge.specs.Unjudged.{BeginsNone, IsFault}
use Rattle.plan_text.specs.declared.read_error.ReadError.TheVariants.{Line, Memory}
use Rattle.certificate_judge.specs.declared.judge_error.JudgeError.{JudgeError}
use Rattle.certificate_judge.specs.declared.judge_error.JudgeError.TheVariants.{Read, Text}
use Rattle.certificate_judge.specs.declared.answers.Answers.{Answers}

abbrev own : Certificate → List ℕ
own c = text c.problem c.names c.plan

abbrev pub PrefixFree : Type 0
PrefixFree = (c d : Certificate) (r s : List ℕ) → IsWritable c → IsWritable d
    → text c.problem c.names c.plan ++ r ≡ text d.problem d.names d.plan ++ s → (c ≡ d) × (r ≡ s)

-- these certificates were judged, and these bytes are left
pub record IsUpTo (known left : Option (List ℕ)) (count : ℕ) (made : Answers) (done : List Certificate) : Type 0 where
  pub writable : All IsWritable done
  pub read : Consumes known left (texts done)
  pub answers : AreAnswersFor done made
  pub number : count ≡ 1 + length done

some_text : (problem : ProblemData) (names : Option (List (List ℕ))) (plan : PlanData) → 0 < length (text problem names plan)
some_text problem None plan = omega arith
some_text problem (Some names) plan = omega arith

not_nil : (c : Certificate) (more : List ℕ) → own c ++ more ≢ []
not_nil c more h = omega (arith, some_text c.problem c.names c.plan, length-append (own c) more, ap length h)

texts_more : (cs : List Certificate) (c : Certificate) → texts (cs ++ c ∷ []) ≡ texts cs ++ own c
texts_more [] c = append-nil (own c)
texts_more (d ∷ ds) c = ap (λ (t : List ℕ). own d ++ t) (texts_more ds c) ∙ sym (append_assoc (own d) (texts ds) (own c))

-- certificates that begin as these do have them first
these_first : PrefixFree → (done cs : List Certificate) (rest : List ℕ) → All IsWritable done → All IsWritable cs → texts cs ≡ texts done ++ rest
    → (more : List Certificate) × (cs ≡ done ++ more) × (texts more ≡ rest) × All IsWritable more
these_first free [] cs rest p q e = (cs, refl, e, q)
these_first free (d ∷ ds) [] rest p q e = absurd (not_nil d (texts ds ++ rest) (sym (append_assoc (own d) (texts ds) rest) ∙ sym e))
these_first free (d ∷ ds) (c ∷ cs) rest p q e =
    let first = free c d (texts cs) (texts ds ++ rest) (All-head IsWritable c cs q) (All-head IsWritable d ds p) (e ∙ append_assoc (own d) (texts ds) rest) in
    let more = these_first free ds cs rest (All-tail IsWritable d ds p) (All-tail IsWritable c cs q) first.1 in
    (more.0, cc (first.0, more.1), more.2, more.3)

none_for_nil : (cs : List Certificate) → texts cs ≡ [] → cs ≡ []
none_for_nil [] h = refl
none_for_nil (c ∷ cs) h = absurd (not_nil c (texts cs) h)

-- no others have the text of these
pub only_these : PrefixFree → (done cs : List Certificate) → All IsWritable done → All IsWritable cs → texts cs ≡ texts done → cs ≡ done
only_these free done cs p q e =
    let first = these_first free done cs [] p q (e ∙ sym (append-nil (texts done))) in
    first.1 ∙ (ap (λ (t : List Certificate). done ++ t) (none_for_nil first.0 first.2) ∙ append-nil done)

-- bytes that are left and begin with no certificate are those of none
no_more : (rest : List ℕ) (more : List Certificate) → rest ≢ [] → BeginsNone rest → texts more ≡ rest → All IsWritable more → ⊥
no_more rest [] some none e q = some (sym e)
no_more rest (c ∷ cs) some none e q = none c (texts cs) (All-head IsWritable c cs q) (sym e)

no_elements : (cs : List Certificate) → length cs ≡ 0 → cs ≡ []
no_elements [] h = refl
no_elements (c ∷ cs) h = absurd (omega (arith, h))

module _ (free : PrefixFree) (number : ℕ) (answers : Answers) (done : List Certificate) where
  -- all are judged
  pub all_judged : (known left : Option (List ℕ)) → IsUpTo known left number answers done → IsAtEnd left → 1 < number
      → IfSome known (λ bytes. HaveAnswers bytes answers)
  all_judged None left at end some = tt
  all_judged (Some bytes) None at end some = absurd at.read
  all_judged (Some bytes) (Some rest) at end some =
      let same : bytes ≡ texts done = at.read ∙ (ap (λ (t : List ℕ). texts done ++ t) end ∙ append-nil (texts done)) in
      let made : AreTexts bytes done = record { writable = at.writable; same = same; some = omega (arith, some, at.number) } in
      record {
        certificates = (done, made);
        lines = (done, made, at.answers.lines);
        exact = (
          (λ yes. (done, made, at.answers.exact.0 yes)),
          (λ all. at.answers.exact.1 (subst (All ProofsHold) (only_these free done all.0 at.writable all.1.writable (sym all.1.same ∙ same)) all.2)),
        );
        best = λ yes. (done, made, at.answers.best yes);
      }

  -- there is none
  pub none_judged : (known left : Option (List ℕ)) → IsUpTo known left number answers done → IsAtEnd left → number ≤ 1
      → IfSome known (λ bytes. ¬ (AreCertificates bytes))
  none_judged None left at end few = tt
  none_judged (Some bytes) None at end few = absurd at.read
  none_judged (Some bytes) (Some rest) at end few = λ are.
      let none : done ≡ [] = no_elements done (omega (arith, few, at.number)) in
      let same : bytes ≡ [] = at.read ∙ (ap (λ (cs : List Certificate). texts cs ++ rest) none ∙ end) in
      omega (arith, are.1.some, ap length (none_for_nil are.0 (sym are.1.same ∙ same)))

  -- what is left begins with none
  pub faulty : (known left : Option (List ℕ)) → IsUpTo known left number answers done → IfSome left (λ rest. (rest ≢ []) × BeginsNone rest)
      → IfSome known (λ bytes. ¬ (AreCertificates bytes))
  faulty None left at fault = tt
  faulty (Some bytes) None at fault = absurd at.read
  faulty (Some bytes) (Some rest) at fault = λ are.
      let first = these_first free done are.0 rest at.writable are.1.writable (sym are.1.same ∙ at.read) in
      no_more rest first.0 fault.0 fault.1 first.2 first.3

-- one more is judged
pub one_more : (known left after : Option (List ℕ)) (number : ℕ) (a b : Answers) (done : List Certificate) (c : Certificate)
    → IsUpTo known left number a done → IsWritable c
    → Consumes left after (text c.problem c.names c.plan) → AreAnswersFor (done ++ c ∷ []) b → IsUpTo known after (number + 1) b (done ++ c ∷ [])
one_more known left after number a b done c at w read are = record {
  writable = All-append IsWritable done (c ∷ []) at.writable (All-cons IsWritable c [] w (All-nil IsWritable));
  read = subst (Consumes known after) (sym (texts_more done c)) (Consumes-trans known left after (texts done) (own c) at.read read);
  answers = are;
  number = omega (arith, at.number, length-append done (c ∷ []));
}

-- an error is one of the whole file
pub refuses : PrefixFree → (known left : Option (List ℕ)) (number : ℕ) (made : Answers) (done : List Certificate) (error : JudgeError)
    → IsUpTo known left number made done → IsFault left error
    → IfSome known (λ bytes. Refuses bytes error)
refuses free None left number made done error at fault = tt
refuses free (Some bytes) left number made done (Read error) at fault = tt
refuses free (Some bytes) left number made done (Text Memory) at fault = tt
refuses free (Some bytes) left number made done (Text (Line line expected)) at fault = faulty free number made done (Some bytes) left at fault

all_left : (known : Option (List ℕ)) (bytes : List ℕ) → bytes ≡ [] → Consumes known (prepend_known bytes known) []
all_left None bytes none = tt
all_left (Some all) bytes none = ap (λ (t : List ℕ). t ++ all) (sym none)

-- nothing is judged yet
pub begins : (known : Option (List ℕ)) (bytes : List ℕ) (made : Answers) → bytes ≡ [] → AreAnswersFor [] made
    → IsUpTo known (prepend_known bytes known) 1 made []
begins known bytes made none are = record { writable = All-nil IsWritable; read = all_left known bytes none; answers = are; number = refl }
