use Rattle.std.proofs.Common.{◌≡◌, ◌∙◌, ◌++◌, ℕ, List, Option, Some, None, ap, subst, sym}
use Rattle.std.proofs.lemmas.Bool.Decides.{Decides-eqb}
use Rattle.std.proofs.lemmas.Slice.Eq.{strip_prefix_is}
use Rattle.plan_text.specs.Reading.{IsMemory}
use Rattle.plan_text.specs.Text.{text}
use Rattle.plan_text.specs.declared.certificate.Certificate.{Certificate}
use Rattle.plan_text.proofs.reader.read_first.Goals as goal

pub returns-in-Err-Expected-clause-accepts : goal.returns-in-Err-Expected-clause-accepts
returns-in-Err-Expected-clause-accepts c = λ x more f e. absurd (subst IsMemory c.in-Err-Expected.field-0-is (c.in-Err-Expected.ensures.again x more f e))

pub returns-in-Some-clause-same : goal.returns-in-Some-clause-same
returns-in-Some-clause-same c =
    let one : Certificate = c.in-Ok.first in
    let made : c.as_bytes.result.now ≡ text one.problem one.names one.plan =
    c.as_bytes.ensures.value ∙ (c.in_ok-written.ensures.text
    ∙ ap (λ (names : Option (List (List ℕ))). text one.problem names one.plan) c.as_ref-names.ensures.value) in
    strip_prefix_is Decides-eqb c.args.text.now c.as_bytes.result.now (Some c.in-Some.rest) c.in-Some.ensures.cases
    ∙ ap (λ (t : List ℕ). t ++ c.in-Some.rest.now) made

pub returns-clause-accepts : goal.returns-clause-accepts
returns-clause-accepts c = λ x more f e.
    let one : Certificate = c.in-Ok.first in
    let made : c.as_bytes.result.now ≡ text one.problem one.names one.plan =
    c.as_bytes.ensures.value ∙ (c.in_ok-written.ensures.text
    ∙ ap (λ (names : Option (List (List ℕ))). text one.problem names one.plan) c.as_ref-names.ensures.value) in
    let is = c.in-Ok.ensures.again x more f e in
    let same : c.as_bytes.result.now ≡ text x.problem x.names x.plan = made ∙ ap (λ (d : Certificate). text d.problem d.names d.plan) is.0 in
    absurd (strip_prefix_is Decides-eqb c.args.text.now c.as_bytes.result.now None c.in-None.ensures.cases more (e ∙ ap (λ (t : List ℕ). t ++ more) (sym same)))
