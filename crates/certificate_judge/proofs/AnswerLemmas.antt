-- The answers for one more certificate, and the totals of one more row.
use Rattle.std.proofs.Common.{◌≡◌, ◌∙◌, ◌↔◌, ℕ, suc, ◌+◌, List, [], ◌∷◌, ◌++◌, IsTrue}
use Rattle.std.proofs.Common.{length, refl, sym, ap, subst, arith, append_assoc, append-nil, string_bytes, Some, Bool, true, false, ◌&&◌}
use Rattle.std.proofs.lemmas.List.Elements.{All-append, All-cons, All-nil, All-pop}
use Rattle.std.proofs.lemmas.Bool.{false≢true}
use Rattle.plan_text.specs.declared.certificate.Certificate.{Certificate}
use Rattle.certificate_judge.specs.Judged.{AreAnswersFor, AreVerdicts, HasBest, IsVerdict, ProofsHold}
use Rattle.certificate_judge.specs.declared.answers.Answers.{Answers}

-- one more answer at the end
pushed : (number : ℕ) (cs : List Certificate) (c : Certificate) (lines line : List ℕ) → AreVerdicts number cs lines → IsVerdict (number + length cs) c line
    → AreVerdicts number (cs ++ c ∷ []) (lines ++ line)
pushed number [] c lines line are is =
    let at : number + 0 ≡ number = omega arith in
    (line, [], subst (λ (n : ℕ). IsVerdict n c line) at is, refl, ap (λ (t : List ℕ). t ++ line) are ∙ sym (append-nil line))
pushed number (d ∷ ds) c lines line are is =
    let at : number + suc (length ds) ≡ suc number + length ds = omega arith in (
      are.0,
      are.1 ++ line,
      are.2,
      pushed (suc number) ds c are.1 line are.3 (subst (λ (n : ℕ). IsVerdict n c line) at is),
      ap (λ (t : List ℕ). t ++ line) are.4 ∙ append_assoc are.0 are.1 line,
    )

both_true : (a b : Bool) → (a && b) ≡ true → (a ≡ true) × (b ≡ true)
both_true true b h = (refl, h)
both_true false b h = absurd (false≢true h)

-- one more answer
pub answers_more : (cs : List Certificate) (c : Certificate) (number : ℕ) (a b : Answers) (line : List ℕ) (holds : Bool)
    → number ≡ 1 + length cs → AreAnswersFor cs a
    → IsVerdict number c line → (IsTrue holds ↔ ProofsHold c) → (IsTrue holds → HasBest c)
    → string_bytes b.lines ≡ string_bytes a.lines ++ line → b.hold ≡ (a.hold && holds) → AreAnswersFor (cs ++ c ∷ []) b
answers_more cs c number a b line holds at are is exact best lines hold = record {
  lines = subst (AreVerdicts 1 (cs ++ c ∷ [])) (sym lines) (pushed 1 cs c (string_bytes a.lines) line are.lines (subst (λ (n : ℕ). IsVerdict n c line) at is));
  exact = (
    (λ yes. let both = both_true a.hold holds (sym hold ∙ yes) in
        All-append ProofsHold cs (c ∷ []) (are.exact.0 both.0) (All-cons ProofsHold c [] (exact.0 both.1) (All-nil ProofsHold))),
    (λ all. let parts = All-pop ProofsHold (cs ++ c ∷ []) cs (Some c) refl all in
        hold ∙ (ap (λ (x : Bool). x && holds) (are.exact.1 parts.0) ∙ exact.1 parts.1)),
  );
  best = λ yes. let both = both_true a.hold holds (sym hold ∙ yes) in
      All-append HasBest cs (c ∷ []) (are.best both.0) (All-cons HasBest c [] (best both.1) (All-nil HasBest));
}
