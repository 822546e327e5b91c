use Rattle.std.proofs.Common.{◌++◌, ◌∷◌, [], ℕ, List, Option, IfSome, arith, subst, sym}
use Rattle.std.specs.Io.KnownBytes.{Consumes}
use Rattle.std.proofs.lemmas.Result.{err_from_is_err_and}
use Rattle.plan_text.specs.Text.{text}
use Rattle.plan_text.specs.Writable.{IsWritable}
use Rattle.plan_text.specs.declared.certificate.Certificate.{Certificate}
use Rattle.certificate_judge.specs.Judged.{Refuses}
use Rattle.certificate_judge.specs.Unjudged.{left}
use Rattle.certificate_judge.specs.declared.judge_error.JudgeError.{JudgeError}
use Rattle.certificate_judge.proofs.JudgingLemmas.{all_judged, none_judged, one_more, refuses}
use Rattle.certificate_judge.proofs.judging.judge.Goals as goal

pub returns-in_err-certificate-clause-refused : goal.returns-in_err-certificate-clause-refused
returns-in_err-certificate-clause-refused g c =
    let fault = err_from_is_err_and c.from_residual.result c.from_residual.ensures.1 in
    let known : Option (List ℕ) = g.R.Read.remaining c.args.reader.now in
    rw fault.1 (subst (λ (e : JudgeError). IfSome known (λ bytes. Refuses bytes e)) (sym fault.2)
    (refuses c.prefix_free.ensures known _ c.loop-number.number c.loop-number.answers c.loop-number.invariant.0 _ c.loop-number.invariant.1
    c.in_err-certificate.ensures.refused))

pub returns-in-None-clause-answered : goal.returns-in-None-clause-answered
returns-in-None-clause-answered g c =
    all_judged c.prefix_free.ensures c.loop-number.number c.loop-number.answers c.loop-number.invariant.0
    (g.R.Read.remaining c.args.reader.now) _ c.loop-number.invariant.1
    (c.in_ok-certificate.ensures.end c.in-None.is) (omega (arith, c.if-number-gt1.true))

pub returns-in-None-2-clause-refused : goal.returns-in-None-2-clause-refused
returns-in-None-2-clause-refused g c =
    none_judged c.prefix_free.ensures c.loop-number.number c.loop-number.answers c.loop-number.invariant.0
    (g.R.Read.remaining c.args.reader.now) _ c.loop-number.invariant.1
    (c.in_ok-certificate.ensures.end c.in-None.is) (omega (arith, c.if-number-gt1.false))

pub loop-number-preserved : goal.loop-number-preserved
loop-number-preserved g c =
    let done : List Certificate = c.loop-number.invariant.0 in
    let one : Certificate = c.in-Some.certificate in
    let before : Option (List ℕ) = left c.loop-number.unjudged (g.R.Read.remaining c.loop-number.reader) in
    let after : Option (List ℕ) = left c.next.new.self (g.R.Read.remaining c.next.new.reader) in (
      done ++ one ∷ [],
      one_more (g.R.Read.remaining c.args.reader.now) before after c.loop-number.number c.loop-number.answers c.add.new.self done one c.loop-number.invariant.1
          (subst (λ (o : Option Certificate). IfSome o IsWritable) c.in-Some.is c.in_ok-certificate.ensures.writable)
          (subst (λ (o : Option Certificate). IfSome o (λ d. Consumes before after (text d.problem d.names d.plan))) c.in-Some.is
          c.in_ok-certificate.ensures.found)
          (c.in_ok-add-in-Some.ensures done c.loop-number.invariant.1.number c.loop-number.invariant.1.answers),
    )
