use Rattle.std.proofs.Common.{◌≡◌, ◌∙◌, ap, subst, sym, List, length}
use Rattle.std.specs.Prelude.{IfSome}
use Rattle.std.proofs.lemmas.Option.{none-some, same_Some, some_pair_parts}
use Rattle.std.proofs.lemmas.Result.{err_from_is_err_and}
use Rattle.mds_types.specs.Problem.{ProblemData}
use Rattle.mds_types.specs.declared.problem.ProblemRow.{ProblemRow}
use Rattle.plan_text.specs.Reading.{IsMemory, read_end, read_plan}
use Rattle.plan_text.proofs.ReadingLemmas.{behind_plan, behind_problem, certificate_first, certificate_is}
use Rattle.plan_text.proofs.ReadingLemmas.{certificate_names, end_again, fails_memory, plan_again}
use Rattle.plan_text.proofs.parser.certificate.Goals as goal

pub returns-in_default-clause-again : goal.returns-in_default-clause-again
returns-in_default-clause-again c = λ x more f e. absurd (none-some _ (c.in_default.ensures ∙ certificate_first c.args.text.now x more e))

pub returns-in_err-problem-clause-again : goal.returns-in_err-problem-clause-again
returns-in_err-problem-clause-again c = λ x more f e.
    let fault = err_from_is_err_and c.from_residual.result c.from_residual.ensures.1 in
    let first = some_pair_parts _ _ _ _ (c.in-Some.ensures ∙ certificate_first c.args.text.now x more e) in
    let memory = c.in_err-problem.ensures x.problem (behind_problem x more) f.problem first.1 in
    rw fault.1 (subst IsMemory (sym fault.2) memory)

pub returns-in_err-names-clause-again : goal.returns-in_err-names-clause-again
returns-in_err-names-clause-again c = λ x more f e.
    let fault = err_from_is_err_and c.from_residual-in_err-names.result c.from_residual-in_err-names.ensures.1 in
    let first = some_pair_parts _ _ _ _ (c.in-Some.ensures ∙ certificate_first c.args.text.now x more e) in
    let problem = c.in_ok-problem.ensures x.problem (behind_problem x more) f.problem first.1 in
    let rows : c.rows.result.now ≡ x.problem.rows = c.rows.ensures.value ∙ ap (λ (p : ProblemData). p.rows) problem.0 in
    let read = certificate_names x c.rows.result.now c.in-Some.is_named c.in_ok-problem.rest.now more f first.0 rows problem.1 in
    let memory = fails_memory _ _ _ c.in_err-names.ensures.names read in
    rw fault.1 (subst IsMemory (sym fault.2) memory)

pub returns-in_err-plan-clause-again : goal.returns-in_err-plan-clause-again
returns-in_err-plan-clause-again c = λ x more f e.
    let fault = err_from_is_err_and c.from_residual-in_err-plan.result c.from_residual-in_err-plan.ensures.1 in
    let first = some_pair_parts _ _ _ _ (c.in-Some.ensures ∙ certificate_first c.args.text.now x more e) in
    let problem = c.in_ok-problem.ensures x.problem (behind_problem x more) f.problem first.1 in
    let rows : c.rows.result.now ≡ x.problem.rows = c.rows.ensures.value ∙ ap (λ (p : ProblemData). p.rows) problem.0 in
    let read = certificate_names x c.rows.result.now c.in-Some.is_named c.in_ok-problem.rest.now more f first.0 rows problem.1 in
    let names = some_pair_parts _ _ _ _ (sym c.in_ok-names.ensures.names ∙ read) in
    let memory = fails_memory _ _ _ c.in_err-plan.ensures (ap read_plan names.1 ∙ plan_again x.plan (behind_plan more) f.plan) in
    rw fault.1 (subst IsMemory (sym fault.2) memory)

pub returns-in-Some-end_line-clause-again : goal.returns-in-Some-end_line-clause-again
returns-in-Some-end_line-clause-again c = λ x more f e.
    let first = some_pair_parts _ _ _ _ (c.in-Some.ensures ∙ certificate_first c.args.text.now x more e) in
    let problem = c.in_ok-problem.ensures x.problem (behind_problem x more) f.problem first.1 in
    let rows : c.rows.result.now ≡ x.problem.rows = c.rows.ensures.value ∙ ap (λ (p : ProblemData). p.rows) problem.0 in
    let read = certificate_names x c.rows.result.now c.in-Some.is_named c.in_ok-problem.rest.now more f first.0 rows problem.1 in
    let names = some_pair_parts _ _ _ _ (sym c.in_ok-names.ensures.names ∙ read) in
    let plan = some_pair_parts _ _ _ _ (sym c.in_ok-plan.ensures ∙ (ap read_plan names.1 ∙ plan_again x.plan (behind_plan more) f.plan)) in
    (certificate_is x _ _ _ problem.0 names.0 plan.0, same_Some _ _ (c.in-Some-end_line.ensures ∙ (ap read_end plan.1 ∙ end_again more)))

pub returns-in-Some-end_line-clause-named : goal.returns-in-Some-end_line-clause-named
returns-in-Some-end_line-clause-named c =
    subst (λ (rows : List ProblemRow). IfSome c.in_ok-names.names (λ names. length names ≡ length rows)) c.rows.ensures.value c.in_ok-names.ensures.size

pub returns-clause-again : goal.returns-clause-again
returns-clause-again c = λ x more f e.
    let first = some_pair_parts _ _ _ _ (c.in-Some.ensures ∙ certificate_first c.args.text.now x more e) in
    let problem = c.in_ok-problem.ensures x.problem (behind_problem x more) f.problem first.1 in
    let rows : c.rows.result.now ≡ x.problem.rows = c.rows.ensures.value ∙ ap (λ (p : ProblemData). p.rows) problem.0 in
    let read = certificate_names x c.rows.result.now c.in-Some.is_named c.in_ok-problem.rest.now more f first.0 rows problem.1 in
    let names = some_pair_parts _ _ _ _ (sym c.in_ok-names.ensures.names ∙ read) in
    let plan = some_pair_parts _ _ _ _ (sym c.in_ok-plan.ensures ∙ (ap read_plan names.1 ∙ plan_again x.plan (behind_plan more) f.plan)) in
    none-some more (c.in-None.ensures ∙ (ap read_end plan.1 ∙ end_again more))
