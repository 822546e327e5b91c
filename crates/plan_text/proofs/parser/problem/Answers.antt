use Rattle.std.proofs.Common.{◌∙◌, sym, subst}
use Rattle.std.proofs.lemmas.Option.{none-some, some_pair_parts}
use Rattle.std.proofs.lemmas.Result.{err_from_is_err_and}
use Rattle.plan_text.specs.Reading.{IsMemory}
use Rattle.plan_text.proofs.ReadingLemmas.{fails_memory, no_fault, problem_is, problem_mask, problem_rows}
use Rattle.plan_text.proofs.parser.problem.Goals as goal

pub returns-in_default : goal.returns-in_default
returns-in_default c = λ x more f e. absurd (none-some _ (c.in_default.ensures ∙ problem_mask c.args.text.now x more f e))

pub returns-in_err-rows : goal.returns-in_err-rows
returns-in_err-rows c = λ x more f e.
    let fault = err_from_is_err_and c.from_residual.result c.from_residual.ensures.1 in
    let parts = problem_rows c.args.text.now x more f e c.in-Some.ranks.0 c.in-Some.ranks.1.now c.in-Some.ensures in
    let memory = fails_memory _ _ _ c.in_err-rows.ensures parts.1 in
    rw fault.1 (subst IsMemory (sym fault.2) memory)

pub returns-in-Ok : goal.returns-in-Ok
returns-in-Ok c = λ x more f e.
    let parts = problem_rows c.args.text.now x more f e c.in-Some.ranks.0 c.in-Some.ranks.1.now c.in-Some.ensures in
    let read = some_pair_parts _ _ _ _ (sym c.in_ok-rows.ensures ∙ parts.1) in
    (c.in-Ok.ensures.ok ∙ problem_is x _ _ read.0 parts.0, read.1)

pub returns : goal.returns
returns c = λ x more f e.
    let parts = problem_rows c.args.text.now x more f e c.in-Some.ranks.0 c.in-Some.ranks.1.now c.in-Some.ensures in
    let read = some_pair_parts _ _ _ _ (sym c.in_ok-rows.ensures ∙ parts.1) in
    no_fault x _ _ _ f.sound read.0 parts.0 c.in-Err.ensures.err
