use Rattle.std.proofs.Common.{◌≡◌, ◌==◌, List, [], ◌∷◌, Option, Ok, Err, ap, sym, ◌∙◌, rules}
use Rattle.std.specs.List.{slice_split}
use Rattle.std.proofs.lemmas.Result.{err_from_is_err_and}
use Rattle.dirtree.specs.Tree.{Entry}
use Rattle.dirtree.specs.Path.{walk}
use Rattle.dirtree.proofs.Paths.{walk_ok, walk_err, first_part, only_part}
use Rattle.dirtree.proofs.tree.Tree.walk.Goals as goal

pub returns-in_err-at-clause-dir : goal.returns-in_err-at-clause-dir
returns-in_err-at-clause-dir c =
    let es : List (Option Entry) = c.args.self.now.entries in
    let parts : slice_split (λ b. b == 47) c.loop-name.rest.now
    ≡ c.in-Some.name.now ∷ slice_split (λ b. b == 47) c.in-Some.more.now =
    first_part c.loop-name.rest.now c.split_once.result c.in-Some.name c.in-Some.more c.split_once.ensures.cases c.in-Some.is in
    let e = err_from_is_err_and c.from_residual.result c.from_residual.ensures.1 in
    let step : walk es c.loop-name.at (c.in-Some.name.now ∷ []) ≡ Err c.in_err-at.field-0.0 = sym c.step.ensures.child ∙ c.in_err-at.was in
    e.1 ∙ ap Err e.2 ∙ sym (walk_err es c.loop-name.at c.in_err-at.field-0.0 c.in-Some.name.now
    (slice_split (λ b. b == 47) c.in-Some.more.now) step) ∙ ap (walk es c.loop-name.at) (sym parts) ∙ c.loop-name.invariant.1

pub loop-name-preserved : goal.loop-name-preserved
loop-name-preserved c =
    let es : List (Option Entry) = c.args.self.now.entries in
    let parts : slice_split (λ b. b == 47) c.loop-name.rest.now
    ≡ c.in-Some.name.now ∷ slice_split (λ b. b == 47) c.in-Some.more.now =
    first_part c.loop-name.rest.now c.split_once.result c.in-Some.name c.in-Some.more c.split_once.ensures.cases c.in-Some.is in
    let step : walk es c.loop-name.at (c.in-Some.name.now ∷ []) ≡ Ok c.in_ok-at.at = sym c.step.ensures.child ∙ c.in_ok-at.was in (
      search rules,
      sym (walk_ok es c.loop-name.at c.in_ok-at.at c.in-Some.name.now (slice_split (λ b. b == 47) c.in-Some.more.now) step)
          ∙ ap (walk es c.loop-name.at) (sym parts) ∙ c.loop-name.invariant.1,
    )

pub returns-clause-dir : goal.returns-clause-dir
returns-clause-dir c =
    let es : List (Option Entry) = c.args.self.now.entries in
    let whole : slice_split (λ b. b == 47) c.loop-name.rest.now
    ≡ c.loop-name.rest.now ∷ [] = only_part c.loop-name.rest.now c.split_once.result c.split_once.ensures.cases c.in_default.is in
    c.step-2.ensures.child ∙ ap (walk es c.loop-name.at) (sym whole) ∙ c.loop-name.invariant.1
