use Rattle.std.proofs.Common.{◌∷◌, [], rules}
use Rattle.std.specs.Prelude.{codes}
use Rattle.std.proofs.lemmas.List.Elements.{All-cons, All-nil}
use Rattle.std.proofs.lemmas.Result.{err_from_is_err_and}
use Rattle.clap.specs.Words.{found_of, rows_of}
use Rattle.mdbal_ceph.specs.WrongValues.{IsRight}
use Rattle.mdbal_ceph.specs.declared.wrong_value.ValueOption.TheVariants.{LeastByInodes, LeastGain, LeastHeat}
use Rattle.mdbal_ceph.specs.declared.wrong_value.WrongValue.TheVariants.{Of}
use Rattle.mdbal_ceph.proofs.WrongValues.{first_at, given_if, given_or, right_or}
use Rattle.mdbal_ceph.proofs.settings.least_of.Goals as goal

pub returns-in_err-heat-clause-wrong : goal.returns-in_err-heat-clause-wrong
returns-in_err-heat-clause-wrong c =
    let rows = rows_of (found_of c.args.matches.now) in
    let e = err_from_is_err_and c.from_residual.result c.from_residual.ensures.1 in
    let wrong = c.in_err-heat.ensures.wrong in
    rw (e.1, e.2)
    (first_at rows [] (Of LeastHeat) _ (Of LeastGain ∷ Of LeastByInodes ∷ []) wrong.0 (All-nil (IsRight rows))
    (given_if rows LeastHeat _ c.value_of.ensures wrong.1))

pub returns-in_err-percent-clause-wrong : goal.returns-in_err-percent-clause-wrong
returns-in_err-percent-clause-wrong c =
    let rows = rows_of (found_of c.args.matches.now) in
    let e = err_from_is_err_and c.from_residual-in_err-percent.result c.from_residual-in_err-percent.ensures.1 in
    let wrong = c.in_err-percent.ensures.wrong in
    let heat : IsRight rows (Of LeastHeat) = search rules in
    rw (e.1, e.2)
    (first_at rows (Of LeastHeat ∷ []) (Of LeastGain) _ (Of LeastByInodes ∷ []) wrong.0
    (All-cons (IsRight rows) (Of LeastHeat) [] heat (All-nil (IsRight rows)))
    (given_or rows LeastGain (codes "5") c.value_or.result.now c.value_or.ensures (search rules) wrong.1))

pub returns-in_err-each_thousand-clause-wrong : goal.returns-in_err-each_thousand-clause-wrong
returns-in_err-each_thousand-clause-wrong c =
    let rows = rows_of (found_of c.args.matches.now) in
    let e = err_from_is_err_and c.from_residual-in_err-each_thousand.result c.from_residual-in_err-each_thousand.ensures.1 in
    let wrong = c.in_err-each_thousand.ensures.wrong in
    let heat : IsRight rows (Of LeastHeat) = search rules in
    let gain : IsRight rows (Of LeastGain) =
    right_or rows LeastGain (codes "5") c.value_or.result.now c.value_or.ensures c.in_ok-percent.ensures.right in
    rw (e.1, e.2)
    (first_at rows (Of LeastHeat ∷ Of LeastGain ∷ []) (Of LeastByInodes) _ [] wrong.0
    (All-cons (IsRight rows) (Of LeastHeat) (Of LeastGain ∷ []) heat
    (All-cons (IsRight rows) (Of LeastGain) [] gain (All-nil (IsRight rows))))
    (given_or rows LeastByInodes (codes "0") c.value_or-2.result.now c.value_or-2.ensures (search rules) wrong.1))
