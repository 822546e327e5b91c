use Rattle.std.proofs.Common.{◌∷◌, ◌∙◌, [], inl, inr, refl, rules, sym}
use Rattle.std.specs.Prelude.{codes}
use Rattle.std.proofs.lemmas.Bool.{false≢true}
use Rattle.std.proofs.lemmas.List.Elements.{All-cons, All-nil}
use Rattle.std.proofs.lemmas.Result.{err_from_is_err_and}
use Rattle.clap.specs.Words.{found_of, rows_of}
use Rattle.mdbal_ceph.specs.WrongValues.{IsRight}
use Rattle.mdbal_ceph.specs.declared.wrong_value.ValueOption.TheVariants.{MostPins, Parts}
use Rattle.mdbal_ceph.specs.declared.wrong_value.WrongValue.TheVariants.{Of}
use Rattle.mdbal_ceph.proofs.WrongValues.{first_at, given_or, right_or}
use Rattle.mdbal_ceph.proofs.settings.parts_asked.Goals as goal

pub returns-in_err-most-clause-wrong : goal.returns-in_err-most-clause-wrong
returns-in_err-most-clause-wrong c =
    let rows = rows_of (found_of c.args.matches.now) in
    let e = err_from_is_err_and c.from_residual.result c.from_residual.ensures.1 in
    let wrong = c.in_err-most.ensures.wrong in
    rw (e.1, e.2)
    (first_at rows [] (Of MostPins) _ (Of Parts ∷ []) wrong.0 (All-nil (IsRight rows))
    (given_or rows MostPins (codes "10000") c.value_or.result.now c.value_or.ensures (search rules) wrong.1))

pub returns-in_err-count-clause-wrong : goal.returns-in_err-count-clause-wrong
returns-in_err-count-clause-wrong c =
    let rows = rows_of (found_of c.args.matches.now) in
    let e = err_from_is_err_and c.from_residual-in_err-count.result c.from_residual-in_err-count.ensures.1 in
    let wrong = c.in_err-count.ensures.wrong in
    let most = right_or rows MostPins (codes "10000") c.value_or.result.now c.value_or.ensures c.in_ok-most.ensures.right in
    rw (e.1, e.2)
    (first_at rows (Of MostPins ∷ []) (Of Parts) _ [] wrong.0 (All-cons (IsRight rows) (Of MostPins) [] most (All-nil (IsRight rows)))
    (given_or rows Parts (codes "auto") c.value_or-text.result.now c.value_or-text.ensures (inl refl)
    (λ taken. elim taken [ inl auto ↦ absurd (false≢true (sym c.if-eq.false ∙ (c.eq.ensures ∙ auto))) | inr count ↦ wrong.1 count ])))
