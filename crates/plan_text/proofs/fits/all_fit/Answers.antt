use Rattle.std.proofs.Common.{◌≡◌, ◌<◌, ◌^◌, All, arith, length, subst, take}
use Rattle.std.proofs.lemmas.List.{take_all}
use Rattle.plan_text.proofs.AllLemmas.{all_next}
use Rattle.plan_text.proofs.fits.all_fit.Goals as goal

pub loop-item-preserved : goal.loop-item-preserved
loop-item-preserved g c =
    all_next g.T.Line.fits c.args.items.now c.loop-item.item-index c.item-item.result (omega arith) c.loop-item.invariant
    (subst g.T.Line.fits c.item-item.is c.known.ensures)

pub returns : goal.returns
returns g c =
    let all : take c.loop-item.item-index c.args.items.now ≡ c.args.items.now = take_all c.loop-item.item-index c.args.items.now (omega arith) in
    let short : length c.args.items.now < 2 ^ 64 = omega arith in
    record { short = short; all = subst (All g.T.Line.fits) all c.loop-item.invariant }
