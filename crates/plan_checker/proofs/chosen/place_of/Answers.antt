use Rattle.std.proofs.Common.{◌∙◌, sym, arith}
use Rattle.mds_types.specs.RankSet.{has_rank}
use Rattle.mds_types.proofs.RankSetLemmas.{count_below_more}
use Rattle.plan_checker.proofs.chosen.place_of.Goals as goal
use Rattle.plan_checker.proofs.chosen.place_of.Goals.{then-has_number, else-has_number}

pub loop-number-preserved : goal.loop-number-preserved
loop-number-preserved c =
    let one = count_below_more c.loop-number.number (has_rank c.args.ranks) in
    elim c.if-has_number.branch [
      | then-has_number w ↦
          (let has = sym c.has_number.ensures ∙ w.if-has_number.true in
          let step = rw has at one in
          omega (arith, step))
      | else-has_number w ↦
          (let has = sym c.has_number.ensures ∙ w.if-has_number.false in
          let step = rw has at one in
          omega (arith, step))
    ]
