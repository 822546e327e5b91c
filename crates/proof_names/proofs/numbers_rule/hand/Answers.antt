use Rattle.std.proofs.Common.{arith}
use Rattle.proof_names.proofs.Giving.{hands}
use Rattle.proof_names.proofs.numbers_rule.hand.Goals as goal

pub split_seat-requires : goal.split_seat-requires
split_seat-requires g c =
    let r = c.requires in
    let one = r.table.0 in (r.table.1, omega (arith, one), hands _ _ g.G.Number.number r.leads r.above)
