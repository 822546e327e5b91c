use Rattle.std.proofs.Common.{arith}
use Rattle.proof_names.proofs.Moves.{splits}
use Rattle.proof_names.proofs.rule.split.Goals as goal

pub split_seat-requires : goal.split_seat-requires
split_seat-requires g c =
    let one = c.requires.table.0 in (c.requires.table.1, omega (arith, one), splits _ _)
