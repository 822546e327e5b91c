use Rattle.proof_names.proofs.Moves.{begins}
use Rattle.proof_names.proofs.rule.open.Goals as goal

pub of_words-requires : goal.of_words-requires
of_words-requires g c = begins
