use Rattle.proof_names.proofs.Giving.{begins}
use Rattle.proof_names.proofs.numbers_rule.open.Goals as goal

pub of_words-requires : goal.of_words-requires
of_words-requires c = begins
