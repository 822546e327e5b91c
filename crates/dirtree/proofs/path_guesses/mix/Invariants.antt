use Rattle.std.proofs.Common.{length}
use Rattle.dirtree.proofs.path_guesses.mix.Given as goal

abbrev pub decreases-loop-word : goal.decreases-loop-word
decreases-loop-word l = length l.rest
