use Rattle.pin_driver.proofs.Restoring.{returns as all, restorer_stays}
use Rattle.pin_driver.proofs.laws.restorer.Goals as goal

pub returns-clause-restored : goal.returns-clause-restored
returns-clause-restored c = λ x more. all x more

pub returns-clause-ended : goal.returns-clause-ended
returns-clause-ended c = λ x s a e. restorer_stays x s a e
