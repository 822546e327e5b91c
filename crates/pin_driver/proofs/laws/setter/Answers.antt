use Rattle.pin_driver.proofs.Setting.{drives, setter_stays}
use Rattle.pin_driver.proofs.laws.setter.Goals as goal

pub returns-clause-driven : goal.returns-clause-driven
returns-clause-driven c = λ x more mark. drives x more mark

pub returns-clause-ended : goal.returns-clause-ended
returns-clause-ended c = λ x s a e. setter_stays x s a e
