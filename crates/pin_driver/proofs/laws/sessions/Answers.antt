use Rattle.pin_driver.proofs.Sessions.{accounts}
use Rattle.pin_driver.proofs.laws.sessions.Goals as goal

pub returns : goal.returns
returns c = λ plan start sessions mark sound are m. accounts plan start sessions mark sound are m
