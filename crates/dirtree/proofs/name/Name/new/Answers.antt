use Rattle.dirtree.specs.Name.{name_bytes}
use Rattle.dirtree.proofs.name.Name.new.Goals as goal

pub returns-in-Ok-clause-same : goal.returns-in-Ok-clause-same
unfolding name_bytes
returns-in-Ok-clause-same c = c.in-Ok.ensures.ok

pub returns-in_ok-from_str-in-Err-clause-same : goal.returns-in_ok-from_str-in-Err-clause-same
unfolding name_bytes
returns-in_ok-from_str-in-Err-clause-same c = c.in_ok-from_str-in-Err.ensures.ok
