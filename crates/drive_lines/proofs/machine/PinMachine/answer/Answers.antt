use Rattle.drive_lines.proofs.Runs.{restorer_answered, setter_answered}
use Rattle.drive_lines.proofs.machine.PinMachine.answer.Goals as goal

pub returns-in-Setter-clause-after : goal.returns-in-Setter-clause-after
returns-in-Setter-clause-after c = λ is_back x more is.
    setter_answered is_back x more c.in-Setter.setter c.answer.new.self c.args.answer c.answer.ensures.task c.answer.ensures.state
    (rw (← c.in-Setter.is) is)

pub returns-in-Restorer-clause-after : goal.returns-in-Restorer-clause-after
returns-in-Restorer-clause-after c = λ is_back x more is.
    restorer_answered is_back x more c.in-Restorer.restorer c.answer-in-Restorer.new.self c.args.answer c.answer-in-Restorer.ensures.task
    c.answer-in-Restorer.ensures.state (rw (← c.in-Restorer.is) is)
