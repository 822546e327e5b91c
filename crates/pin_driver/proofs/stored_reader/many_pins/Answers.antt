use Rattle.std.proofs.Common.{◌∙◌, ◌+◌, ◌-◌, ap, arith, subst, sym}
use Rattle.pin_driver.specs.StoredReading.{FailsAs, after_those, read_many, read_earlier}
use Rattle.pin_driver.proofs.Many.{many_fails, many_next}
use Rattle.pin_driver.proofs.stored_reader.many_pins.Goals as goal

pub returns-in-Err : goal.returns-in-Err
returns-in-Err c =
    subst (FailsAs c.in-Err.error) c.loop.invariant
    (many_fails read_earlier c.loop.pins.items (c.args.count - c.loop.counter) (c.args.count - (c.loop.counter + 1)) c.loop.rest.now c.in-Err.error
    (omega arith) c.in-Err.ensures)

pub loop-preserved : goal.loop-preserved
loop-preserved c =
    ap (λ items. after_those items (read_many read_earlier (c.args.count - (c.loop.counter + 1)) c.in-Ok.found.1.now)) c.in_ok-push-in-Ok.ensures.items
    ∙ (sym (many_next read_earlier c.loop.pins.items c.in-Ok.found.0 (c.args.count - c.loop.counter) (c.args.count - (c.loop.counter + 1))
    c.loop.rest.now c.in-Ok.found.1.now (omega arith) c.in-Ok.ensures)
    ∙ c.loop.invariant)
