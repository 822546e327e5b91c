use Rattle.std.proofs.Common.{◌∙◌, ◌+◌, ◌-◌, ap, arith, subst, sym}
use Rattle.pin_driver.specs.StoredReading.{FailsAs, after_those, read_many, read_change}
use Rattle.pin_driver.proofs.Many.{many_fails, many_next}
use Rattle.pin_driver.proofs.stored_reader.many_changes.Goals as goal

pub returns-in-Err : goal.returns-in-Err
returns-in-Err c =
    subst (FailsAs c.in-Err.error) c.loop.invariant
    (many_fails read_change c.loop.changes.items (c.args.count - c.loop.counter) (c.args.count - (c.loop.counter + 1)) c.loop.rest.now c.in-Err.error
    (omega arith) c.in-Err.ensures)

pub loop-preserved : goal.loop-preserved
loop-preserved c =
    ap (λ items. after_those items (read_many read_change (c.args.count - (c.loop.counter + 1)) c.in-Ok.found.1.now)) c.in_ok-push-in-Ok.ensures.items
    ∙ (sym (many_next read_change c.loop.changes.items c.in-Ok.found.0 (c.args.count - c.loop.counter) (c.args.count - (c.loop.counter + 1))
    c.loop.rest.now c.in-Ok.found.1.now (omega arith) c.in-Ok.ensures)
    ∙ c.loop.invariant)
