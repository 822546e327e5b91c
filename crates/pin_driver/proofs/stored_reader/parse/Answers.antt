use Rattle.std.proofs.Common.{Err, [], ap}
use Rattle.pin_driver.specs.StoredReading.{read_body}
use Rattle.pin_driver.proofs.Parsing.{body_read, fails_for_memory, found_is, not_other, not_refused, refused_as}
use Rattle.pin_driver.proofs.stored_reader.parse.Goals as goal

pub returns-in-Err-clause-again : goal.returns-in-Err-clause-again
returns-in-Err-clause-again c = λ plan mark fits e. absurd (not_refused c.in-Err.error c.args.text.now plan mark c.in-Err.ensures e)

pub returns-in-Err-clause-newer : goal.returns-in-Err-clause-newer
returns-in-Err-clause-newer c = λ number more small other e. ap Err (refused_as c.in-Err.error c.args.text.now number more c.in-Err.ensures small e)

pub returns-in-Ok-body-clause-again : goal.returns-in-Ok-body-clause-again
returns-in-Ok-body-clause-again c = λ plan mark fits e.
    found_is plan c.in-Ok-body.found.plan mark c.in-Ok-body.found.mark c.in-Ok-body.field-0-1.now (read_body c.in-Ok.rest.now) c.in-Ok-body.ensures
    (body_read c.in-Ok.rest c.args.text.now plan mark c.in-Ok.ensures fits e)

pub returns-in-Ok-body-clause-newer : goal.returns-in-Ok-body-clause-newer
returns-in-Ok-body-clause-newer c = λ number more small other e. absurd (not_other c.in-Ok.rest c.args.text.now number more c.in-Ok.ensures small other e)

pub returns-in-Err-body-clause-again : goal.returns-in-Err-body-clause-again
returns-in-Err-body-clause-again c = λ plan mark fits e.
    fails_for_memory c.in-Err-body.error (read_body c.in-Ok.rest.now) ((plan, mark), []) c.in-Err-body.ensures
    (body_read c.in-Ok.rest c.args.text.now plan mark c.in-Ok.ensures fits e)

pub returns-in-Err-body-clause-newer : goal.returns-in-Err-body-clause-newer
returns-in-Err-body-clause-newer c = λ number more small other e. absurd (not_other c.in-Ok.rest c.args.text.now number more c.in-Ok.ensures small other e)
