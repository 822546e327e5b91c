use Rattle.certificate_judge.proofs.ReadingLemmas.{behind, no_line, to_piece}
use Rattle.certificate_judge.proofs.unjudged.Unjudged.first.Goals as goal

pub returns-in-Ok-clause-found : goal.returns-in-Ok-clause-found
returns-in-Ok-clause-found c =
    behind c.args.self.now.bytes.items c.deref.result.now _ c.in-Ok.rest.now c.args.self.now.judged c.deref.ensures.value c.in-Ok.ensures.same

pub returns-in-Err-Line-clause-refused : goal.returns-in-Err-Line-clause-refused
returns-in-Err-Line-clause-refused c = λ x more f e.
    no_line _ _ _ c.in-Err-Line.field-0-is
    (c.in-Err-Line.ensures.accepts x more f (to_piece c.args.self.now.bytes.items c.deref.result.now _ c.args.self.now.judged c.deref.ensures.value e))
