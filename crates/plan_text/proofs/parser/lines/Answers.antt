use Rattle.std.proofs.Common.{◌∙◌, ◌+◌, ◌-◌, ap, arith, sym}
use Rattle.plan_text.specs.Reading.{read_lines, with_front}
use Rattle.plan_text.proofs.ReadingLemmas.{lines_next, lines_none}
use Rattle.plan_text.proofs.parser.lines.Goals as goal

pub returns-in-None : goal.returns-in-None
returns-in-None g c =
    sym c.loop.invariant
    ∙ lines_none g.T.Line.at c.loop.items.items (c.args.count - c.loop.counter) (c.args.count - (c.loop.counter + 1)) c.loop.rest.now
    (omega arith) (sym c.in-None.ensures)

pub loop-preserved : goal.loop-preserved
loop-preserved g c =
    ap (λ items. with_front items (read_lines g.T.Line.at (c.args.count - (c.loop.counter + 1)) c.in-Some.found.1.now)) c.in_ok-push-in-Some.ensures.items
    ∙ (sym (lines_next g.T.Line.at c.loop.items.items c.in-Some.found.0 (c.args.count - c.loop.counter)
    (c.args.count - (c.loop.counter + 1)) c.loop.rest.now c.in-Some.found.1.now (omega arith) (sym c.in-Some.ensures))
    ∙ c.loop.invariant)
