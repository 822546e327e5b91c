use Rattle.std.proofs.Common.{◌∙◌, ◌+◌, ◌-◌, [], ◌∷◌, ap, arith, sym, length, length-append}
use Rattle.plan_text.specs.Reading.{read_lines, read_name, with_front}
use Rattle.plan_text.proofs.ReadingLemmas.{lines_next, lines_none}
use Rattle.plan_text.proofs.parser.name_lines.Goals as goal

pub returns-in-None-clause-names : goal.returns-in-None-clause-names
returns-in-None-clause-names c =
    sym c.loop.invariant.read
    ∙ lines_none read_name c.loop.names (c.args.rows - c.loop.counter) (c.args.rows - (c.loop.counter + 1)) c.loop.rest.now (omega arith)
    (sym c.in-None.ensures.value)

pub loop-preserved : goal.loop-preserved
loop-preserved c = record {
  read = ap (λ items. with_front items (read_lines read_name (c.args.rows - (c.loop.counter + 1)) c.in-Some.found.1.now)) c.in_ok-push-in-Some.ensures.pushed
      ∙ (sym (lines_next read_name c.loop.names c.in-Some.found.0.now (c.args.rows - c.loop.counter) (c.args.rows - (c.loop.counter + 1))
      c.loop.rest.now c.in-Some.found.1.now (omega arith) (sym c.in-Some.ensures.value))
      ∙ c.loop.invariant.read);
  size = ap length c.in_ok-push-in-Some.ensures.pushed ∙ omega (arith, length-append c.loop.names (c.in-Some.found.0.now ∷ []), c.loop.invariant.size);
}
