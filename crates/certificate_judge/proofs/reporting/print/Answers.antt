use Rattle.std.proofs.Common.{ap}
use Rattle.certificate_judge.proofs.PrintLemmas.{no_piece, one_piece}
use Rattle.certificate_judge.proofs.reporting.print.Goals as goal
use Rattle.certificate_judge.proofs.reporting.print.Goals.{in-Ok, in-Err+else-ne}

pub loop-preserved : goal.loop-preserved
loop-preserved g c =
    let old = g.W.Write.contents c.args.writer.now in
    let before = g.W.Write.contents c.loop.writer in
    let after = g.W.Write.contents c.write.new.self in
    elim c.match-write.branch [
      | in-Ok w ↦ one_piece old before after c.args.text.now c.loop.rest.now c.match-write.rest.now w.in-Ok.count c.loop.invariant
          w.in-Ok.ensures.bytes (ap (λ r. r.now) w.rest-is)
      | in-Err+else-ne w ↦ no_piece old before after c.args.text.now c.loop.rest.now c.match-write.rest.now c.loop.invariant
          w.in-Err.ensures.bytes (ap (λ r. r.now) w.rest-is)
    ]
