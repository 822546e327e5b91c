use Rattle.std.proofs.Common.{ap, map, refl}
use Rattle.script_program.proofs.ExitLemmas.{exits, explained}
use Rattle.script_program.proofs.program.start.Goals as goal

pub returns-in-Ok : goal.returns-in-Ok
returns-in-Ok g c =
    exits g.R.Read.remaining _ _ _ _ c.in-Ok.settings.limit c.in-Ok.settings.strict g.E.Write.contents _ _ _
    (map g.S.AsStr.text c.args.words.now) _ _ c.in-Ok.ensures.accepted c.in-Ok.ensures.limit c.in-Ok.ensures.strict c.in-Ok.ensures.proofs c.carry_out.ensures

pub returns-in-Err : goal.returns-in-Err
returns-in-Err g c =
    explained g.R.Read.remaining g.E.Write.contents _ _ _ _ _ _ _ (map g.S.AsStr.text c.args.words.now) c.in-Err.error _
    c.in-Err.ensures.refused c.explain.ensures.status refl (λ is. ap g.W.Write.contents (c.explain.ensures.unprinted is)) c.explain.ensures.memory
