use Rattle.std.proofs.Common.{Vec, Global, map, arith}
use Rattle.std.proofs.lemmas.Grind.{common_steps}
use Rattle.std.proofs.lemmas.List.{length-map}
use Rattle.rank_threads.specs.declared.work.Work.{Work}
use Rattle.rank_threads.proofs.desk.Serving.serve_all.Goals as goal

pub returns-clause-served : goal.returns-clause-served
returns-clause-served g c =
    let same = length-map c.args.scripts.now (λ (s : Vec Work Global). s.items) in
    let ways = length-map c.args.laid.ways.items g.W.Route.way in
    c.join_all.ensures.joined c.args.laid.shares.items (map g.W.Route.way c.args.laid.ways.items) (map (λ (s : Vec Work Global). s.items) c.args.scripts.now)
    (grind (arith, common_steps, c.requires.laid.equal, same)) (grind (arith, common_steps, c.requires.laid.ways, ways, same)) c.ask_all-shares.ensures.asked
