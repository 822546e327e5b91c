use Rattle.std.proofs.Common.{◌≡◌, Vec, Global, map, subst, sym, arith, ap, length, List}
use Rattle.std.proofs.lemmas.Grind.{common_steps}
use Rattle.std.proofs.lemmas.List.{length-map}
use Rattle.mds_board.specs.History.{World}
use Rattle.rank_threads.specs.declared.work.Work.{Work}
use Rattle.rank_threads.specs.declared.work.WorkAnswer.{WorkAnswer}
use Rattle.rank_threads.specs.Phases.{AreRequestsServed}
use Rattle.rank_threads.specs.Ways.{At, Way, own_ranks}
use Rattle.rank_threads.proofs.Routing.{own_long, served_own}
use Rattle.rank_threads.proofs.phase.serve_named.Goals as goal

pub lay-requires-clause-ways : goal.lay-requires-clause-ways
lay-requires-clause-ways g c =
    let many = length-map c.args.hands.ways.items (λ own. At own.rank) in
    let own = ap (λ (ws : List Way). length ws) c.requires.ways in
    let long = own_long 0 (length c.args.scripts.now) in
    omega arith

pub returns-clause-served : goal.returns-clause-served
returns-clause-served g c =
    let n = length c.args.scripts.now in
    let ranks = c.close-phased.result.1 in
    let scripts = map (λ (s : Vec Work Global). s.items) c.args.scripts.now in
    let answers = map (λ (a : Vec WorkAnswer Global). a.items) ranks.answers.items in
    let later = map (λ own. At own.rank) c.close-phased.result.2.items in
    let many : length c.args.hands.shares.items ≡ n = let e = c.requires.equal in grind (arith, common_steps, e) in
    let closed = c.close-phased.ensures c.in-Ok.laid.shares.items (map (λ own. At own.rank) c.in-Ok.laid.ways.items) c.args.scripts.now
    c.serve_ranks-joined.ensures.served in
    let done = rw (c.in-Ok.ensures.hands.0, c.in-Ok.ensures.hands.1, c.requires.ways) at closed in
    subst (λ (w : World). AreRequestsServed g.J.Naming.limit g.K.Phase.before w c.args.hands.shares.items (own_ranks 0 n) c.args.scripts.now
    ranks (own_ranks 0 n)) (sym c.into_parts-board.ensures.same)
    (record {
      served = served_own g.J.Naming.limit g.K.Phase.before c.close-phased.result.0.history n c.args.hands.shares.items scripts answers
          ranks.shares.items later ranks.deposited many done.served;
      ended = done.ended;
    })
