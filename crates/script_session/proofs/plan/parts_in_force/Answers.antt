use Rattle.std.proofs.Common.{◌∙◌, ap, length, subst, sym}
use Rattle.std.proofs.lemmas.Result.{IfOk-weaker}
use Rattle.mds_types.specs.Problem.{ProblemData}
use Rattle.mds_board.specs.State.{Force}
use Rattle.mds_board.specs.History.{IsReplay, World}
use Rattle.mds_board.specs.State.{start}
use Rattle.script_session.proofs.PlanLemmas.{length-rows, only_force, some_force, told_force, told_plan, tops_in_force}
use Rattle.script_session.proofs.plan.parts_in_force.Goals as goal

pub unreachable-requires : goal.unreachable-requires
unreachable-requires g c =
    let req = c.requires in
    let f = told_force req.0 c.args.board.now req.1 req.2 in
    some_force c.in_force.result.now (c.in_force.ensures ∙ (ap (λ (w : World). w.state.in_force) c.board-made.ensures ∙ f.1)) c.in_default.is

pub parts-requires-clause-dirs : goal.parts-requires-clause-dirs
parts-requires-clause-dirs g c =
    let req = c.requires in
    let f = told_force req.0 c.args.board.now req.1 req.2 in
    let force = only_force (sym c.in-Some.is ∙ (c.in_force.ensures ∙ (ap (λ (w : World). w.state.in_force) c.board-made.ensures ∙ f.1))) in
    ap length (c.dirs.ensures ∙ ap (λ (x : Force). x.dirs) force)
    ∙ (sym (length-rows req.0.world.state)
    ∙ sym (ap (λ (p : ProblemData). length p.rows) (c.problem.ensures ∙ ap (λ (x : Force). x.problem) force)))

pub returns-clause-plan : goal.returns-clause-plan
returns-clause-plan g c old plan is =
    told_plan old c.args.board.now plan c.args.board.now.world.state.directories.limit c.args.board.now.world.state.pins.active is
    (subst (λ (w : World). IsReplay (start w.state.directories.limit w.state.pins.active) w.history w.state) c.board-made.ensures
    c.promises.ensures.kept.replay)

pub returns-clause-there : goal.returns-clause-there
returns-clause-there g c =
    let req = c.requires in
    let f = told_force req.0 c.args.board.now req.1 req.2 in
    let force = only_force (sym c.in-Some.is ∙ (c.in_force.ensures ∙ (ap (λ (w : World). w.state.in_force) c.board-made.ensures ∙ f.1))) in
    IfOk-weaker c.parts.result _ _
    (λ parts found. tops_in_force req.0 c.args.board.now req.1 c.in-Some-plan_in_force.plan.now c.problem.result.now.rows
    c.dirs.result.now parts.items req.2
    (ap (λ (p : ProblemData). p.rows) (c.problem.ensures ∙ ap (λ (x : Force). x.problem) force))
    (c.dirs.ensures ∙ ap (λ (x : Force). x.dirs) force) found) c.parts.ensures
