use Rattle.std.proofs.Common.{◌≡◌, List, sym, subst}
use Rattle.tree_parts.specs.declared.division.Part.{Part}
use Rattle.tree_parts.specs.Parts.{Marks, parts}
use Rattle.script_board.specs.Board.{BoardData}
use Rattle.script_board.specs.Cost.{AreThere}
use Rattle.script_board.proofs.CostLemmas.{parts_there, root_marked}
use Rattle.script_board.proofs.script_board.ScriptBoard.cost.Goals as goal

pub parts-requires-clause-root : goal.parts-requires-clause-root
parts-requires-clause-root g c =
    let named = c.in_ok-is_top.ensures.tops in
    rw c.deref.ensures.value (root_marked c.in_ok-is_top.is_top.items named.0 c.in_ok-is_top.ensures.some named.2)

pub returns-clause-there : goal.returns-clause-there
returns-clause-there g c =
    let named = c.in_ok-is_top.ensures.tops in
    let was : BoardData = record {
      world = c.self.inside.board;
      shares = c.self.inside.shares.items;
      loads = c.self.inside.loads.items;
      kept = c.self.inside.kept.items;
      stops = c.self.inside.stops.items;
    } in
    let marked : Marks c.deref.result.now named.0 = rw c.deref.ensures.value named.2 in
    let same = c.in_ok-parts.ensures named.0 marked in
    let is : c.in_ok-parts.parts.items ≡ parts was.world.state.directories.entries was.world.state.pins.own was.world.state.heats.heats
    named.0 = rw (c.tree.ensures, c.pins.ensures, c.heat.ensures) at same in
    subst (λ (b : BoardData). AreThere b c.in_ok-parts.parts.items) c.self.view_is
    (subst (λ (ps : List Part). AreThere was ps) (sym is) (parts_there was named.0))
