use Rattle.std.proofs.Common.{length, ap, arith}
use Rattle.std.proofs.lemmas.List.{length-map}
use Rattle.dir_pins.specs.Pins.{below}
use Rattle.export_protocol.specs.Authority.{authority}
use Rattle.mds_board.specs.State.{rank_or_0}
use Rattle.mds_board.specs.Steps.{Present}
use Rattle.mds_board.proofs.Accepted.{length_below}
use Rattle.mds_board.proofs.state.BoardState.problems.Goals as goal

pub open-requires-clause-now : goal.open-requires-clause-now
open-requires-clause-now g c =
    let same = ap (λ (p : Present). length p.state.directories.entries) c.self.view_is in
    let ranks = ap (λ xs. length xs) c.in_ok-now.ensures in
    let all = length-map (below (length c.args.self.now.state.directories.entries)) (λ d. rank_or_0 (authority c.args.self.now.state.cluster d)) in
    let count = length_below (length c.args.self.now.state.directories.entries) in
    omega (arith, same, ranks, all, count)
