use Rattle.std.proofs.Common.{◌≡◌, ◌≤◌, length, map}
use Rattle.dir_pins.specs.Pins.{below}
use Rattle.export_protocol.specs.Authority.{authority}
use Rattle.mds_board.specs.State.{rank_or_0}
use Rattle.mds_board.proofs.state.BoardState.authorities.Given as goal

abbrev pub invariant-loop-number : goal.invariant-loop-number
invariant-loop-number g l = record {
  end : l.number ≤ length l.self.state.directories.entries;
  ranks : l.ranks.items ≡ map (λ d. rank_or_0 (authority l.self.state.cluster d)) (below l.number);
}
