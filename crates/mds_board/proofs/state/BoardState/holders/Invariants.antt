use Rattle.std.proofs.Common.{◌≡◌, ◌≤◌, length, map}
use Rattle.dir_pins.specs.Pins.{below}
use Rattle.export_protocol.specs.Authority.{authority}
use Rattle.mds_board.proofs.state.BoardState.holders.Given as goal

abbrev pub invariant-loop-number : goal.invariant-loop-number
invariant-loop-number g l = record {
  end : l.number ≤ length l.self.state.directories.entries;
  ranks : l.ranks.items ≡ map (authority l.self.state.cluster) (below l.number);
}
