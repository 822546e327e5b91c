use Rattle.std.proofs.Common.{◌≡◌, map, take}
use Rattle.board_certificates.specs.Certificates.{row_name}
use Rattle.board_certificates.proofs.replay.Replay.row_names.Given as goal

-- the names so far
abbrev pub invariant-loop-dir : goal.invariant-loop-dir
invariant-loop-dir l = l.names ≡ map (row_name l.self.tree.entries) (take l.dir-index l.dir-items)
