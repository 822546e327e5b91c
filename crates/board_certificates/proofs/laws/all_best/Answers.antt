use Rattle.board_certificates.proofs.BestLemmas.{all_best}
use Rattle.board_certificates.proofs.laws.all_best.Goals as goal
use Rattle.mds_board.specs.State.{start}
use Rattle.std.proofs.Common.{None}

pub returns : goal.returns
returns c = λ w kept k d near. (all_best (start w.state.directories.limit w.state.pins.active) None w.history w.state tt kept.replay k d near).0
