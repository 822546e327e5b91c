-- How much a hit of each kind counts.
use Rattle.std.specs.Prelude.{ℕ, ◌+◌, ◌*◌, nat_le, Bool, ◌&&◌}
use Rattle.heat_ledger.specs.declared.dir_hits.DirHits.{DirHits}
use Rattle.mds_board.specs.declared.weights.Weights.{Weights}

abbrev pub is_weight : ℕ → Bool
is_weight weight = nat_le 1 weight && nat_le weight 16

-- the accesses that a directory's hits come to
abbrev pub weighed : Weights → DirHits → ℕ
weighed weights hits = weights.read * hits.reads + weights.write * hits.writes

-- each hit counts as one access
abbrev pub even_weights : Weights
even_weights = record { read = 1; write = 1 }
