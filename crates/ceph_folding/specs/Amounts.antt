-- What is added up of directories.
use Rattle.std.specs.Prelude.{ℕ, List, slice_get}
use Rattle.std.specs.Option.{option_map_or}
use Rattle.ceph_folding.specs.declared.amounts.Amount.{Amount}
use Rattle.ceph_folding.specs.declared.amounts.Amount.TheVariants.{Heat, Inodes, Writes}
use Rattle.ceph_snapshot.specs.declared.directory.Directory.{Directory}

-- how much of it a directory has
abbrev pub amount_of : Amount → Directory → ℕ
amount_of Heat d = d.heat
amount_of Writes d = d.writes
amount_of Inodes d = d.inodes

-- and directory i; past the last one, none
abbrev pub amount_at : Amount → List Directory → ℕ → ℕ
amount_at amount directories i = option_map_or (amount_of amount) (slice_get directories i) 0
