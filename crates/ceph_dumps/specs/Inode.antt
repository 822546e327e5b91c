-- The inode number in the name of a fragment.
use Rattle.std.specs.Prelude.{◌==◌, ℕ, List, Option}
use Rattle.std.specs.List.{before_first}
use Rattle.mds_types.specs.Mask.{hex_bits}

abbrev pub before_dot : List ℕ → List ℕ
before_dot name = before_first (λ c. c == 46) name

-- 0x and 1 to 16 hexadecimal digits; where a directory has several fragments, a dot and the bits of one come after them
abbrev pub inode_of : List ℕ → Option ℕ
inode_of fragment = hex_bits (before_dot fragment)
