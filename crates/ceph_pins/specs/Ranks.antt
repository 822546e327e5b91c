-- The rank at which Ceph puts a child of a directory that is distributed.
use Rattle.std.specs.Prelude.{ℕ, zero, suc, ◌+◌, ◌-◌, ◌*◌, ◌/◌, ◌%◌, ◌^◌, nat_lt, List, bit_xor, if◌then◌else◌}
use Rattle.std.specs.Int.{w64, bit_not}
use Rattle.mds_types.specs.Sums.{count_below, max_below}
use Rattle.ceph_pins.specs.NameHash.{name_hash}

-- a word of 64 bits with its upper bits folded down by k places, times m
abbrev pub fold_times : ℕ → ℕ → ℕ → ℕ
fold_times word k m = bit_xor word (word / 2 ^ k) * m % 2 ^ 64

-- Ceph's `rjhash64`
unfoldable pub mixed : ℕ → ℕ
mixed key =
    let first = (bit_not w64 key + key * 2 ^ 21 % 2 ^ 64) % 2 ^ 64 in
    fold_times (fold_times (fold_times first 24 265) 14 21) 28 (2 ^ 31 + 1)

-- the keys that the jump hash draws from the first one, and the ranks that its jumps come to
abbrev pub key_after : ℕ → ℕ → ℕ
key_after hash zero = hash
key_after hash (suc n) = (key_after hash n * 2862933555777941757 % 2 ^ 64 + 1) % 2 ^ 64

abbrev pub rank_after_jumps : ℕ → ℕ → ℕ
rank_after_jumps hash zero = 0
rank_after_jumps hash (suc n) = (rank_after_jumps hash n + 1) * 2 ^ 31 / (key_after hash (suc n) / 2 ^ 33 + 1)

-- the last of these ranks that is below the size; each jump leads to a higher rank, so `size` jumps are enough
unfoldable pub jump_rank : ℕ → ℕ → ℕ
jump_rank hash size = max_below size (λ n. if nat_lt (rank_after_jumps hash n) size then rank_after_jumps hash n else 0)

-- the least number of bits that tell two fragments for each rank apart: how many powers of two are below
abbrev pub fragment_bits : ℕ → ℕ
fragment_bits size = count_below 24 (λ bits. nat_lt (2 ^ bits) (2 * size))

-- the fragment of a name: the upper bits of the lower 24 of its hash, where they are
abbrev pub fragment_value : List ℕ → ℕ → ℕ
fragment_value name size =
    name_hash name % 2 ^ 24 / 2 ^ (24 - fragment_bits size) * 2 ^ (24 - fragment_bits size)

-- the rank of a directory's fragment
abbrev pub fragment_rank : ℕ → ℕ → ℕ → ℕ
fragment_rank inode value size = jump_rank (mixed ((mixed inode + mixed value) % 2 ^ 64)) size

unfoldable pub rank_of_child : ℕ → List ℕ → ℕ → ℕ
rank_of_child inode name size = fragment_rank inode (fragment_value name size) size
