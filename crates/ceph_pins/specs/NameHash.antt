-- Ceph's hash of a name. A word is a number below 2 ^ 32, and a name is a list of bytes.
use Rattle.std.specs.Prelude.{ℕ, zero, suc, ◌+◌, ◌-◌, ◌*◌, ◌/◌, ◌%◌, ◌^◌, List, [], ◌∷◌, length, bit_xor, slice_index}
use Rattle.std.specs.Int.{w32, from_le_bytes}
use Rattle.ceph_pins.specs.declared.name_hash.Words.{Words}

-- the sum and the difference of two words
abbrev pub plus : ℕ → ℕ → ℕ
plus x y = (x + y) % 2 ^ 32

abbrev pub minus : ℕ → ℕ → ℕ
minus x y = (x + (2 ^ 32 - y)) % 2 ^ 32

-- a third of the mix, by these shifts
unfoldable pub stirred : Words → ℕ → ℕ → ℕ → Words
stirred words first second third =
    let a = bit_xor (minus (minus words.a words.b) words.c) (words.c / 2 ^ first) in
    let b = bit_xor (minus (minus words.b words.c) a) (a * 2 ^ second % 2 ^ 32) in
    record { a = a; b = b; c = bit_xor (minus (minus words.c a) b) (b / 2 ^ third) }

-- a block of three words is added, and the sums are mixed
unfoldable pub put : Words → ℕ → ℕ → ℕ → Words
put words x y z =
    let sums : Words = record { a = plus words.a x; b = plus words.b y; c = plus words.c z } in
    stirred (stirred (stirred sums 13 8 13) 12 16 5) 3 10 15

-- the word of the four bytes from a place on, lowest first; past the end they are zeros
unfoldable pub word_at : List ℕ → ℕ → ℕ
word_at name at = from_le_bytes w32
    (slice_index name at ∷ slice_index name (at + 1) ∷ slice_index name (at + 2) ∷ slice_index name (at + 3) ∷ [])

-- the words after the first n blocks of 12 bytes. They begin with the golden ratio
abbrev pub after_blocks : List ℕ → ℕ → Words
after_blocks name zero = record { a = 0x9e3779b9; b = 0x9e3779b9; c = 0 }
after_blocks name (suc n) =
    put (after_blocks name n) (word_at name (12 * n)) (word_at name (12 * n + 4)) (word_at name (12 * n + 8))

-- the last block has what is left, with the name's length in place of the ninth byte
unfoldable pub name_hash : List ℕ → ℕ
name_hash name =
    let n = length name / 12 in
    (put (after_blocks name n) (word_at name (12 * n)) (word_at name (12 * n + 4))
    ((length name + 256 * word_at name (12 * n + 8)) % 2 ^ 32)).c
