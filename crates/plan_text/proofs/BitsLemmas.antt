-- A number, bit by bit from the lowest.
use Rattle.std.proofs.Common.{◌≡◌, ◌∙◌, ℕ, ◌+◌, ◌*◌, ◌%◌, ◌^◌, ◌<◌, true, false, ap, arith}
use Rattle.std.specs.Int.{bit_at}
use Rattle.std.proofs.lemmas.Bool.Decides.{nat_tests}
use Rattle.std.proofs.lemmas.Grind.{common_steps}
use Rattle.std.proofs.lemmas.Nat.{mod-pow-add}
use Rattle.std.proofs.lemmas.Nat.Bits.{bit_at-lt}
use Rattle.mds_types.specs.RankSet.{has_rank}

one_more : (bits k : ℕ) → bits % 2 ^ (k + 1) ≡ bit_at bits k * 2 ^ k + bits % 2 ^ k
one_more bits k =
    let e : k + 1 ≡ 1 + k = omega arith in
    ap (λ (j : ℕ). bits % 2 ^ j) e ∙ mod-pow-add bits 1 k

bit_of : (bits k : ℕ) → has_rank bits k ≡ true → bit_at bits k ≡ 1
bit_of bits k has = grind (arith, nat_tests)

no_bit_of : (bits k : ℕ) → k < 64 → has_rank bits k ≡ false → bit_at bits k ≡ 0
no_bit_of bits k below has = let small : bit_at bits k < 2 = bit_at-lt bits k in grind (arith, nat_tests)

-- the bits up to a rank of the set, and those up to one that it hasn't
pub with_bit : (bits k : ℕ) → has_rank bits k ≡ true → bits % 2 ^ k + 2 ^ k ≡ bits % 2 ^ (k + 1)
with_bit bits k has =
    let one : bit_at bits k * 2 ^ k ≡ 1 * 2 ^ k = ap (λ (b : ℕ). b * 2 ^ k) (bit_of bits k has) in
    let all = one_more bits k in
    omega arith

pub without_bit : (bits k : ℕ) → k < 64 → has_rank bits k ≡ false → bits % 2 ^ k ≡ bits % 2 ^ (k + 1)
without_bit bits k below has =
    let none : bit_at bits k * 2 ^ k ≡ 0 * 2 ^ k = ap (λ (b : ℕ). b * 2 ^ k) (no_bit_of bits k below has) in
    let all = one_more bits k in
    omega arith

pub shifted : (k : ℕ) → k < 64 → 1 * 2 ^ k % 18446744073709551616 ≡ 2 ^ k
shifted k below = grind (arith, common_steps)
