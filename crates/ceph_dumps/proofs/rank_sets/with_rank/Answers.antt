use Rattle.std.proofs.Common.{◌≡◌, ◌≢◌, ◌==◌, ◌<◌, ◌||◌, ◌*◌, ◌%◌, ◌^◌, ℕ, refl, inl, inr, nat_eq, bit_or, w64, arith}
use Rattle.std.proofs.lemmas.Bool.{cases_Bool}
use Rattle.std.proofs.lemmas.Nat.Bits.{bit_at_set_other, bit_at_set_same}
use Rattle.std.proofs.lemmas.Bool.{eqb-true, eqb-false}
use Rattle.std.specs.Int.{bit_at}
use Rattle.mds_types.specs.RankSet.{has_rank}
use Rattle.ceph_dumps.proofs.rank_sets.with_rank.Goals as goal

one_more : (bits number rank : ℕ) → number < 64
    → has_rank (bit_or bits (1 * 2 ^ number % 18446744073709551616)) rank ≡ (rank == number) || has_rank bits rank
one_more bits number rank below =
    elim (cases_Bool (nat_eq rank number)) [
      | inl same ↦
          let is : rank ≡ number = eqb-true rank number same in
          let set : bit_at (bit_or bits (1 * 2 ^ number % 18446744073709551616)) number ≡ 1 = bit_at_set_same w64 bits number below in
          grind (arith, same, is, set, below)
      | inr differ ↦
          let other : rank ≢ number = eqb-false rank number differ in
          let kept : bit_at (bit_or bits (1 * 2 ^ number % 18446744073709551616)) rank ≡ bit_at bits rank = bit_at_set_other w64 bits number below rank other in
          rw (kept, differ) refl
    ]

pub returns : goal.returns
returns c rank = one_more c.args.bits c.args.number rank c.requires
