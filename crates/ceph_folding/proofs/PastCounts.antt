-- What comes together at one directory is more than 64 bits can count.
use Rattle.std.proofs.Common.{◌≡◌, ◌<◌, ◌+◌, ◌==◌, ℕ, arith, subst}
use Rattle.std.specs.Prelude.{if◌then◌else◌}
use Rattle.std.proofs.lemmas.Bool.Decides.{nat_tests}
use Rattle.mds_types.proofs.SumsLemmas.{sum_below-fewer, sum_below_more}
use Rattle.ceph_snapshot.specs.Holding.{most_heat}
use Rattle.ceph_folding.specs.Folding.{brought}
use Rattle.ceph_folding.specs.TooMany.{IsPastCount}
use Rattle.ceph_folding.proofs.Folds.{brought-alike}

-- one more makes it so
pub past_count : (amount home : ℕ → ℕ) (n at sum : ℕ) → at < n → home at < n → sum ≡ brought amount home at (home at)
    → most_heat < sum + amount at → IsPastCount amount home n
past_count amount home n at sum inside there is much =
    let f : ℕ → ℕ = λ i. if home i == home at then amount i else 0 in
    let here : f at ≡ amount at = grind (arith, nat_tests) in
    record {
      there = home at;
      inside = there;
      much = omega (arith, much, is, here, sum_below_more at f, sum_below-fewer (at + 1) n f (omega (arith, inside)));
    }

-- of amounts that are the same
pub past_alike : (one two home : ℕ → ℕ) (m n : ℕ) → m ≡ n → ((i : ℕ) → i < n → one i ≡ two i) → IsPastCount one home m → IsPastCount two home n
past_alike one two home m n is alike past =
    let here : IsPastCount one home n = subst (IsPastCount one home) is past in
    record {
      there = here.there;
      inside = here.inside;
      much = omega (arith, here.much, brought-alike one two home n here.there alike);
    }
