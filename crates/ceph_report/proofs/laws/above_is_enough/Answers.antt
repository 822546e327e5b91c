use Rattle.std.proofs.Common.{◌≡◌, ◌<◌, ◌≤◌, ◌+◌, ◌-◌, ◌*◌, ◌==◌, ℕ, false, min, arith}
use Rattle.std.proofs.Math.Nat.{lt-mul-div-succ, mul-add}
use Rattle.std.proofs.lemmas.Bool.{ne_eqb}
use Rattle.ceph_snapshot.specs.Holding.{most_heat}
use Rattle.ceph_report.specs.Text.{per_mille_above}
use Rattle.ceph_report.proofs.laws.above_is_enough.Goals as goal

-- rounded up, the tenths of a percent are no fewer than they are
enough : (most part bound q : ℕ) → part * 1000 + (bound - 1) < bound * (q + 1) → 0 < bound → min most q < most → part * 1000 ≤ bound * min most q
enough most part bound q less positive small =
    let is : min most q ≡ q = omega (arith, small) in
    let split : bound * (q + 1) ≡ bound * q + bound * 1 = mul-add bound q 1 in
    rw is (omega (arith, less, positive, split))

above : (planned bound x : ℕ) → (planned - bound) * 1000 ≤ bound * x → planned * 1000 ≤ bound * (1000 + x)
above planned bound x less = rw (mul-add bound 1000 x) (omega (arith, less))

stands : (planned bound : ℕ) → 0 < bound → per_mille_above (planned - bound) bound < most_heat
    → planned * 1000 ≤ bound * (1000 + per_mille_above (planned - bound) bound)
unfolding per_mille_above
stands planned bound positive =
    let some : (bound == 0) ≡ false = ne_eqb bound 0 (λ is. omega (arith, is, positive)) in
    rw some (λ small. above planned bound _ (enough most_heat (planned - bound) bound _
    (lt-mul-div-succ ((planned - bound) * 1000 + (bound - 1)) positive) positive small))

pub returns : goal.returns
returns c = λ planned bound positive small. stands planned bound positive small
