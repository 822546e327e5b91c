-- Shares are rounded up, and the only hour counts its heat.
use Rattle.std.proofs.Common.{◌≡◌, ◌+◌, ◌*◌, ◌<◌, ◌≤◌, ℕ, arith, ⊎_elim}
use Rattle.std.proofs.Math.Nat.{mul-le-mul_left, mul_comm}
use Rattle.std.proofs.lemmas.Bool.{cases_lt}
use Rattle.std.proofs.lemmas.Grind.{div_ceil_times}
use Rattle.ceph_plan.specs.Shares.{scaled, share_of}

pub up : (scale bound heat : ℕ) → 0 < bound → heat * scale ≤ scaled scale bound heat * bound
up scale bound heat some = (div_ceil_times (heat * scale) bound some).0

pub less : (scale bound heat : ℕ) → 0 < bound → scaled scale bound heat * bound < heat * scale + bound
less scale bound heat some = (div_ceil_times (heat * scale) bound some).1

times-next : (low high bound : ℕ) → low < high → low * bound + bound ≤ high * bound
times-next low high bound lt =
    let next : low + 1 ≤ high = omega (arith, lt) in
    let times : bound * (low + 1) ≤ bound * high = mul-le-mul_left bound next in
    omega (arith, times, mul_comm bound (low + 1), mul_comm bound high)

pub alone : (bound heat : ℕ) → 0 < bound → share_of bound bound heat ≡ heat
alone bound heat some =
    let c : ℕ = scaled bound bound heat in
    let same : c ≡ heat =
    ⊎_elim (λ (low : c < heat). absurd (let none : ⊥ = omega (arith, times-next c heat bound low, up bound bound heat some, some) in none))
    (λ (high : heat ≤ c).
    ⊎_elim (λ (more : heat < c). absurd (let none : ⊥ = omega (arith, times-next heat c bound more, less bound bound heat some) in none))
    (λ (le : c ≤ heat). omega (arith, high, le))
    (cases_lt heat c))
    (cases_lt c heat) in
    omega (arith, same)
