-- The jumps of the consistent hash lead to higher and higher ranks.
use Rattle.std.proofs.Common.{◌≡◌, add-one, add-zero, add-suc, le_refl, refl, ◌+◌, ◌-◌, ◌*◌, ◌/◌, ◌%◌}
use Rattle.std.proofs.Common.{◌^◌, ◌<◌, ◌≤◌, ℕ, zero, suc, cond, nat_lt, ⊎_elim, arith, le_trans}
use Rattle.std.proofs.lemmas.Bool.{cases_lt}
use Rattle.std.proofs.lemmas.Grind.{common_steps}
use Rattle.std.proofs.lemmas.Nat.{le-div}
use Rattle.mds_types.proofs.SumsLemmas.{max_below-le, max_below-term}
use Rattle.ceph_pins.specs.Ranks.{jump_rank, key_after, rank_after_jumps}

further : (rank key : ℕ) → key < 2 ^ 64 → rank + 1 ≤ (rank + 1) * 2 ^ 31 / (key / 2 ^ 33 + 1)
further rank key small =
    let few : key / 2 ^ 33 + 1 ≤ 2 ^ 31 = omega arith in
    let some : 0 < key / 2 ^ 33 + 1 = omega arith in
    le-div (rank + 1) ((rank + 1) * 2 ^ 31) (key / 2 ^ 33 + 1) some (grind arith)

rises : (hash n : ℕ) → rank_after_jumps hash n < rank_after_jumps hash (suc n)
rises hash n = omega (arith, further (rank_after_jumps hash n) (key_after hash (suc n)) (omega arith))

-- the next key and rank, and that it is higher
pub next_key : (hash n : ℕ) → key_after hash (n + 1) ≡ (key_after hash n * 2862933555777941757 % 2 ^ 64 + 1) % 2 ^ 64
next_key hash n = rw add-one refl

next_rank : (hash n : ℕ) → (rank_after_jumps hash n + 1) * 2 ^ 31 / (key_after hash (n + 1) / 2 ^ 33 + 1) ≡ rank_after_jumps hash (n + 1)
next_rank hash n = rw (add-one n) refl

pub jumped : (hash n rank key : ℕ) → rank ≡ rank_after_jumps hash n → key ≡ key_after hash (n + 1)
    → (rank + 1) * 2 ^ 31 / (key / 2 ^ 33 + 1) ≡ rank_after_jumps hash (n + 1)
jumped hash n rank key here drawn = rw (here, drawn) (next_rank hash n)

pub next_rises : (hash n : ℕ) → rank_after_jumps hash n < rank_after_jumps hash (n + 1)
next_rises hash n = rw add-one (rises hash n)

rises_to : (hash n more : ℕ) → rank_after_jumps hash n ≤ rank_after_jumps hash (n + more)
rises_to hash n zero = rw add-zero (le_refl (rank_after_jumps hash n))
rises_to hash n (suc more) = rw add-suc (omega (arith, rises hash (n + more), rises_to hash n more))

no_lower : (hash n i : ℕ) → n ≤ i → rank_after_jumps hash n ≤ rank_after_jumps hash i
no_lower hash n i up = let e : n + (i - n) ≡ i = omega arith in rw e at (rises_to hash n (i - n))

pub last_jump : (hash size n : ℕ) → n < size → rank_after_jumps hash n < size → size ≤ rank_after_jumps hash (n + 1)
    → jump_rank hash size ≡ rank_after_jumps hash n
unfolding jump_rank
last_jump hash size n inside below past =
    let f : ℕ → ℕ = λ i. cond (nat_lt (rank_after_jumps hash i) size) (rank_after_jumps hash i) 0 in
    let here : f n ≡ rank_after_jumps hash n = grind (arith, common_steps, below) in
    omega (
      arith,
      here,
      max_below-term size n f inside,
      max_below-le size (rank_after_jumps hash n) f (λ i l.
          ⊎_elim
          (λ (later : n < i).
          let far : size ≤ rank_after_jumps hash i = le_trans past (no_lower hash (n + 1) i (omega arith)) in
          grind (arith, common_steps, far))
          (λ (before : i ≤ n).
          let low : rank_after_jumps hash i ≤ rank_after_jumps hash n = no_lower hash i n before in
          grind (arith, common_steps, low))
          (cases_lt n i)),
    )

pub no_jump : (hash size rank : ℕ) → size ≡ 0 → rank ≡ 0 → rank ≡ jump_rank hash size
unfolding jump_rank
no_jump hash size rank none zero_is = rw (none, zero_is) refl
