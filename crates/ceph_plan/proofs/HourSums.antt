-- The greatest of the hours, and sums over them.
use Rattle.std.proofs.Common.{◌≡◌, ◌+◌, ◌*◌, ◌<◌, ◌≤◌, ◌==◌, ◌^◌, ℕ, zero, suc, Bool, true, false, List, cond, length, slice_index, ap, arith, refl}
use Rattle.std.proofs.lemmas.List.Elements.{All-get_or}
use Rattle.mds_types.specs.declared.problem.ProblemRow.{ProblemRow}
use Rattle.mds_types.specs.Problem.{IsForest, heat_at}
use Rattle.mds_types.specs.Sums.{max_below, sum_below}
use Rattle.mds_types.proofs.SumsLemmas.{sum_below-fewer, sum_below-le, sum_below-same, sum_below_more}
use Rattle.ceph_plan.specs.declared.hours.Hour.{Hour}
use Rattle.ceph_plan.specs.Packing.{AreHours, AreLoads, ArePinned, HaveHeats, IsOneHour, greatest_load, greatest_of}
use Rattle.ceph_plan.specs.Packing.{heat_in, load, load_in, load_of_rows, pinned_at, pinned_in}
use Rattle.ceph_plan.proofs.Bounds.{greatest-same}

-- the greatest of what is alike
pub max-same : (n : ℕ) (f g : ℕ → ℕ) → ((i : ℕ) → i < n → f i ≡ g i) → max_below n f ≡ max_below n g
max-same zero f g same = refl
max-same (suc n) f g same = omega (arith, max-same n f g (λ i l. same i (omega (arith, l))), same n (omega arith))

pub max-least : (n : ℕ) (f g : ℕ → ℕ) → ((i : ℕ) → i < n → f i ≤ g i) → max_below n f ≤ max_below n g
max-least zero f g le = omega arith
max-least (suc n) f g le = omega (arith, max-least n f g (λ i l. le i (omega (arith, l))), le n (omega arith))

-- the greatest sum is at most the sum of the first terms and the greatest of the others
pub max-sums : (n : ℕ) (f g : ℕ → ℕ) → max_below n (λ i. f i + g i) ≤ sum_below n f + max_below n g
max-sums zero f g = omega arith
max-sums (suc n) f g = omega (arith, max-sums n f g)

-- 2 ^ 40 for each row
pub limits : (n : ℕ) → sum_below n (λ i. 2 ^ 40) ≡ n * 2 ^ 40
limits zero = refl
limits (suc n) = omega (arith, limits n)

-- what is counted of rows is not too much
pub row-hours : (rows : List ProblemRow) (hours : List Hour) → IsForest rows → HaveHeats rows hours → ArePinned hours → AreHours hours (length rows)
row-hours rows hours forest heats pinned = record {
  pinned = pinned;
  size = λ h l. (heats h l).size;
  total = λ h l.
      let n : ℕ = length rows in
      let most : sum_below n (heat_in hours h) ≤ sum_below n (λ i. 2 ^ 40) =
      sum_below-le n (heat_in hours h) (λ i. 2 ^ 40) (λ i inside. omega (arith, (heats h l).cool i inside, forest.cool i inside)) in
      omega (arith, most, limits n, forest.few);
}

-- what is pinned
pub pinned-small : (hours : List Hour) (h r : ℕ) → ArePinned hours → h < length hours → r < 64 → pinned_at hours h r ≤ 2 ^ 57
pinned-small hours h r pinned l small = All-get_or (λ (n : ℕ). n ≤ 2 ^ 57) (pinned_in hours h) r 0 (omega (arith, (pinned h l).size, small)) (pinned h l).small

-- of one hour
pub one-load : (rows : List ProblemRow) (pinned : List ℕ) (hours : List Hour) (to : ℕ → ℕ) (r : ℕ) → IsOneHour rows pinned hours
    → load hours (length rows) to r ≡ load_of_rows pinned rows to r
one-load rows pinned hours to r is =
    let n : ℕ = length rows in
    let f : ℕ → ℕ = λ h. load_in hours n to h r in
    let all : max_below (length hours) f ≡ max_below 1 f = ap (λ (k : ℕ). max_below k f) is.one in
    let held : pinned_at hours 0 r ≡ slice_index pinned r = ap (λ (xs : List ℕ). slice_index xs r) is.pinned_is in
    let sums : sum_below n (λ i. cond (to i == r) (heat_in hours 0 i) 0) ≡ sum_below n (λ i. cond (to i == r) (heat_at rows i) 0) =
    sum_below-same n (λ i. cond (to i == r) (heat_in hours 0 i) 0) (λ i. cond (to i == r) (heat_at rows i) 0)
    (λ i l. ap (λ (x : ℕ). cond (to i == r) x 0) (is.heats i l)) in
    omega (arith, all, held, sums)

pub one-greatest : (ranks : ℕ) (rows : List ProblemRow) (pinned : List ℕ) (hours : List Hour) (to : ℕ → ℕ) → IsOneHour rows pinned hours
    → greatest_load ranks hours (length rows) to ≡ greatest_of ranks (load_of_rows pinned rows to)
one-greatest ranks rows pinned hours to is =
    greatest-same ranks (load hours (length rows) to) (load_of_rows pinned rows to) (λ r l. one-load rows pinned hours to r is)

fewer : (b : Bool) (x : ℕ) → cond b x 0 ≤ x
fewer true x = omega arith
fewer false x = omega arith

-- some of the first numbers, and one more, are no more than all
pub some-more : (n i : ℕ) (some : ℕ → Bool) (f : ℕ → ℕ) → i < n → sum_below i (λ q. cond (some q) (f q) 0) + f i ≤ sum_below n f
some-more n i some f inside =
    let before : sum_below i (λ q. cond (some q) (f q) 0) ≤ sum_below i f = sum_below-le i (λ q. cond (some q) (f q) 0) f (λ q l. fewer (some q) (f q)) in
    let all : sum_below (i + 1) f ≤ sum_below n f = sum_below-fewer (i + 1) n f (let next : i + 1 ≤ n = omega (arith, inside) in next) in
    omega (arith, before, all, sum_below_more i f)

-- one more of n rows or parts can be added to what the first load
pub loads-room : (hours : List Hour) (n i : ℕ) (to : ℕ → ℕ) (loads : List ℕ) (h r : ℕ) → AreHours hours n → AreLoads hours i to loads
    → i < n → h < length hours → r < 64
    → slice_index loads (h * 64 + r) + heat_in hours h i < 2 ^ 64
loads-room hours n i to loads h r are loaded inside l small =
    omega (arith, loaded.are h r l small, pinned-small hours h r are.pinned l small, some-more n i (λ q. to q == r) (heat_in hours h) inside, are.total h l)
