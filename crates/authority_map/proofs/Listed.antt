-- A list of directories that rises, parted at a directory.
use Rattle.std.proofs.Common.{◌≡◌, ◌≢◌, ◌⊎◌, ℕ, zero, suc, ◌+◌, ◌-◌, ◌<◌, ◌≤◌, ◌==◌, ◌||◌, Bool}
use Rattle.std.proofs.Common.{true, false, if◌then◌else◌, List, [], ◌∷◌, length, get_or, refl, arith, subst, inl, inr}
use Rattle.std.proofs.lemmas.Bool.Decides.{nat_tests, leb_tells}
use Rattle.std.specs.List.Sorted.{IsStrictlyIncreasing}
use lib.Dec.{leb}
use Rattle.authority_map.specs.Operations.{names}
use Rattle.authority_map.specs.Runs.{ComeBefore}
use Rattle.authority_map.proofs.CellLemmas.{not_named}
use Rattle.authority_map.proofs.Extending.{HaveAll}

-- a list names what is in it
pub named : (dirs : List ℕ) (k : ℕ) → k < length dirs → names dirs (get_or dirs k 0) ≡ true
named [] k h = absurd (omega arith)
named (x ∷ xs) zero h = rw (same x) refl
  where
    same : (n : ℕ) → (n == n) ≡ true
    same n = grind (arith, nat_tests)
named (x ∷ xs) (suc k) h = rw (named xs k (omega arith)) (either (x == get_or xs k 0))
  where
    either : (b : Bool) → (b || true) ≡ true
    either true = refl
    either false = refl

-- no directory is listed where none more comes before a later one
pub unnamed : (dirs : List ℕ) (count first end d : ℕ) → ComeBefore dirs count first → ComeBefore dirs count end → first ≤ d → d < end → names dirs d ≡ false
unnamed dirs count first end d lower upper from until = not_named dirs d (λ k h e. step k h e (leb_tells count k))
  where
    step : (k : ℕ) → k < length dirs → get_or dirs k 0 ≡ d → ((leb count k ≡ true) × (count ≤ k)) ⊎ ((leb count k ≡ false) × (k < count)) → ⊥
    step k h e (inl le) = absurd (omega (arith, upper.after k le.1 h, e, until))
    step k h e (inr less) = absurd (omega (arith, lower.before k less.1, e, from))

-- what comes later is no less
later : (dirs : List ℕ) → IsStrictlyIncreasing dirs → (i k : ℕ) → i + k < length dirs → get_or dirs i 0 + k ≤ get_or dirs (i + k) 0
later dirs up i zero h = let e : i + 0 ≡ i = omega arith in rw e (omega arith)
later dirs up i (suc k) h =
    let e : i + suc k ≡ (i + k) + 1 = omega arith in
    let step : get_or dirs (i + k) 0 < get_or dirs ((i + k) + 1) 0 = up (i + k) (omega arith) in
    rw e (omega (arith, step, later dirs up i k (omega arith)))

from_place : (dirs : List ℕ) → IsStrictlyIncreasing dirs → (i j : ℕ) → i ≤ j → j < length dirs → get_or dirs i 0 + (j - i) ≤ get_or dirs j 0
from_place dirs up i j le h =
    let e : i + (j - i) ≡ j = omega (arith, le) in
    subst (λ (k : ℕ). get_or dirs i 0 + (j - i) ≤ get_or dirs k 0) e (later dirs up i (j - i) (omega (arith, e, h)))

-- as many come before a later directory, up to the next that is listed
pub come_on : (dirs : List ℕ) → IsStrictlyIncreasing dirs → (count first end : ℕ) → ComeBefore dirs count first → first ≤ end
    → (count < length dirs → end ≤ get_or dirs count 0) → ComeBefore dirs count end
come_on dirs up count first end come le next = record {
  within = come.within;
  before = λ k h. omega (arith, come.before k h, le);
  after = λ k le h. omega (arith, from_place dirs up count k le h, next (omega (arith, le, h)));
}

-- one more comes before the directory after the listed one
pub come_past : (dirs : List ℕ) → IsStrictlyIncreasing dirs → (count dir : ℕ) → ComeBefore dirs count dir → count < length dirs
    → get_or dirs count 0 ≡ dir → ComeBefore dirs (count + 1) (dir + 1)
come_past dirs up count dir come there here = record {
  within = omega (arith, there);
  before = λ k h. step k h (leb_tells count k);
  after = λ k le h. omega (arith, from_place dirs up count k (omega (arith, le)) h, here, le);
}
  where
    step : (k : ℕ) → k < count + 1 → ((leb count k ≡ true) × (count ≤ k)) ⊎ ((leb count k ≡ false) × (k < count)) → get_or dirs k 0 < dir + 1
    step k h (inl le) = let e : k ≡ count = omega (arith, h, le.1) in rw e (omega (arith, here))
    step k h (inr less) = omega (arith, come.before k less.1)

-- none comes before directory 0
pub come_none : (dirs : List ℕ) → ComeBefore dirs 0 0
come_none dirs = record { within = omega arith; before = λ k h. absurd (omega arith); after = λ k le h. omega arith }

-- the listed directory is to have the list's cell
pub listed_cell : (dirs : List ℕ) (cell : ℕ) (old : ℕ → ℕ) (place dir : ℕ) → place < length dirs → get_or dirs place 0 ≡ dir
    → HaveAll dir (dir + 1) cell (λ d. if names dirs d then cell else old d)
listed_cell dirs cell old place dir there here d from until =
    let e : d ≡ get_or dirs place 0 = omega (arith, from, until, here) in
    rw (e, named dirs place there) refl

-- directories of which none is listed are to have the cells that they had
pub unlisted_cell : (dirs : List ℕ) (cell : ℕ) (old : ℕ → ℕ) (count first end : ℕ) → ComeBefore dirs count first → ComeBefore dirs count end
    → (d : ℕ) → first ≤ d → d < end → (if names dirs d then cell else old d) ≡ old d
unlisted_cell dirs cell old count first end lower upper d from until = rw (unnamed dirs count first end d lower upper from until) refl

-- whether directory 0 is listed is seen at the list's first place
pub first_listed : (dirs : List ℕ) → IsStrictlyIncreasing dirs → 0 < length dirs → get_or dirs 0 0 ≡ 0 → (names dirs 0 ≡ true) × ComeBefore dirs 1 1
first_listed dirs up some here =
    (subst (λ (d : ℕ). names dirs d ≡ true) here (named dirs 0 some), come_past dirs up 0 0 (come_none dirs) some here)

pub first_unlisted : (dirs : List ℕ) → IsStrictlyIncreasing dirs → (0 < length dirs → get_or dirs 0 0 ≢ 0) → (names dirs 0 ≡ false) × ComeBefore dirs 0 1
first_unlisted dirs up other =
    let come : ComeBefore dirs 0 1 = come_on dirs up 0 0 1 (come_none dirs) (omega arith) (λ h. omega (arith, other h)) in
    (unnamed dirs 0 0 1 0 (come_none dirs) come (omega arith) (omega arith), come)
