-- Sums of chunks that follow one another.
use Rattle.std.proofs.Common.{◌≡◌, zero, suc, [], ◌∷◌, refl, ap, get_or, ◌+◌, ◌*◌, ◌^◌, ◌<◌, ◌≤◌, ℕ, List, length, slice_index, arith}
use Rattle.std.proofs.lemmas.Nat.{mul-le}
use Rattle.std.specs.List.{AllZip, range_with_len}
use Rattle.mds_types.specs.declared.problem.ProblemRow.{ProblemRow}
use Rattle.plan_checker.proofs.BetweenLemmas.{rows_joined, sums_joined}
use Rattle.rank_assign.specs.Chunks.{edge, AreSummed}

pub edge_rises : (rows first chunk k : ℕ) → edge rows first chunk k ≤ edge rows first chunk (k + 1)
edge_rises rows first chunk k =
    let more : k * chunk ≤ (k + 1) * chunk = mul-le k chunk (k + 1) chunk (omega arith) (omega arith) in
    omega (arith, more)

module _
    (rows : List ProblemRow) (part : List ℕ) (count mid to : ℕ) (a b : List ℕ) (rise : mid ≤ to)
    (first : AreSummed rows part count 0 mid a) (second : AreSummed rows part count mid to b) where
  pub joined :
      (new : List ℕ) → length new ≡ length a
      → ((j : ℕ) → j < length a → slice_index new j ≡ slice_index a j + slice_index b j) → AreSummed rows part count 0 to new
  joined new size each = record {
    added = sums_joined rows (slice_index part) count 0 mid to a b new (omega arith) rise first.added second.added size each;
    known = rows_joined rows 0 mid to first.known second.known;
  }

-- what holds of each number of a range and its result
pub zipped_size : {Y : Type 0} (R : ℕ → Y → Type 0) (a n : ℕ) (ys : List Y) → AllZip R (range_with_len a n) ys → length ys ≡ n
zipped_size R a zero [] h = refl
zipped_size R a zero (y ∷ ys) h = absurd h
zipped_size R a (suc n) [] h = absurd h
zipped_size R a (suc n) (y ∷ ys) h = ap suc (zipped_size R (a + 1) n ys h.1)

pub zipped_at :
    {Y : Type 0} (R : ℕ → Y → Type 0) (a n : ℕ) (ys : List Y) → AllZip R (range_with_len a n) ys → (k i : ℕ) (d : Y) → k < n
    → i ≡ a + k → R i (get_or ys k d)
zipped_at R a zero ys h k i d l e = absurd (omega arith)
zipped_at R a (suc n) [] h k i d l e = absurd h
zipped_at R a (suc n) (y ∷ ys) h zero i d l e = let here : i ≡ a = omega arith in rw here h.0
zipped_at R a (suc n) (y ∷ ys) h (suc k) i d l e = zipped_at R (a + 1) n ys h.1 k i d (omega arith) (omega arith)
