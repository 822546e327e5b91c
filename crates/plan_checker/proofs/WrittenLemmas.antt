-- A `Vec` whose elements were all written through a slice.
use Rattle.std.proofs.Common.{◌≡◌, ℕ, List, ◌++◌, length, take, drop}
use Rattle.std.proofs.Math.Seq.{take-append_seam}

pub all_written :
    {X : Type 0} (now before : List X) (n : ℕ) → length now ≡ length before → n ≡ length now
    → take n (now ++ drop (length now) before) ≡ now
all_written now before n size all = rw all (take-append_seam now (drop (length now) before))
