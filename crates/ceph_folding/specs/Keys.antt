-- What directories go by where there are too many.
use Rattle.std.specs.Prelude.{◌-◌, ◌&&◌, ℕ, Bool, not, List, length, slice_index}
use Rattle.std.specs.Ordering.{is_le, is_lt, nat_cmp, on, then_cmp}
use Rattle.std.specs.declared.cmp.Ordering.{Ordering}
use Rattle.ceph_folding.specs.declared.coldest.Key.{Key}
use Rattle.ceph_snapshot.specs.Holding.{is_marked}

-- a key by the heat, and among equals by how many directories come after it
abbrev pub key_cmp : Key → Key → Ordering
key_cmp = then_cmp (on (λ (key : Key). key.heat) nat_cmp) (on (λ (key : Key). key.behind) nat_cmp)

abbrev pub is_at_most : Key → Key → Bool
is_at_most key last = is_le (key_cmp key last)

abbrev pub is_below : Key → Key → Bool
is_below key last = is_lt (key_cmp key last)

-- the key of directory i, where these are the heats at and below directories
abbrev pub key_at : List ℕ → ℕ → Key
key_at heats i = record { heat = slice_index heats i; behind = length heats - 1 - i }

-- directory i doesn't stay, and its key passes the test
abbrev pub passes : List ℕ → List Bool → (Key → Bool) → ℕ → Bool
passes heats stays test i = not (is_marked stays i) && test (key_at heats i)

-- and is at most the last one
abbrev pub goes : List ℕ → List Bool → Key → ℕ → Bool
goes heats stays last i = passes heats stays (λ key. is_at_most key last) i
