-- Owners kept only at the roots of subtrees.
use Rattle.std.specs.Prelude.{◌≡◌, ℕ, zero, suc, Bool, true, false, ◌||◌, not, ◌==◌, List, [], ◌∷◌}
use Rattle.std.specs.Prelude.{◌++◌, length, Option, Some, None, slice_index_or, if◌then◌else◌}
use Rattle.export_protocol.specs.Cluster.{World}
use Rattle.export_protocol.specs.Authority.{authority, or_else}

abbrev pub parent_of : World → ℕ → Option ℕ
parent_of w d = slice_index_or w.parents d None

abbrev pub same_rank : Option ℕ → Option ℕ → Bool
same_rank None None = true
same_rank None (Some r) = false
same_rank (Some r) None = false
same_rank (Some r) (Some s) = r == s

-- d is directory 0, or its authority isn't its parent's
abbrev pub is_apart : World → ℕ → Option ℕ → Bool
is_apart w d None = false
is_apart w d (Some p) = (d == 0) || not (same_rank (authority w d) (authority w p))

-- the authority of such a directory, and none of another
abbrev pub root_rank : World → ℕ → Option ℕ
root_rank w d = if is_apart w d (parent_of w d) then authority w d else None

-- an owner is kept for those directories, and for no other
abbrev pub AreOwners : World → List (Option ℕ) → Type 0
AreOwners w owners = (d : ℕ) → slice_index_or owners d None ≡ root_rank w d

abbrev pub root_at : ℕ → Option ℕ → List (ℕ × ℕ)
root_at d None = []
root_at d (Some r) = (d, r) ∷ []

-- the roots below a number, in rising order, each with its authority
abbrev pub roots_below : World → ℕ → List (ℕ × ℕ)
roots_below w zero = []
roots_below w (suc d) = roots_below w d ++ root_at d (root_rank w d)

-- directory 0 and each directory whose authority isn't its parent's, in rising order, with its authority
unfoldable pub roots : World → List (ℕ × ℕ)
roots w = roots_below w (length w.parents)

abbrev pub above : Option ℕ → (ℕ → Option ℕ) → Option ℕ
above None next = None
above (Some p) next = next p

-- the nearest owner on a walk up from d that looks at this many directories
abbrev pub nearest : List (Option ℕ) → List (Option ℕ) → ℕ → ℕ → Option ℕ
nearest parents owners zero d = None
nearest parents owners (suc n) d =
    or_else (slice_index_or owners d None) (above (slice_index_or parents d None) (nearest parents owners n))
