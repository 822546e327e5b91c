-- Export pins of directories on ranks.
use Rattle.std.specs.Prelude.{◌≡◌, ◌<◌, ◌⊎◌, Contains, ℕ, ℤ, pos, negsuc, Bool, true, false, not, ◌&&◌}
use Rattle.std.specs.Prelude.{if◌then◌else◌, nat_lt, List, [], ◌∷◌, ◌++◌, length, filter, slice_set}
use Rattle.std.specs.Prelude.{slice_index_or, replicate, is_none, Option, Some, None}
use Prim.Native.Nat.{zero, suc}
use Rattle.dirtree.specs.Tree.{Entry, is_there, parent_of, walk_up}
use Rattle.dir_pins.specs.declared.pin_error.PinError.{PinError}
use Rattle.dir_pins.specs.declared.pin_error.PinError.TheVariants.{NoDir, NoRank}

-- own is the directories' own pins, by their numbers, which are below the limit;
-- the ranks below active can be pinned on
pub record PinTable : Type 0 where
  pub limit : ℕ
  pub active : ℕ
  pub own : List (Option ℕ)

abbrev pub no_pins : ℕ → ℕ → PinTable
no_pins limit active = record { limit = limit; active = active; own = replicate limit None }

abbrev pub own_pin : List (Option ℕ) → ℕ → Option ℕ
own_pin own d = slice_index_or own d None

-- each directory's own pin is an active rank
abbrev pub AreActive : ℕ → List (Option ℕ) → Type 0
AreActive active own = (d rank : ℕ) → own_pin own d ≡ Some rank → rank < active

-- the first one counts
abbrev pub nearer : Option ℕ → Option ℕ → Option ℕ
nearer None far = far
nearer (Some rank) far = Some rank

-- the pin of the first of these directories that has one
abbrev pub first_pin : List (Option ℕ) → List ℕ → Option ℕ
first_pin own [] = None
first_pin own (d ∷ above) = nearer (own_pin own d) (first_pin own above)

-- the pin of d: its own, otherwise that of the nearest directory above it that has one
abbrev pub nearest_pin : List (Option Entry) → List (Option ℕ) → ℕ → Option ℕ
nearest_pin entries own d = first_pin own (walk_up entries d)

-- the numbers below n, rising
abbrev pub below : ℕ → List ℕ
below zero = []
below (suc n) = below n ++ n ∷ []

-- d is there, and no pin holds it
abbrev pub is_unpinned : List (Option Entry) → List (Option ℕ) → ℕ → Bool
is_unpinned entries own d = is_there entries d && is_none (nearest_pin entries own d)

-- the directories that no pin holds, rising
abbrev pub unpinned : List (Option Entry) → List (Option ℕ) → List ℕ
unpinned entries own = filter (is_unpinned entries own) (below (length entries))

-- the rank that a value names, with -1 for none
abbrev pub pin_value : ℤ → Option ℕ
pin_value (pos rank) = Some rank
pin_value (negsuc n) = None

-- the value is -1 or an active rank
abbrev pub is_pin : ℕ → ℤ → Bool
is_pin active (pos rank) = nat_lt rank active
is_pin active (negsuc zero) = true
is_pin active (negsuc (suc n)) = false

-- why a pin can't be set, if it can't
abbrev pub pin_refusal : ℕ → List (Option Entry) → ℕ → ℤ → Option PinError
pin_refusal active entries d pin =
    if not (is_there entries d) then Some NoDir
    else if not (is_pin active pin) then Some NoRank
    else None

abbrev pub with_pin : PinTable → ℕ → ℤ → PinTable
with_pin pins d pin = record pins { own = slice_set pins.own d (pin_value pin) }

-- d is c, or is above it
abbrev pub IsAbove : List (Option Entry) → ℕ → ℕ → Type 0
IsAbove entries d c = Contains (walk_up entries c) d

-- These directories are none, or a tree with the root at its top: the parent of each but the root is one of them.
pub record IsNoneOrTree (entries : List (Option Entry)) (dirs : List ℕ) : Type 0 where
  pub top : (dirs ≡ []) ⊎ ((rest : List ℕ) × (dirs ≡ 0 ∷ rest))
  pub parents : (d : ℕ) → 0 < d → Contains dirs d → Contains dirs (parent_of entries d)
