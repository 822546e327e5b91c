-- At which rank the thread of a rank asks its requests.
use Rattle.std.specs.Prelude.{◌≡◌, ◌⊎◌, ℕ, zero, suc, ◌+◌, List, [], ◌∷◌, Option, Some, None}
use mathlib.Core.List.{IsPrefix}
use Rattle.authority_map.specs.Operations.{Operation, rank_after}
use Rattle.heat_ledger.specs.Ledger.{ShareData}
use Rattle.mds_board.specs.declared.entry.Entry.{Entry}
use Rattle.mds_board.specs.History.{World}
use Rattle.phased_board.specs.OnTheWay.{WasPublished}

-- It asks at this rank, or looks each directory up by a reader of the map, whose answers hold these operations.
pub data Way : Type 0 where
  At : ℕ → Way
  ByMap : List Operation → Way

-- the rank of a directory, or rank 0 where it has none
abbrev pub rank_or_zero : Option ℕ → ℕ
rank_or_zero None = 0
rank_or_zero (Some rank) = rank

-- It is the thread's rank or, by the map, where the reader's answers had the directory meanwhile: rank 0 where these
-- had it nowhere.
abbrev pub IsFoundAt : Way → Way → ℕ → ℕ → Type 0
IsFoundAt (At rank) (At same) dir found = found ≡ rank
IsFoundAt (ByMap old) (ByMap new) dir found =
    (then : List Operation) × IsPrefix old then × IsPrefix then new × (found ≡ rank_or_zero (rank_after then dir))
IsFoundAt _ _ _ _ = ⊥

-- the same, of what a board of the phase had published, for a reader that found the map closed
abbrev pub IsPublishedAt : World → List Entry → ℕ → ℕ → Type 0
IsPublishedAt before log dir asked =
    (found : Option ℕ) × WasPublished before log dir found × (asked ≡ rank_or_zero found)

-- A request on a directory is asked at this rank.
abbrev pub IsAskedAt : World → List Entry → Way → Way → ℕ → ℕ → Type 0
IsAskedAt before log (At rank) new dir asked = IsFoundAt (At rank) new dir asked
IsAskedAt before log (ByMap old) new dir asked =
    IsFoundAt (ByMap old) new dir asked ⊎ IsPublishedAt before log dir asked

-- It looks directories up by a reader of the map.
abbrev pub IsByMap : Way → Type 0
IsByMap (At rank) = ⊥
IsByMap (ByMap operations) = Unit {0}

-- The rank is the same, and a reader holds what it held.
abbrev pub HoldsAsMuch : Way → Way → Type 0
HoldsAsMuch (At rank) (At same) = same ≡ rank
HoldsAsMuch (ByMap old) (ByMap new) = IsPrefix old new
HoldsAsMuch _ _ = ⊥

-- what the thread of a rank works with
pub record Hand : Type 0 where
  pub share : ShareData
  pub way : Way

abbrev pub hands_of : List ShareData → List Way → List Hand
hands_of (s ∷ shares) (w ∷ ways) = record { share = s; way = w } ∷ hands_of shares ways
hands_of _ _ = []

abbrev pub shares_of : List Hand → List ShareData
shares_of [] = []
shares_of (h ∷ hands) = h.share ∷ shares_of hands

-- each rank's own, for so many ranks from this one on
abbrev pub own_ranks : ℕ → ℕ → List Way
own_ranks rank zero = []
own_ranks rank (suc n) = At rank ∷ own_ranks (rank + 1) n
