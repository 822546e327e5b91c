-- The tree, the pins and the names of a state, as a replay of its history has them.
use Rattle.std.specs.Prelude.{◌≡◌, ◌<◌, ◌≤◌, ℕ, true, List, [], length, map, slice_index_or, None}
use Rattle.board_certificates.specs.Certificates.{row_name}
use Rattle.board_certificates.specs.declared.replay.Replay.{Replay}
use Rattle.mds_board.specs.declared.change.Change.{Change}
use Rattle.mds_board.specs.State.{State, refusal}
use Rattle.dirtree.specs.Tree.{is_there}

-- the names that directories were made with, by their numbers, and the slash of the root
abbrev pub made_names : Replay → List (List ℕ)
made_names r = map (λ name. name.now) r.names.items

pub record IsReplayed (s : State) (r : Replay) : Type 0 where
  pub directories : r.tree ≡ s.directories
  pub pins : r.pins.own ≡ s.pins.own
  pub ranks : s.pins.active ≤ r.pins.active
  pub few : r.pins.active ≤ 64
  pub room : length s.pins.own ≡ s.directories.limit
  pub rooted : 0 < length s.directories.entries
  pub numbered : length (made_names r) ≡ length s.directories.entries
  pub named : (d : ℕ) → is_there s.directories.entries d ≡ true
      → slice_index_or (made_names r) d [] ≡ row_name s.directories.entries d

-- a state that a replay has, and that doesn't refuse a change
abbrev pub IsNext : Replay → Change → Type 0
IsNext r c = (s : State) × IsReplayed s r × (refusal s c ≡ None)
