-- The stored history of a board, and what its replay gives.
use Rattle.std.specs.Prelude.{◌≡◌, ◌≤◌, ℕ, Bool, false, List, [], ◌∷◌, ◌++◌, length, Result, Ok, Err, None}
use Rattle.authority_map.specs.Operations.{Operation}
use Rattle.mds_board.specs.declared.board_error.BoardError.{BoardError}
use Rattle.mds_board.specs.declared.change.Answer.{Answer}
use Rattle.mds_board.specs.declared.change.Change.{Change}
use Rattle.mds_board.specs.State.{State, start, refusal, happens, next}
use Rattle.mds_board.specs.Steps.{Present, IsAllowed, IsDue}
use Rattle.mds_board.specs.declared.entry.Entry.{Entry}

-- What contracts see of a board: its state, whether its ledger is open, how many shares that has, how much of the map
-- is published, and the accepted changes with their replies.
pub record World : Type 0 where
  pub state : State
  pub is_open : Bool
  pub shares : ℕ
  pub published : List Operation
  pub history : List Entry

abbrev pub world_of : Present → List Entry → World
world_of p history =
    record { state = p.state; is_open = p.is_open; shares = p.shares; published = p.published; history = history }

-- the board of no phase
abbrev pub no_board : World
no_board = record { state = start 0 0; is_open = false; shares = 0; published = []; history = [] }

-- In the state old the entries' changes were accepted in turn, with these replies, and led to new.
abbrev pub IsReplay : State → List Entry → State → Type 0
IsReplay old [] new = new ≡ old
IsReplay old (e ∷ es) new =
    (refusal old e.change ≡ None) × IsAllowed old e.change × (e.reply ≡ (happens old e.change).reply)
    × IsReplay (next old e.change) es new

-- the state after some entries
abbrev pub after : State → List Entry → State
after s [] = s
after s (e ∷ es) = after (next s e.change) es

-- a change as it is kept, with its reply
abbrev pub entry_of : State → Change → Entry
entry_of s c = record { change = c; reply = (happens s c).reply }

abbrev pub recorded : World → Change → World
recorded w c = record w { state = next w.state c; history = w.history ++ entry_of w.state c ∷ [] }

-- An accepted change adds its entry with the reply that the caller gets. A refused one changes nothing.
abbrev pub IsAnswer : World → Change → Result Answer BoardError → World → Type 0
IsAnswer old c (Ok reply) new =
    (refusal old.state c ≡ None) × IsAllowed old.state c × (reply ≡ (happens old.state c).reply)
    × (new ≡ recorded old c)
IsAnswer old c (Err error) new = IsDue old.state c error × (new ≡ old)

-- The state is the replay of the history from the empty board, within the limits.
pub record IsHistory (s : State) (history : List Entry) : Type 0 where
  pub some_dir : 1 ≤ s.directories.limit
  pub some_rank : 1 ≤ s.pins.active
  pub few : length history ≤ 1048576
  pub numbered : s.events ≡ length history
  pub replay : IsReplay (start s.directories.limit s.pins.active) history s
