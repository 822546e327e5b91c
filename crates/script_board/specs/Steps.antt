-- What the steps of exports and requests do to a board, one by one, and the reply to each.
use Rattle.std.specs.Prelude.{ℕ, nat_lt, if◌then◌else◌, List, [], ◌∷◌, length, slice_index_or, slice_set, Result, Ok}
use Rattle.export_protocol.specs.declared.event.Event.{Event}
use Rattle.export_protocol.specs.declared.event.Event.TheVariants.{Begin, Start}
use Rattle.export_protocol.specs.declared.event.Reply.{Reply}
use Rattle.export_protocol.specs.Step as machine
use Rattle.heat_ledger.specs.Ledger.{ShareData}
use Rattle.heat_ledger.specs.Opening.{fresh_share}
use Rattle.heat_ledger.specs.Rows.{raised}
use Rattle.mds_board.specs.declared.change.Change.TheVariants.{Step}
use Rattle.mds_board.specs.State.{refusal}
use Rattle.mds_board.specs.History.{recorded}
use Rattle.script_board.specs.declared.fault.Fault.{Fault}
use Rattle.script_board.specs.Board.{BoardData}
use Rattle.script_board.specs.Commands.{find, ◌>>=◌}
use Rattle.script_board.specs.Fault.{unless}

-- the reply to an event of the cluster, and the board after it, unless the event is refused
abbrev pub take_step : BoardData → Event → Result (Reply × BoardData) Fault
take_step b e =
    unless (refusal b.world.state (Step e))
    ((machine.happens b.world.state.cluster e).reply, record b { world = recorded b.world (Step e) })

-- the directories that paths name, from left to right
abbrev pub find_all : BoardData → List (List ℕ) → Result (List ℕ) Fault
find_all b [] = Ok []
find_all b (path ∷ paths) = find b path >>= λ d. find_all b paths >>= λ more. Ok (d ∷ more)

-- an export of the directories that paths name starts, from one rank to another
abbrev pub start : BoardData → ℕ → ℕ → List (List ℕ) → Result (Reply × BoardData) Fault
start b from to paths = find_all b paths >>= λ dirs. take_step b (Start from to dirs)

-- the share that counts what a rank serves. A rank without a share isn't active, and serves nothing.
abbrev pub share_of : List ShareData → ℕ → ℕ
share_of shares rank = if nat_lt rank (length shares) then rank else 0

-- a share that has begun one request more on a directory
abbrev pub with_begun : ShareData → ℕ → ShareData
with_begun share d = record share { begun = raised share.begun d }

-- the share of a rank has begun one request more on a directory
abbrev pub with_request : BoardData → ℕ → ℕ → BoardData
with_request b rank d = record b {
  shares = slice_set b.shares (share_of b.shares rank)
      (with_begun (slice_index_or b.shares (share_of b.shares rank) (fresh_share 0)) d);
}

-- a request begins at a rank, on a directory, and is counted in the rank's share
abbrev pub begin_on : BoardData → ℕ → ℕ → Result (Reply × BoardData) Fault
begin_on b rank d = take_step b (Begin rank d) >>= λ done. Ok (done.0, with_request done.1 rank d)

-- the same on the directory that a path names
abbrev pub begin_at : BoardData → ℕ → List ℕ → Result (Reply × BoardData) Fault
begin_at b rank path = find b path >>= λ d. begin_on b rank d
