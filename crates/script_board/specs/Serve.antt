-- What `go` does: the waiting requests are served by a thread a rank, and each share deposits its hits.
use Rattle.std.specs.List.{list_any}
use Rattle.std.specs.Option.{option_map}
use Rattle.std.specs.Prelude.{◌≡◌, ℕ, ◌<◌, ◌+◌, ◌==◌, nat_lt, if◌then◌else◌, Bool, not, List, [], ◌∷◌, ◌++◌}
use Rattle.std.specs.Prelude.{false, filter, length, map, slice_get, slice_index_or, true}
use Rattle.std.specs.Prelude.{Option, Some, None, Result}
use Rattle.authority_map.specs.Operations.{rank_after}
use Rattle.dirtree.specs.Tree as tree
use Rattle.heat_ledger.specs.Ledger.{pending_of}
use Rattle.heat_ledger.specs.Rows.{at}
use Rattle.mds_board.specs.declared.board_error.BoardError.{BoardError}
use Rattle.mds_board.specs.History.{World}
use Rattle.rank_threads.specs.declared.work.Work.{Work}
use Rattle.rank_threads.specs.declared.work.WorkAnswer.{WorkAnswer}
use Rattle.phased_board.specs.declared.breaks.RankStop.{RankStop}
use Rattle.phased_board.specs.Going.{WentOnWithStops}
use Rattle.phased_board.specs.Stops.{ranks_of}
use Rattle.phased_board.specs.Begun.{IsEndTold}
use Rattle.rank_threads.specs.Asking.{AreServed}
use Rattle.rank_threads.specs.Serving.{begun_on, hits_on}
use Rattle.rank_threads.specs.Totals.{over_ranks}
use Rattle.rank_threads.specs.Ways.{Way, own_ranks}
use Rattle.script_board.specs.declared.dealing.Seat.{Seat}
use Rattle.script_board.specs.declared.fault.Fault.{Fault}
use Rattle.script_board.specs.declared.load.Load.{Load}
use Rattle.script_board.specs.Board.{BoardData}
use Rattle.script_board.specs.Fault.{is_memory, unless_done, work_fault}

-- A request waits until it is served or its directory is removed.
abbrev pub waiting : BoardData → List Load
waiting b = filter (λ l. tree.is_there b.world.state.directories.entries l.dir) b.loads

abbrev pub or_0 : Option ℕ → ℕ
or_0 None = 0
or_0 (Some rank) = rank

-- the rank that is asked: the one that the map names, or rank 0 where it names none below `ranks`
abbrev pub asked_rank : World → ℕ → ℕ → ℕ
asked_rank w ranks d = if nat_lt (or_0 (rank_after w.published d)) ranks then or_0 (rank_after w.published d) else 0

abbrev pub work_of : Load → Work
work_of l = record { dir = l.dir; hits = l.hits; kind = l.kind }

-- the requests that are asked of a rank, in their order
abbrev pub works_at : World → ℕ → ℕ → List Load → List Work
works_at w ranks rank loads = map work_of (filter (λ l. asked_rank w ranks l.dir == rank) loads)

abbrev pub script_at : List (List Work) → ℕ → List Work
script_at scripts rank = slice_index_or scripts rank []

-- where the answer to the request after these is found: at its rank, after the earlier ones that are asked
-- of it
abbrev pub place : World → ℕ → List Load → Load → Seat
place w ranks earlier l = record {
  rank = asked_rank w ranks l.dir;
  number = length (works_at w ranks (asked_rank w ranks l.dir) earlier);
}

abbrev pub places_after : World → ℕ → List Load → List Load → List Seat
places_after w ranks earlier [] = []
places_after w ranks earlier (l ∷ loads) = place w ranks earlier l ∷ places_after w ranks (earlier ++ l ∷ []) loads

-- where the answers to these requests are found
abbrev pub places : World → ℕ → List Load → List Seat
places w ranks loads = places_after w ranks [] loads

-- Each rank has the requests that are asked of it, in their order.
pub record IsDealt (w : World) (ranks : ℕ) (loads : List Load) (scripts : List (List Work))
    (seats : List Seat) : Type 0 where
  pub as_many : length scripts ≡ ranks
  pub each : (rank : ℕ) → rank < ranks → script_at scripts rank ≡ works_at w ranks rank loads
  pub found : seats ≡ places w ranks loads

abbrev pub refusal_of : Option WorkAnswer → Option Fault
refusal_of None = None
refusal_of (Some answer) = option_map work_fault answer.refused

-- what refused the request whose answer is found there, if anything did
abbrev pub refusal_at : List (List WorkAnswer) → Seat → Option Fault
refusal_at answers seat = refusal_of (slice_get (slice_index_or answers seat.rank []) seat.number)

-- the refusal that a request met, if it met one
abbrev pub met : Option Fault → List Fault
met None = []
met (Some fault) = fault ∷ []

-- the refusals that requests met
abbrev pub refusals : List (List WorkAnswer) → List Seat → List Fault
refusals answers [] = []
refusals answers (seat ∷ seats) = met (refusal_at answers seat) ++ refusals answers seats

-- The waiting requests were served and the shares deposited, by a thread a rank, which finds the rank to ask in its
-- way; exports may have gone on and ranks stopped meanwhile. Each request has an answer, which is what the board said
-- when it was asked; the shares count what the answers name, the hits of each kind by themselves; and these refusals
-- were met: those of requests in the order of their loads, the first of an end, and the first of a deposit.
pub record IsServedBy (exports : Bool) (stops : List RankStop) (ways later : List Way) (old : BoardData)
    (refused : List Fault) (new : BoardData) : Type 0 where
  pub scripts : List (List Work)
  pub seats : List Seat
  pub answers : List (List WorkAnswer)
  pub ended : Result Unit BoardError
  pub deposited : Result Unit BoardError
  pub dealt : IsDealt old.world (length old.shares) (waiting old) scripts seats
  pub served : AreServed old.world.state.directories.limit old.world new.world.history old.shares ways scripts answers
      new.shares later deposited
  pub end_told : IsEndTold old.world new.world ended
  pub went : WentOnWithStops true exports (ranks_of stops) old.world new.world
  pub begun : (d : ℕ) → d < old.world.state.directories.limit → at new.world.state.begun d
      ≡ at old.world.state.begun d + over_ranks (begun_on d) scripts answers
  pub counted : (e : ℕ) → e < old.world.state.directories.limit + old.world.state.directories.limit
      → at new.world.state.counted e + pending_of new.shares e
      ≡ (at old.world.state.counted e + pending_of old.shares e) + over_ranks (hits_on e) scripts answers
  pub told : refused ≡ refusals answers seats ++ unless_done ended ++ unless_done deposited

-- The waiting requests were served, each at its thread's own rank.
abbrev pub IsServed : BoardData → List Fault → BoardData → Type 0
IsServed old refused new =
    IsServedBy false [] (own_ranks 0 (length old.shares)) (own_ranks 0 (length old.shares)) old refused new

-- The waiting requests were served, and none waits any more. Orders and stops wait on.
abbrev pub IsGone : BoardData → List Fault → BoardData → Type 0
IsGone old refused new =
    IsServed old refused new × (new.loads ≡ []) × (new.kept ≡ old.kept) × (new.stops ≡ old.stops)

-- Memory sufficed for all that `go` or `traffic` did, unless a refusal says otherwise.
abbrev pub is_ample : List Fault → Bool
is_ample refused = not (list_any is_memory refused)
