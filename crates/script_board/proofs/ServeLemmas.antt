-- A board whose waiting requests were served.
use Rattle.std.proofs.Common.{◌≡◌, ◌<◌, ◌≤◌, ◌+◌, ◌++◌, true, ℕ, Bool, List, [], ◌∷◌, Vec, Global, length, map, arith, subst, sym}
use Rattle.phased_board.specs.declared.breaks.RankStop.{RankStop}
use Rattle.phased_board.specs.Going.{WentOnWithStops}
use Rattle.phased_board.specs.Stops.{ranks_of}
use Rattle.heat_ledger.specs.Ledger.{ShareData}
use Rattle.mds_board.specs.declared.entry.Entry.{Entry}
use Rattle.mds_board.specs.History.{World}
use Rattle.mds_types.specs.declared.order.Order.{Order}
use Rattle.rank_threads.specs.declared.phase.Ranks.{Ranks}
use Rattle.rank_threads.specs.declared.work.Work.{Work}
use Rattle.rank_threads.specs.declared.work.WorkAnswer.{WorkAnswer}
use Rattle.rank_threads.specs.Answered.{AreAnswered}
use Rattle.rank_threads.specs.Phases.{AreRequestsServed}
use Rattle.rank_threads.specs.Totals.{RoseByAnswers}
use Rattle.rank_threads.specs.Ways.{Hand, Way, hands_of}
use Rattle.script_board.specs.declared.dealing.Seat.{Seat}
use Rattle.script_board.specs.declared.fault.Fault.{Fault}
use Rattle.script_board.specs.declared.load.Load.{Load}
use Rattle.script_board.specs.Board.{BoardData}
use Rattle.script_board.specs.Fault.{unless_done}
use Rattle.script_board.specs.Serve.{IsDealt, IsServedBy, refusals, waiting}

-- each rank that has answered has its way back
pub answered_ways : (before : World) (log : List Entry) (hands : List Hand) (scripts : List (List Work)) (answers : List (List WorkAnswer))
    (after : List ShareData) (later : List Way)
    → AreAnswered before log hands scripts answers (hands_of after later) → length after ≡ length scripts → length scripts ≤ length later
answered_ways before log hands [] answers after later h same = omega arith
answered_ways before log hands (w ∷ scripts) answers [] later h same = absurd (omega (arith, same))
answered_ways before log [] (w ∷ scripts) answers (s ∷ after) later h same = absurd h
answered_ways before log (x ∷ hands) (w ∷ scripts) [] (s ∷ after) later h same = absurd h
answered_ways before log (x ∷ hands) (w ∷ scripts) (a ∷ answers) (s ∷ after) [] h same = absurd h
answered_ways before log (x ∷ hands) (w ∷ scripts) (a ∷ answers) (s ∷ after) (l ∷ later) h same =
    let rest = answered_ways before log hands scripts answers after later h.2 (omega (arith, same)) in omega (arith, rest)

-- what a phase promises, of a board whose limit is that of the phase
pub served_by : {J : Type 0} (exports : Bool) (stops : List RankStop) (limit : ℕ) (ways later : List Way) (old : BoardData) (now : World)
    (waits : List Load) (kept : List Order) (left : List RankStop) (refused : List Fault) (scripts : List (Vec Work Global)) (seats : List Seat)
    (ranks : Ranks J) → limit ≡ old.world.state.directories.limit
    → IsDealt old.world (length old.shares) (waiting old) (map (λ s. s.items) scripts) seats
    → AreRequestsServed limit old.world now old.shares ways scripts ranks later → RoseByAnswers limit old.world now old.shares scripts ranks
    → WentOnWithStops true exports (ranks_of stops) old.world now
    → refused ≡ refusals (map (λ a. a.items) ranks.answers.items) seats ++ unless_done ranks.ended ++ unless_done ranks.deposited
    → IsServedBy exports stops ways later old refused
    (record { world = now; shares = ranks.shares.items; loads = waits; kept = kept; stops = left })
served_by exports stops limit ways later old now waits kept left refused scripts seats ranks limited dealt served rose went told = record {
  scripts = map (λ (s : Vec Work Global). s.items) scripts;
  seats = seats;
  answers = map (λ (a : Vec WorkAnswer Global). a.items) ranks.answers.items;
  ended = ranks.ended;
  deposited = ranks.deposited;
  dealt = dealt;
  served = (subst (λ (n : ℕ). AreRequestsServed n old.world now old.shares ways scripts ranks later) limited served).served;
  end_told = served.ended;
  went = went;
  begun = λ d inside. rose.begun d (subst (λ (n : ℕ). d < n) (sym limited) inside);
  counted = λ e inside. rose.hits e (subst (λ (n : ℕ). e < n + n) (sym limited) inside);
  told = told;
}
