-- The stops of a phase, round by round and one by one.
use Rattle.std.proofs.Common.{◌≡◌, ◌≤◌, ◌<◌, ◌≢◌, ◌+◌, ◌⊎◌, ℕ, List, length}
use Rattle.std.proofs.Common.{get_or, Result, Ok, Err, inl, inr, sym, ap, ◌∙◌, subst, arith}
use Rattle.std.proofs.Math.Nat.{eq-or-lt_of_le}
use Rattle.std.proofs.lemmas.List.{get_or-map, get_or_default, length-map}
use Rattle.std.specs.Prelude.{IfErr, OnOk}
use Rattle.std.specs.List.{Contains}
use mathlib.Core.List.{IsPrefix}
use Rattle.export_protocol.specs.declared.event.Event.TheVariants.{Stop}
use Rattle.mds_board.specs.declared.board_error.BoardError.{BoardError}
use Rattle.mds_board.specs.declared.change.Change.TheVariants.{Step}
use Rattle.mds_board.specs.declared.entry.Entry.{Entry}
use Rattle.mds_board.specs.History.{World}
use Rattle.phased_board.specs.Moments.{IsMet}
use Rattle.phased_board.specs.Stops.{AreStopped, IsStopTold, IsStopped, IsToldWith, ranks_of}
use Rattle.phased_board.specs.declared.breaks.RankStop.{RankStop}
use Rattle.phased_board.proofs.Stopped.{IsMetOf, met_more, told_more}

-- what is told of a stop just now
pub told_now : (before : World) (log : List Entry) (rank : ℕ) (stopped told : Result Unit BoardError) → OnOk stopped (IsStopped before log rank)
    → IfErr stopped (λ e. IsMet before log (Step (Stop rank)) e) → IfErr stopped (λ e. IsToldWith told e) → IsStopTold before log told rank
told_now before log rank (Ok done) told is met with = inl is
told_now before log rank (Err e) told is met with = inr (e, met, with)

-- the refusal that is told after one more stop
pub met_now : (before : World) (log : List Entry) (rank : ℕ) (old stopped told : Result Unit BoardError) → (told ≡ old) ⊎ (told ≡ stopped)
    → IfErr stopped (λ e. IsMet before log (Step (Stop rank)) e) → IfErr told (λ e. (old ≡ told) ⊎ IsMet before log (Step (Stop rank)) e)
met_now before log rank old stopped (Ok done) either met = tt
met_now before log rank old stopped (Err e) (inl same) met = inl (sym same)
met_now before log rank old (Ok done) (Err e) (inr same) met = absurd (cc)
met_now before log rank old (Err x) (Err e) (inr same) met = let is : x ≡ e = cc in
    inr (subst (λ (y : BoardError). IsMet before log (Step (Stop rank)) y) is met)

-- one of the rounds so far, or the next one where the stop is one of the first
abbrev pub IsDue : ℕ → ℕ → ℕ → RankStop → Type 0
IsDue begun at i stop = (1 ≤ stop.round) × ((stop.round ≤ begun) ⊎ ((i < at) × (stop.round ≤ begun + 1)))

pub record AreSoFar (begun at : ℕ) (before : World) (log : List Entry) (stops : List RankStop) (told : Result Unit BoardError) : Type 0 where
  pub each : (i : ℕ) (d : RankStop) → i < length stops → IsDue begun at i (get_or stops i d) → IsStopTold before log told (get_or stops i d).rank
  pub met : IsMetOf before log stops told

pub none_yet : (begun : ℕ) (before : World) (log : List Entry) (stops : List RankStop) (told : Result Unit BoardError) → AreStopped begun before log stops told
    → AreSoFar begun 0 before log stops told
none_yet begun before log stops told h = record { each = one; met = h.met }
  where
    one : (i : ℕ) (d : RankStop) → i < length stops → IsDue begun 0 i (get_or stops i d) → IsStopTold before log told (get_or stops i d).rank
    one i d l (first, inl few) = h.each i d l first few
    one i d l (first, inr none) = absurd (omega (arith, none.0))

met_after : (before : World) (log longer : List Entry) (stops : List RankStop) (rank : ℕ) (told next : Result Unit BoardError)
    → IsPrefix log longer → Contains (ranks_of stops) rank
    → IfErr next (λ e. (told ≡ next) ⊎ IsMet before longer (Step (Stop rank)) e) → IsMetOf before log stops told → IsMetOf before longer stops next
met_after before log longer stops rank told (Ok done) more inside is h = tt
met_after before log longer stops rank told (Err e) more inside (inl same) h =
    met_more before log longer stops (Err e) more (subst (λ (r : Result Unit BoardError). IsMetOf before log stops r) same h)
met_after before log longer stops rank told (Err e) more inside (inr met) h = (rank, inside, met)

-- a stop whose round this is
pub one_more : (begun at : ℕ) (before : World) (log longer : List Entry) (stops : List RankStop) (told next : Result Unit BoardError)
    (stop : RankStop) → IsPrefix log longer
    → ((e : BoardError) → IsToldWith told e → IsToldWith next e) → stop ≡ get_or stops at stop → Contains (ranks_of stops) stop.rank
    → IsStopTold before longer next stop.rank → IfErr next (λ e. (told ≡ next) ⊎ IsMet before longer (Step (Stop stop.rank)) e)
    → AreSoFar begun at before log stops told → AreSoFar begun (at + 1) before longer stops next
one_more begun at before log longer stops told next stop more kept is inside this met h =
    record { each = one; met = met_after before log longer stops stop.rank told next more inside met h.met }
  where
    one : (i : ℕ) (d : RankStop) → i < length stops → IsDue begun (at + 1) i (get_or stops i d) → IsStopTold before longer next (get_or stops i d).rank
    one i d l (first, inl few) = told_more before log longer told next (get_or stops i d).rank more kept (h.each i d l (first, inl few))
    one i d l (first, inr due) =
        elim (eq-or-lt_of_le {n = i} {m = at} (let below = due.0 in omega arith)) [
          | inr less ↦ told_more before log longer told next (get_or stops i d).rank more kept (h.each i d l (first, inr (less, due.1)))
          | inl same ↦
              let found : stop ≡ get_or stops i d = is ∙ (ap (λ (k : ℕ). get_or stops k stop) (sym same) ∙ get_or_default stops i stop d l) in
              subst (λ (s : RankStop). IsStopTold before longer next s.rank) found this
        ]

-- a stop of another round
pub passed_over : (begun at : ℕ) (before : World) (log : List Entry) (stops : List RankStop) (told : Result Unit BoardError)
    (stop : RankStop) → stop ≡ get_or stops at stop
    → stop.round ≢ begun + 1 → AreSoFar begun at before log stops told → AreSoFar begun (at + 1) before log stops told
passed_over begun at before log stops told stop is other h = record { each = one; met = h.met }
  where
    one : (i : ℕ) (d : RankStop) → i < length stops → IsDue begun (at + 1) i (get_or stops i d) → IsStopTold before log told (get_or stops i d).rank
    one i d l (first, inl few) = h.each i d l (first, inl few)
    one i d l (first, inr due) =
        elim (eq-or-lt_of_le {n = i} {m = at} (let below = due.0 in omega arith)) [
          | inr less ↦ h.each i d l (first, inr (less, due.1))
          | inl same ↦
              let found : stop ≡ get_or stops i d = is ∙ (ap (λ (k : ℕ). get_or stops k stop) (sym same) ∙ get_or_default stops i stop d l) in
              let round : stop.round ≡ (get_or stops i d).round = ap (λ (s : RankStop). s.round) found in
              h.each i d l (first, inl (let few = due.1 in omega arith))
        ]

-- a rank that stops is one of those that do

pub rank_named : (stops : List RankStop) (k : ℕ) (stop : RankStop) → k < length stops → stop ≡ get_or stops k stop → Contains (ranks_of stops) stop.rank
rank_named stops k stop l is = (
  k,
  (let many = length-map stops (λ s. s.rank) in omega arith),
  get_or-map (λ s. s.rank) stops k stop stop.rank l ∙ ap (λ (s : RankStop). s.rank) (sym is),
)
