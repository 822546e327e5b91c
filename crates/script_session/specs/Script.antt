-- What a run of a script from its beginning has written.
use Rattle.std.specs.Prelude.{ℕ, Bool, List, Option, Some, None}
use Rattle.mds_board.specs.Promises.{IsKept}
use Rattle.script_board.specs.Board.{BoardData}
use Rattle.script_engine.specs.Runs.{AcceptsUpTo, AnswersAll, AnswersSome, AnswersWhole}
use Rattle.script_session.specs.Session.{SessionData, answers, beginning}

-- what holds of every board: its state is the replay of its history, each adopted plan is best, and each directory
-- has exactly one authority
abbrev pub IsKeptAt : Option BoardData → Type 0
IsKeptAt None = Unit {0}
IsKeptAt (Some b) = IsKept b.world

module _ (limit : ℕ) (strict : Bool) where
  -- These lines are answered, and all answers were written. Accepted says whether each line was accepted. What holds
  -- of every board holds of the one that is left.
  abbrev pub AllAnswered : List (List ℕ) → Bool → Option (List ℕ) → Option (List ℕ) → Type 0
  AllAnswered lines accepted before after =
      (last : SessionData) × AnswersAll answers strict (beginning limit) lines last accepted before after
      × IsKeptAt last.board

  -- the whole lines of these bytes are answered, and all answers were written
  abbrev pub WholeAnswered : List ℕ → Option (List ℕ) → Option (List ℕ) → Type 0
  WholeAnswered bytes before after =
      (last : SessionData) × AnswersWhole answers strict (beginning limit) bytes last before after

  -- some of the lines of these bytes are answered, from the first on, and a beginning of the answers was written
  abbrev pub SomeAnswered : List ℕ → Option (List ℕ) → Option (List ℕ) → Type 0
  SomeAnswered = AnswersSome answers strict (beginning limit)

  -- the whole lines of some bytes are all accepted, and no more than 16384 bytes follow
  abbrev pub AcceptedUpTo : List ℕ → List ℕ → Type 0
  AcceptedUpTo = AcceptsUpTo answers strict (beginning limit)
