-- What a run over some lines has written, and how far it is.
use Rattle.std.specs.Prelude.{◌≡◌, ◌≤◌, ℕ, Bool, true, List, ◌++◌, length, Option}
use Rattle.std.specs.Io.KnownBytes.{Appends, Consumes, IsAtEnd}
use Rattle.script_engine.specs.Answers.{Answer, Run, text_of, all_accepted}
use Rattle.script_engine.specs.Devices.{Reading}
use Rattle.script_engine.specs.Known.{AppendsFront}
use Rattle.script_engine.specs.Lines.{lines_of, whole_lines}

-- the reader gave these bytes
abbrev pub Gives : {R : Type 0} → (R → Option (List ℕ)) → Reading R → Reading R → List ℕ → Type 0
Gives remaining old new bytes =
    Consumes (remaining old.reader) (remaining new.reader) bytes × (new.given ≡ old.given ++ bytes)

-- the reader is at its end
abbrev pub IsEnded : {R : Type 0} → (R → Option (List ℕ)) → Reading R → Type 0
IsEnded remaining new = IsAtEnd (remaining new.reader) × (new.ended ≡ true)

module _ {S : Type 0} (answers : S → ℕ → List ℕ → Answer → S → Type 0) (strict : Bool) (old : S) where
  -- These lines are answered, which leads to the new state, and all answers were written.
  -- Accepted says whether each line was accepted.
  abbrev pub AnswersAll : List (List ℕ) → S → Bool → Option (List ℕ) → Option (List ℕ) → Type 0
  AnswersAll lines new accepted before after =
      (replies : List Answer) × Run answers strict old 1 lines replies new × (accepted
      ≡ all_accepted replies) × Appends before after (text_of replies)

  -- The whole lines of these bytes are answered, and all answers were written.
  abbrev pub AnswersWhole : List ℕ → S → Option (List ℕ) → Option (List ℕ) → Type 0
  AnswersWhole bytes new before after =
      (replies : List Answer) × Run answers strict old 1 (whole_lines
      bytes) replies new × Appends before after (text_of replies)

  -- Some of the lines of these bytes are answered, from the first on, and a beginning of the answers was written.
  abbrev pub AnswersSome : List ℕ → Option (List ℕ) → Option (List ℕ) → Type 0
  AnswersSome bytes before after =
      (lines : List (List ℕ)) × (more : List (List ℕ)) × (replies : List Answer) × (last : S) × (lines_of bytes
      ≡ lines ++ more)
      × Run answers strict old 1 lines replies last × AppendsFront before after (text_of replies)

  -- The whole lines of some bytes are all accepted, and no more than 16384 bytes follow.
  abbrev pub AcceptsUpTo : List ℕ → List ℕ → Type 0
  AcceptsUpTo front last =
      (length last ≤ 16384) × ((replies : List Answer) × (mid : S)
      × Run answers strict old 1 (whole_lines front) replies mid × (all_accepted replies ≡ true))
