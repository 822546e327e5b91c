-- How far a run has come.
use Rattle.std.specs.Prelude.{◌≡◌, ◌≢◌, ℕ, ◌+◌, Bool, true, false, not, ◌&&◌, List, [], ◌++◌, length}
use Rattle.std.specs.List.{AllByRecursion}
use Rattle.script_engine.specs.Lines.{lines_of, IsLine, ended}
use Rattle.script_engine.specs.Answers.{Answer, Run, text_of, all_accepted}
use Rattle.script_engine.specs.declared.progress.Progress.{Progress}

-- the buffer has the bytes of the line that has begun, unless they found no room
pub record Holds (rest buffer : List ℕ) (has_room : Bool) : Type 0 where
  pub kept : has_room ≡ true → buffer ≡ rest
  pub lost : has_room ≡ false → rest ≢ []

module _ {S : Type 0} (answers : S → ℕ → List ℕ → Answer → S → Type 0) where
  -- These bytes were read: whole lines that were answered by this text, and then a part of a line.
  pub record Stands (strict : Bool) (start : S) (bytes text : List ℕ) (now : S) (p : Progress) : Type 0 where
    pub lines : List (List ℕ)
    pub rest : List ℕ
    pub replies : List Answer
    pub split : bytes ≡ ended lines ++ rest
    pub are_lines : AllByRecursion IsLine lines
    pub is_line : IsLine rest
    pub run : Run answers strict start 1 lines replies now
    pub written : text ≡ text_of replies
    pub good : p.accepted ≡ all_accepted replies
    pub open_line : (strict && not p.accepted) ≡ false → Holds rest p.line.items p.has_room
    pub numbered : (strict && not p.accepted) ≡ false → p.number ≡ length lines + 1

  -- After this text a write failed, in the middle of tail: the whole lines up to some line were answered.
  pub record Broken (strict : Bool) (start : S) (bytes text tail : List ℕ) : Type 0 where
    pub lines : List (List ℕ)
    pub rest : List ℕ
    pub replies : List Answer
    pub now : S
    pub split : bytes ≡ ended lines ++ rest
    pub are_lines : AllByRecursion IsLine lines
    pub run : Run answers strict start 1 lines replies now
    pub written : text ++ tail ≡ text_of replies

  -- The bytes are all there is, text and then more was written, and these are the answers to all lines.
  pub record Ends (strict : Bool) (start : S) (bytes text more : List ℕ) (now : S) (accepted : Bool) : Type 0 where
    pub replies : List Answer
    pub run : Run answers strict start 1 (lines_of bytes) replies now
    pub good : accepted ≡ all_accepted replies
    pub written : text ++ more ≡ text_of replies

  -- After text a write failed, in the middle of tail: these are the answers to the first lines.
  pub record Cut (strict : Bool) (start : S) (bytes text tail : List ℕ) : Type 0 where
    pub lines : List (List ℕ)
    pub unread : List (List ℕ)
    pub replies : List Answer
    pub now : S
    pub split : lines_of bytes ≡ lines ++ unread
    pub run : Run answers strict start 1 lines replies now
    pub written : text ++ tail ≡ text_of replies
