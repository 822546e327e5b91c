-- What is written for the lines of a script, one after another.
use Rattle.mds_types.specs.Refusal.{words}
use Rattle.mds_types.specs.declared.refusal.Refusal.TheVariants.{Memory}
use Rattle.std.specs.Prelude.{◌≡◌, ℕ, ◌+◌, Bool, true, false, not, ◌&&◌, MatchBool, List}
use Rattle.std.specs.Prelude.{[], ◌∷◌, ◌++◌, ◌⊎◌, codes, decimal, if◌then◌else◌}

-- what is written for a line, whether the line was accepted, and whether memory sufficed for it
pub record Answer : Type 0 where
  pub text : List ℕ
  pub accepted : Bool
  pub ample : Bool

-- what comes before the reason that a line is faulty
abbrev pub line_start : ℕ → List ℕ
line_start number = codes "line " ++ decimal number ++ codes ": "

-- the answer to a faulty line
abbrev pub fault_text : ℕ → List ℕ → List ℕ
fault_text number why = line_start number ++ why ++ 10 ∷ []

-- the answer to a line whose bytes or fields found no room
abbrev pub no_room : ℕ → Answer
no_room number = record { text = fault_text number (codes "refused " ++ words Memory); accepted = false; ample = false }

abbrev pub text_of : List Answer → List ℕ
text_of [] = []
text_of (a ∷ more) = a.text ++ text_of more

abbrev pub all_accepted : List Answer → Bool
all_accepted [] = true
all_accepted (a ∷ more) = a.accepted && all_accepted more

-- memory was refused for none of these lines
abbrev pub all_ample : List Answer → Bool
all_ample [] = true
all_ample (a ∷ more) = a.ample && all_ample more

module _ {S : Type 0} (answers : S → ℕ → List ℕ → Answer → S → Type 0) where
  -- The line with this number is answered as its command says, or refused since
  -- there was no room for it, whatever it says.
  abbrev pub Takes : S → ℕ → List ℕ → Answer → S → Type 0
  Takes old number line a new = answers old number line a new ⊎ ((a ≡ no_room number) × (new ≡ old))

  -- The lines, the first of them with this number, are answered in turn. A strict run ends at the first that is not
  -- accepted, whatever lines follow it.
  unfoldable pub Run : Bool → S → ℕ → List (List ℕ) → List Answer → S → Type 0
  Run strict old number [] [] new = new ≡ old
  Run strict old number [] (a ∷ more) new = ⊥
  Run strict old number (line ∷ lines) [] new = ⊥
  Run strict old number (line ∷ lines) (a ∷ more) new =
      (mid : S) × Takes old number line a mid × MatchBool (strict && not a.accepted) ((more ≡ [])
      × (new ≡ mid)) (Run strict mid (number + 1) lines more new)

-- For lines that are sure, a function of the state, the line's number and the line gives each answer for which memory
-- sufficed, and what it leads to.
abbrev pub IsDetermined : {S : Type 0} → (List ℕ → Bool) → (S → ℕ → List ℕ → Answer → S → Type 0)
    → (S → ℕ → List ℕ → Answer × S) → Type 0
IsDetermined {S} sure answers play =
    (old new : S) (number : ℕ) (line : List ℕ) (a : Answer) → sure line ≡ true → answers old number line a new
    → a.ample ≡ true → (a, new) ≡ play old number line

-- an answer, and then those of the lines that follow, unless the run ends with it
abbrev pub after_answer : {S : Type 0} → Bool → Answer × S → List Answer × S → List Answer × S
after_answer strict first rest =
    if strict && not first.0.accepted then (first.0 ∷ [], first.1) else (first.0 ∷ rest.0, rest.1)

-- What that function answers to these lines, the first of them with this number, and the state in which it ends.
abbrev pub played : {S : Type 0} → (S → ℕ → List ℕ → Answer × S) → Bool → S → ℕ → List (List ℕ) → List Answer × S
played play strict old number [] = ([], old)
played play strict old number (line ∷ lines) =
    after_answer strict (play old number line) (played play strict (play old number line).1 (number + 1) lines)
