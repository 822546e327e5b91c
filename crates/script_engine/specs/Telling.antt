-- What calls that answer lines return.
use denote.Ref.{Bor, MutBor}
use Rattle.std.specs.Prelude.{◌≡◌, ℕ, Bool, List, Option, Result, IfOk, OnErr}
use Rattle.std.specs.Io.KnownBytes.{Appends}
use Rattle.script_engine.specs.Answers.{Answer, Takes}
use Rattle.script_engine.specs.Known.{AppendsFront}

module _ {S W E : Type 0} (answers : S → ℕ → List ℕ → Answer → S → Type 0) (contents : W → Option (List ℕ)) where
  -- A call says whether the line was accepted, and its answer is written. Where a write failed, a beginning of it is.
  abbrev pub Tells : S → ℕ → List ℕ → W → Result Bool E → S → W → Type 0
  Tells old number line before told new after =
      IfOk told (λ accepted. (a : Answer) × Takes answers old number line a new
      × (accepted ≡ a.accepted) × Appends (contents before) (contents after) a.text)
      × OnErr told ((a : Answer) × Takes answers old number line a new
      × AppendsFront (contents before) (contents after) a.text)

  -- each call that may come does so
  abbrev pub AlwaysTells :
      (MutBor S → ℕ → Bor (List ℕ) → MutBor W → Result Bool E → MutBor S → MutBor W → Type 0) → Type 0
  AlwaysTells may_come =
      (old : MutBor S) (number : ℕ) (line : Bor (List ℕ)) (before : MutBor W)
      (told : Result Bool E) (new : MutBor S) (after : MutBor W) → may_come old number line before told new after
      → Tells old.now number line.now before.now told new.now after.now
