-- What the program has done when it ends with an exit status.
use Rattle.std.specs.Prelude.{◌≡◌, ◌≢◌, ◌^◌, ℕ, Bool, true, false, not, ◌&&◌, List, [], ◌∷◌, ◌++◌, ◌⊎◌, All, IfSome}
use Rattle.std.specs.Prelude.{Option, Some, codes, is_some}
use Rattle.clap.specs.Words.{IsAmong, Text, fault_of}
use Rattle.clap.specs.declared.error.kind.ErrorKind.TheVariants.{DisplayHelp, DisplayVersion}
use Rattle.command_line.specs.CommandLine.{is_strict, limit_of, mdbal, proofs_of}
use Rattle.mds_types.specs.Certificate.{IsBest, IsCertified}
use Rattle.plan_text.specs.Text.{texts}
use Rattle.plan_text.specs.Writable.{IsWritable}
use Rattle.script_board.specs.Board.{BoardData}
use Rattle.script_engine.specs.Devices.{Reading}
use Rattle.script_engine.specs.Known.{AppendsFront}
use Rattle.std.specs.Io.KnownBytes.{Appends}
use Rattle.script_engine.specs.Runs.{Gives, IsEnded}
use Rattle.script_engine.specs.declared.driver.RunError.{RunError}
use Rattle.script_engine.specs.declared.driver.RunError.TheVariants.{Memory, Read, Write}
use Rattle.script_session.specs.Proofs.{LeadsTo, certificates_at}
use Rattle.script_session.specs.Script.{AcceptedUpTo, IsKeptAt, SomeAnswered, WholeAnswered}
use Rattle.script_session.specs.Session.{SessionData}

-- the status where a run ended before its script did
abbrev pub run_status : RunError → ℕ
run_status Memory = 2
run_status Read = 3
run_status Write = 3

-- what is said of it on standard error
abbrev pub message : RunError → List ℕ
message Memory = codes "mdbal: 0 Memory" ++ 10 ∷ []
message Read = codes "mdbal: read failed" ++ 10 ∷ []
message Write = codes "mdbal: write failed" ++ 10 ∷ []

-- standard error says that there was no memory, as far as it could be written
abbrev pub IsMemorySaid : {E : Type 0} → (E → Option (List ℕ)) → E → E → Type 0
IsMemorySaid said before after = AppendsFront (said before) (said after) (message Memory)

-- all certificates of the plans that a board has adopted were written, and can be read again where it is known what
-- was there before; the plan of each is best for its problem, and its proofs hold
abbrev pub HasAllIn : Option (List ℕ) → Option (List ℕ) → Option BoardData → Type 0
HasAllIn before after board =
    Appends before after (texts (certificates_at board)) × IfSome before (λ _. All IsWritable (certificates_at board))
    × All (λ c. IsBest c.problem c.plan) (certificates_at board)
    × All (λ c. IsCertified c.problem c.plan) (certificates_at board)

-- a beginning of them was written
abbrev pub HasFrontIn : Option (List ℕ) → Option (List ℕ) → Option BoardData → Type 0
HasFrontIn before after board = AppendsFront before after (texts (certificates_at board))

-- this holds of the file that is named for certificates, which was empty, if one is named and its bytes are known
abbrev pub InFile : (Option (List ℕ) → Option (List ℕ) → Option BoardData → Type 0) → (List ℕ → Option (List ℕ))
    → Option Text → Option BoardData → Type 0
InFile Has holds file board = IfSome file (λ name. IfSome (holds name) (λ bytes. Has (Some []) (Some bytes) board))

module _ {R : Type 0} (remaining : R → Option (List ℕ)) (old new : Reading R) (before after : Option (List ℕ)) where
  -- nothing was read or written
  abbrev pub IsUntouched : Type 0
  IsUntouched = (new ≡ old) × (after ≡ before)

  module _ (limit : ℕ) (strict : Bool) where
    -- The script came to its end, or to its first faulty line where the run is strict, which then reads nothing after
    -- the read in which that line ends. All answers were written. What holds of every board holds of the one that is
    -- left, and so does this.
    abbrev pub IsCarriedOut : (Option BoardData → Type 0) → Bool → Type 0
    IsCarriedOut Has accepted =
        (last : SessionData) × LeadsTo remaining limit strict old new before after last accepted × IsKeptAt last.board
        × ((strict && not accepted) ≡ false → IsEnded remaining new)
        × ((strict && not accepted) ≡ true → (front : List ℕ) × (rest : List ℕ)
        × Gives remaining old new (front ++ rest) × AcceptedUpTo limit strict front rest)
        × Has last.board

    -- a read failed, or there were 2^40 reads, and all whole lines were answered
    abbrev pub IsUnread : Type 0
    IsUnread = ((new.failed ≡ true) ⊎ (new.reads ≡ 2 ^ 40))
        × (bytes : List ℕ) × Gives remaining old new bytes × WholeAnswered limit strict bytes before after

    -- a beginning of what was due was written, as where a write failed
    abbrev pub IsUnwritten : Type 0
    IsUnwritten = (bytes : List ℕ) × Gives remaining old new bytes × SomeAnswered limit strict bytes before after

    -- What a run has done, by the status. 0 and 1: the script was carried out, each line was accepted or one was not,
    -- and all certificates were written. 2: there was no memory to begin with. 3: a read failed; or a beginning of what
    -- was due was written; or the script was carried out, a file is named for certificates, and a beginning of them was
    -- written; or nothing was read, as the file could not be made or there are no random bytes.
    abbrev pub IsRun : (Whole Front : Option BoardData → Type 0) (is_named : Bool) → ℕ → Type 0
    IsRun Whole Front is_named status =
        ((status ≡ 0) × IsCarriedOut Whole true) ⊎ ((status ≡ 1) × IsCarriedOut Whole false)
        ⊎ ((status ≡ 2) × IsUntouched)
        ⊎ ((status ≡ 3) × (IsUnread ⊎ IsUnwritten ⊎ IsUntouched
        ⊎ ((is_named ≡ true) × (accepted : Bool) × IsCarriedOut Front accepted)))

    -- the same, where this file is named for certificates, or none, and files hold this
    abbrev pub IsFiledRun : (List ℕ → Option (List ℕ)) → Option Text → ℕ → Type 0
    IsFiledRun holds file = IsRun (InFile HasAllIn holds file) (InFile HasFrontIn holds file) (is_some file)

module _ {R E : Type 0} (remaining : R → Option (List ℕ)) (said : E → Option (List ℕ)) (old new : Reading R)
    (before after : Option (List ℕ)) (errors_before errors_after : E) where
  -- The words of the command line are accepted, and the script is carried out with the limit, the flag and the file
  -- that they name; or nothing is read, as they ask for the help or the version, are refused, or there is no memory to
  -- read them. The status is 3 where the help or the version could not be written.
  abbrev pub IsExit : (List ℕ → Option (List ℕ)) → List Text → ℕ → Type 0
  IsExit holds words status =
      ((fault_of mdbal words ≡ [])
      × IsFiledRun remaining old new before after (limit_of words) (is_strict words) holds (proofs_of words) status)
      ⊎ (((status ≡ 0) ⊎ (status ≡ 3))
      × (IsAmong DisplayHelp (fault_of mdbal words) ⊎ IsAmong DisplayVersion (fault_of mdbal words))
      × (new ≡ old))
      ⊎ ((status ≡ 2) × IsUntouched remaining old new before after × ((fault_of mdbal words ≢ [])
      ⊎ IsMemorySaid said errors_before errors_after))
