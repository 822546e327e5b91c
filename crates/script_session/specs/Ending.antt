-- How a run of a script ended, and what it has written by then.
use Rattle.std.specs.Prelude.{◌≡◌, ◌⊎◌, ◌^◌, ◌++◌, ◌&&◌, ℕ, Bool, false, true, not, List, Option, IfOk, IfSome, IsErrOf}
use Rattle.script_engine.specs.Devices.{Reading}
use Rattle.script_engine.specs.Lines.{lines_of}
use Rattle.script_engine.specs.Runs.{Gives, IsEnded}
use Rattle.script_engine.specs.declared.driver.RunError.TheVariants.{Read, Write}
use Rattle.script_session.specs.declared.script.Ended.{Ended}
use Rattle.script_session.specs.Proofs.{IsProved, LeadsTo}
use Rattle.script_session.specs.Script.{AcceptedUpTo, AllAnswered, IsKeptAt, SomeAnswered, WholeAnswered}
use Rattle.script_session.specs.Session.{SessionData}

-- How a run has ended, by what it has read, and what it has written as answers and as certificates, before and after:
-- `done`: all lines that a reader of known bytes has are answered. `given`: the same of the bytes that came, of any
-- reader. `stops`: a strict run reads nothing after the read in which its last line ends. `read`: where a read failed,
-- the lines that were whole are answered; `cause`: that is reported only where a read failed, or after 2^40 reads.
-- `write`: where a write failed, a beginning of what is due for the lines so far was written. `proofs`: however it
-- ended, the certificates of the plans that the board had adopted were written.
pub record IsRunOf {R : Type 0} (remaining : R → Option (List ℕ)) (limit : ℕ) (strict : Bool) (old new : Reading R)
    (before after proofs_before proofs_after : Option (List ℕ)) (ended : Ended) : Type 0 where
  pub done : IfOk ended.answered (λ accepted. IfSome (remaining old.reader) (λ all.
      AllAnswered limit strict (lines_of all) accepted before after))
  pub given : IfOk ended.answered (λ accepted. (bytes : List ℕ) × Gives remaining old new bytes
      × ((strict && not accepted) ≡ false → IsEnded remaining new)
      × AllAnswered limit strict (lines_of bytes) accepted before after)
  pub stops : IfOk ended.answered (λ accepted. (strict && not accepted) ≡ true → (front : List ℕ) × (last : List ℕ)
      × Gives remaining old new (front ++ last)
      × AcceptedUpTo limit strict front last)
  pub read : IsErrOf ended.answered Read → (bytes : List ℕ) × Gives remaining old new bytes
      × WholeAnswered limit strict bytes before after
  pub cause : IsErrOf ended.answered Read → (new.failed ≡ true) ⊎ (new.reads ≡ 2 ^ 40)
  pub write : IsErrOf ended.answered Write → (bytes : List ℕ) × Gives remaining old new bytes
      × SomeAnswered limit strict bytes before after
  pub proofs : (last : SessionData) × IsKeptAt last.board
      × IsProved ended.proved proofs_before proofs_after last.board
      × IfOk ended.answered (LeadsTo remaining limit strict old new before after last)
