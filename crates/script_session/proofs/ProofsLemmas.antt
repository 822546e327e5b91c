-- The certificates of a session's board, or of none.
use Rattle.std.proofs.Common.{◌≡◌, ℕ, All, Bool, List, [], Option, None, Some, Ok, Err, IsErrOf}
use Rattle.std.specs.Prelude.{IfSome}
use Rattle.std.proofs.KnownBytes.{Appends-nil}
use Rattle.std.proofs.lemmas.List.Elements.{All-nil}
use Rattle.board_certificates.specs.Certificates.{certificates_of}
use Rattle.mds_board.specs.History.{World}
use Rattle.mds_board.specs.Promises.{IsKept}
use Rattle.plan_text.specs.Writable.{IsWritable}
use Rattle.plan_text.specs.declared.certificate.Certificate.{Certificate}
use Rattle.script_board.specs.Board.{BoardData}
use Rattle.script_engine.specs.Devices.{Reading}
use Rattle.script_engine.specs.declared.driver.RunError.{RunError}
use Rattle.script_engine.specs.declared.driver.RunError.TheVariants.{Memory, Read, Write}
use Rattle.script_session.specs.Ending.{IsRunOf}
use Rattle.script_session.specs.Proofs.{certificates_at}
use Rattle.script_session.specs.Script.{IsKeptAt}
use Rattle.script_session.specs.Session.{beginning}
use Rattle.script_session.specs.declared.script.Ended.{Ended}

pub if_known : {A : Type 0} (before : Option (List ℕ)) → A → IfSome before (λ bytes. A)
if_known None a = tt
if_known (Some bytes) a = a

-- no certificate is one that can be read again
pub readable : (before : Option (List ℕ)) → IfSome before (λ bytes. All IsWritable [])
readable before = if_known before (All-nil IsWritable)

-- a run that found no memory to begin with reads and writes nothing, and has no certificates
pub nothing_run : {R : Type 0} (remaining : R → Option (List ℕ)) (limit : ℕ) (strict : Bool) (input : Reading R)
    (before proofs : Option (List ℕ)) (ended : Ended)
    → ended ≡ record { answered = Err Memory; proved = Ok tt } → IsRunOf remaining limit strict input input before before proofs proofs ended
nothing_run remaining limit strict input before proofs ended is = rw is
    (record {
      done = tt;
      given = tt;
      stops = tt;
      read = λ same. absurd (not_read same);
      cause = λ same. absurd (not_read same);
      write = λ same. absurd (not_write same);
      proofs = (beginning 1, tt, ((Appends-nil proofs, readable proofs), tt), tt);
    })
  where
    not_read : IsErrOf {T = Bool} {E = RunError} (Err Memory) Read → ⊥
    not_read same = cc

    not_write : IsErrOf {T = Bool} {E = RunError} (Err Memory) Write → ⊥
    not_write same = cc

-- what holds of the certificates of every board
pub at_board : (P : Certificate → Type 0) → ((w : World) → IsKept w → All P (certificates_of w)) → (board : Option BoardData)
    → IsKeptAt board → All P (certificates_at board)
at_board P all None kept = All-nil P
at_board P all (Some b) kept = all b.world kept
