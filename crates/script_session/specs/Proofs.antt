-- The certificates of the plans that the board of a session has adopted.
use Rattle.std.specs.Prelude.{ℕ, All, Bool, List, [], IfSome, Option, Some, None, Result, OnErr, OnOk}
use Rattle.std.specs.Io.KnownBytes.{Appends}
use Rattle.board_certificates.specs.Certificates.{certificates_of}
use Rattle.board_certificates.specs.declared.unwritten.Unwritten.{Unwritten}
use Rattle.plan_text.specs.Text.{texts}
use Rattle.plan_text.specs.Writable.{IsWritable}
use Rattle.plan_text.specs.declared.certificate.Certificate.{Certificate}
use Rattle.script_board.specs.Board.{BoardData}
use Rattle.script_engine.specs.Devices.{Reading}
use Rattle.script_engine.specs.Known.{AppendsFront}
use Rattle.script_engine.specs.Lines.{lines_of}
use Rattle.script_engine.specs.Runs.{AnswersAll, Gives}
use Rattle.script_session.specs.Session.{SessionData, answers, beginning}

-- the certificates of the plans that the history of a board adopts
abbrev pub certificates_at : Option BoardData → List Certificate
certificates_at None = []
certificates_at (Some b) = certificates_of b.world

-- They were written, and can be read again; or a beginning of them was written.
abbrev pub IsProved :
    {A : Type 0} → Result A Unwritten → Option (List ℕ) → Option (List ℕ) → Option BoardData → Type 0
IsProved told before after board =
    OnOk told (Appends before after (texts (certificates_at board))
    × IfSome before (λ bytes. All IsWritable (certificates_at board)))
    × OnErr told (AppendsFront before after (texts (certificates_at board)))

-- The lines that came lead to this session, and all answers to them were written.
abbrev pub LeadsTo :
    {R : Type 0} → (R → Option (List ℕ)) → ℕ → Bool → Reading R → Reading R → Option (List ℕ) → Option (List ℕ)
    → SessionData → Bool → Type 0
LeadsTo remaining limit strict old new before after last accepted =
    (bytes : List ℕ) × Gives remaining old new bytes
    × AnswersAll answers strict (beginning limit) (lines_of bytes) last accepted before after
