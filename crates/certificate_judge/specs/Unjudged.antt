-- The bytes of a file that are not judged yet.
use Rattle.std.specs.Prelude.{◌≡◌, ◌≢◌, ⊤, ℕ, List, [], ◌++◌, Option, IfSome, drop}
use Rattle.std.specs.Io.KnownBytes.{prepend_known}
use Rattle.plan_text.specs.Text.{text}
use Rattle.plan_text.specs.Writable.{IsWritable}
use Rattle.plan_text.specs.declared.certificate.Certificate.{Certificate}
use Rattle.plan_text.specs.declared.read_error.ReadError.{ReadError}
use Rattle.plan_text.specs.declared.read_error.ReadError.TheVariants as read_error
use Rattle.certificate_judge.specs.declared.judge_error.JudgeError.{JudgeError}
use Rattle.certificate_judge.specs.declared.judge_error.JudgeError.TheVariants.{Read, Text}
use Rattle.certificate_judge.specs.declared.unjudged.Unjudged.{Unjudged}

-- those that were read
abbrev pub unread : Unjudged → List ℕ
unread u = drop u.judged u.bytes.items

-- those that were read, and those that the reader has left, where these are known
abbrev pub left : Unjudged → Option (List ℕ) → Option (List ℕ)
left u known = prepend_known (unread u) known

-- bytes begin with the text of no certificate
abbrev pub BeginsNone : List ℕ → Type 0
BeginsNone bytes = (c : Certificate) (more : List ℕ) → IsWritable c → bytes ≢ text c.problem c.names c.plan ++ more

-- an error says that bytes begin with no certificate, unless memory was refused
abbrev pub IsFaultOfNext : List ℕ → ReadError → Type 0
IsFaultOfNext bytes read_error.Memory = ⊤
IsFaultOfNext bytes (read_error.Line line expected) = BeginsNone bytes

-- an error says that bytes are left that begin with no certificate, unless memory was refused or a read failed
abbrev pub IsFault : Option (List ℕ) → JudgeError → Type 0
IsFault known (Read error) = ⊤
IsFault known (Text read_error.Memory) = ⊤
IsFault known (Text (read_error.Line line expected)) = IfSome known (λ bytes. (bytes ≢ []) × BeginsNone bytes)
