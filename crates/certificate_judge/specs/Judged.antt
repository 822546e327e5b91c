-- What the checker's answers say of the bytes that it was given.
use Rattle.std.specs.Prelude.{◌≡◌, ◌<◌, ◌≤◌, ◌↔◌, ⊤, ℕ, suc, List, [], ◌∷◌, ◌++◌, ◌⊎◌, All, IsTrue, codes}
use Rattle.std.specs.Prelude.{decimal, length, string_bytes}
use Rattle.std.specs.List.{sum_by}
use Rattle.std.specs.Io.KnownBytes.{Appends}
use Rattle.std.specs.Prelude.{Option}
use Rattle.mds_types.specs.Certificate.{IsBest, IsCertified, IsCutCertified}
use Rattle.mds_types.specs.Problem.{ProblemData}
use Rattle.mds_types.specs.RankSet.{rank_count}
use Rattle.mds_types.specs.declared.problem.ProblemRow.{ProblemRow}
use Rattle.plan_text.specs.Text.{texts}
use Rattle.plan_text.specs.Writable.{IsWritable}
use Rattle.plan_text.specs.declared.certificate.Certificate.{Certificate}
use Rattle.plan_text.specs.declared.read_error.ReadError.TheVariants.{Line, Memory}
use Rattle.certificate_judge.specs.declared.answers.Answers.{Answers}
use Rattle.certificate_judge.specs.declared.judge_error.JudgeError.{JudgeError}
use Rattle.certificate_judge.specs.declared.judge_error.JudgeError.TheVariants.{Read, Text}

-- the proofs of a certificate's plan hold
abbrev pub ProofsHold : Certificate → Type 0
ProofsHold c = IsCertified c.problem c.plan

-- the parts, the greatest heat and the cut proof of a certificate's plan hold
abbrev pub CutHolds : Certificate → Type 0
CutHolds c =
    IsCutCertified c.problem.rows (rank_count c.problem.ranks) c.plan.part (length c.plan.rank) c.plan.greatest
    c.plan.cut

-- the plan of a certificate is best
abbrev pub HasBest : Certificate → Type 0
HasBest c = IsBest c.problem c.plan

-- the bytes are these certificates, one or more, as they are written
pub record AreTexts (bytes : List ℕ) (cs : List Certificate) : Type 0 where
  pub writable : All IsWritable cs
  pub same : bytes ≡ texts cs
  pub some : 0 < length cs

-- the bytes are certificates
abbrev pub AreCertificates : List ℕ → Type 0
AreCertificates bytes = (cs : List Certificate) × AreTexts bytes cs

-- the bytes are certificates whose proofs all hold
abbrev pub AllHold : List ℕ → Type 0
AllHold bytes = (cs : List Certificate) × AreTexts bytes cs × All ProofsHold cs

-- the bytes are certificates whose plans are all best
abbrev pub AllBest : List ℕ → Type 0
AllBest bytes = (cs : List Certificate) × AreTexts bytes cs × All HasBest cs

-- an error says that the bytes are no certificates, unless memory was refused or a read failed
abbrev pub Refuses : List ℕ → JudgeError → Type 0
Refuses bytes (Read error) = ⊤
Refuses bytes (Text Memory) = ⊤
Refuses bytes (Text (Line line expected)) = ¬ (AreCertificates bytes)

-- the heat of all rows, in accesses
abbrev pub heat_of_rows : List ProblemRow → ℕ
heat_of_rows rows = sum_by (λ row. row.heat) rows

-- the inodes of all rows
abbrev pub inodes_of_rows : List ProblemRow → ℕ
inodes_of_rows rows = sum_by (λ row. row.inodes) rows

-- how many rows and ranks there are
abbrev pub size_text : ℕ → ℕ → List ℕ
size_text rows ranks = codes "yes rows " ++ (decimal rows ++ (codes " ranks " ++ decimal ranks))

-- the accesses and the inodes of all rows
abbrev pub totals_text : ℕ → ℕ → List ℕ
totals_text heat inodes = codes " heat " ++ (decimal heat ++ (codes " inodes " ++ decimal inodes))

-- the greatest heat of a part and the inodes that move, to the end of the line
abbrev pub sums_text : ℕ → ℕ → List ℕ
sums_text greatest moved = codes " greatest " ++ (decimal greatest ++ (codes " moved " ++ (decimal moved ++ 10 ∷ [])))

-- the line for a certificate whose proofs hold
abbrev pub yes_line : Certificate → List ℕ
yes_line c =
    size_text (length c.problem.rows) (rank_count c.problem.ranks)
    ++ totals_text (heat_of_rows c.problem.rows) (inodes_of_rows c.problem.rows)
    ++ sums_text c.plan.greatest c.plan.moved

-- the line for a certificate with this number, and what is wrong with it
abbrev pub no_line : ℕ → List ℕ → List ℕ
no_line number what = codes "no certificate " ++ (decimal number ++ (codes ": " ++ (what ++ 10 ∷ [])))

-- this line is the answer for the certificate with this number: what is in it, or the first proof that doesn't hold
abbrev pub IsVerdict : ℕ → Certificate → List ℕ → Type 0
IsVerdict number c line =
    (ProofsHold c × (line ≡ yes_line c))
    ⊎ (¬ (CutHolds c) × (line ≡ no_line number (codes "the cut proof does not hold")))
    ⊎ (CutHolds c × ¬ (ProofsHold c) × (line ≡ no_line number (codes "the dual proof does not hold")))

-- these lines are the answers for certificates, of which the first has this number: a line each, in order
abbrev pub AreVerdicts : ℕ → List Certificate → List ℕ → Type 0
AreVerdicts number [] lines = lines ≡ []
AreVerdicts number (c ∷ cs) lines =
    (first : List ℕ) × (rest : List ℕ) × IsVerdict number c first × AreVerdicts (suc number) cs rest
    × (lines ≡ first ++ rest)

-- these lines are the answers for the certificates that the bytes are
abbrev pub HaveVerdicts : List ℕ → List ℕ → Type 0
HaveVerdicts bytes lines = (cs : List Certificate) × AreTexts bytes cs × AreVerdicts 1 cs lines

-- the answers for these certificates
pub record AreAnswersFor (cs : List Certificate) (answers : Answers) : Type 0 where
  pub lines : AreVerdicts 1 cs (string_bytes answers.lines)
  pub exact : IsTrue answers.hold ↔ All ProofsHold cs
  pub best : IsTrue answers.hold → All HasBest cs

-- the bytes are certificates, and these are the answers for them
pub record HaveAnswers (bytes : List ℕ) (answers : Answers) : Type 0 where
  pub certificates : AreCertificates bytes
  pub lines : HaveVerdicts bytes (string_bytes answers.lines)
  pub exact : IsTrue answers.hold ↔ AllHold bytes
  pub best : IsTrue answers.hold → AllBest bytes

-- the status where nothing was judged
abbrev pub error_status : JudgeError → ℕ
error_status (Read error) = 3
error_status (Text error) = 2

-- what is printed where memory is refused
abbrev pub memory_line : List ℕ
memory_line = codes "mdbal_check: 0 Memory" ++ 10 ∷ []

-- known bytes grow by a front of a line: by all of it, unless a write fails
abbrev pub GrowsByFront : Option (List ℕ) → Option (List ℕ) → List ℕ → Type 0
GrowsByFront old new line = (front rest : List ℕ) × (front ++ rest ≡ line) × Appends old new front

-- what judging these bytes has done, by the status: all answers are printed, or a beginning of them; or nothing is
-- printed, and standard error says why
module _ {W E : Type 0} (printed : W → Option (List ℕ)) (said : E → Option (List ℕ)) (bytes : List ℕ) (old new : W)
    (before after : E) where
  pub record IsJudged (status : ℕ) : Type 0 where
    pub yes : status ≡ 0 → AllHold bytes × AllBest bytes
    pub no : status ≡ 1 → AreCertificates bytes × ¬ (AllHold bytes)
    pub answered : status ≤ 1 → (lines : List ℕ) × HaveVerdicts bytes lines × Appends (printed old) (printed new) lines
    pub unprinted : status ≡ 2 → new ≡ old
    pub reason : status ≡ 2 → ¬ (AreCertificates bytes) ⊎ GrowsByFront (said before) (said after) memory_line
    pub unwritten :
        status ≡ 3 → (lines : List ℕ) × HaveVerdicts bytes lines × GrowsByFront (printed old) (printed new) lines
    pub few : status ≤ 3
