-- What `mdbal_check` answers for the certificates that were written.
use Rattle.std.proofs.Common.{◌≡◌, ◌≢◌, ◌⊎◌, ◌≤◌, ℕ, Bool, true, false, zero, suc, All, List, [], ◌∷◌, IfSome, Option, Some, inl, inr, refl, subst, arith}
use Rattle.clap.specs.Words.{IsAmong, Text, fault_of}
use Rattle.clap.specs.declared.error.kind.ErrorKind.TheVariants.{DisplayHelp, DisplayVersion}
use Rattle.command_line.specs.CommandLine.{is_strict, limit_of, mdbal, proofs_of}
use Rattle.script_board.specs.Board.{BoardData}
use Rattle.script_engine.specs.Devices.{Reading}
use Rattle.script_session.specs.Proofs.{certificates_at}
use Rattle.mds_types.specs.Certificate.{IsCertified}
use Rattle.plan_text.specs.Text.{texts}
use Rattle.plan_text.specs.Writable.{IsWritable}
use Rattle.plan_text.specs.declared.certificate.Certificate.{Certificate}
use Rattle.certificate_judge.specs.Judged.{AllHold, AreCertificates, GrowsByFront, IsJudged, memory_line}
use Rattle.script_program.specs.Exit.{HasAllIn, InFile, IsCarriedOut, IsExit, IsFiledRun}

all_hold : (cs : List Certificate) (file : List ℕ) → All (λ c. IsCertified c.problem c.plan) cs → All IsWritable cs → file ≡ texts cs → file ≢ [] → AllHold file
all_hold [] file certified fits is some = absurd (some is)
all_hold (c ∷ cs) file certified fits is some = (c ∷ cs, record { writable = fits; same = is; some = omega arith }, certified)

are_certificates : (file : List ℕ) → AllHold file → AreCertificates file
are_certificates file all = (all.0, all.1)

module _ {W E : Type 0} (printed : W → Option (List ℕ)) (said : E → Option (List ℕ)) (file : List ℕ) (old new : W) (before after : E) where
  abbrev IsFine : ℕ → Type 0
  IsFine status = (status ≡ 0) ⊎ (status ≡ 3) ⊎ ((status ≡ 2) × GrowsByFront (said before) (said after) memory_line)

  fine : (status : ℕ) → AllHold file → IsJudged printed said file old new before after status → IsFine status
  fine zero all judged = inl refl
  fine (suc zero) all judged = absurd ((judged.no refl).1 all)
  fine (suc (suc zero)) all judged = elim (judged.reason refl) [
    | inl none ↦ absurd (none (are_certificates file all))
    | inr memory ↦ inr (inr (refl, memory))
  ]
  fine (suc (suc (suc zero))) all judged = inr (inl refl)
  fine (suc (suc (suc (suc n)))) all judged = absurd (let few = judged.few in omega (arith, few))

-- what a run that ended with 0 or 1 leaves in the file that is named, if it is anything, isn't refused
module _ {R E : Type 0} (remaining : R → Option (List ℕ)) (said : E → Option (List ℕ)) (read_before read_after : Reading R)
    (answers_before answers_after : Option (List ℕ)) (said_before said_after : E) where
  has_all : (limit : ℕ) (strict accepted : Bool) (holds : List ℕ → Option (List ℕ)) (words : List Text) (name file : List ℕ)
      → proofs_of words ≡ Some name → holds name ≡ Some file
      → IsCarriedOut remaining read_before read_after answers_before answers_after limit strict (InFile HasAllIn holds (proofs_of words)) accepted
      → (board : Option BoardData) × HasAllIn (Some []) (Some file) board
  has_all limit strict accepted holds words name file is_name is_file ran =
      let last = ran.0 in (
        last.board,
        subst (λ (o : Option (List ℕ)). IfSome o (λ bytes. HasAllIn (Some []) (Some bytes) last.board)) is_file
            (subst (λ (f : Option Text). InFile HasAllIn holds f last.board) is_name ran.5),
      )

  of_run : (limit : ℕ) (strict : Bool) (holds : List ℕ → Option (List ℕ)) (words : List Text) (name file : List ℕ) (status : ℕ)
      → proofs_of words ≡ Some name → holds name ≡ Some file → status ≤ 1
      → IsFiledRun remaining read_before read_after answers_before answers_after limit strict holds (proofs_of words) status
      → (board : Option BoardData) × HasAllIn (Some []) (Some file) board
  of_run limit strict holds words name file status is_name is_file few (inl (is, ran)) = has_all limit strict true holds words name file is_name is_file ran
  of_run limit strict holds words name file status is_name is_file few (inr (inl (is, ran))) =
      has_all limit strict false holds words name file is_name is_file ran
  of_run limit strict holds words name file status is_name is_file few (inr (inr (inl (is, same)))) = absurd (omega (arith, few, is))
  of_run limit strict holds words name file status is_name is_file few (inr (inr (inr (is, rest)))) = absurd (omega (arith, few, is))

  pub of_exit : (holds : List ℕ → Option (List ℕ)) (words : List Text) (name file : List ℕ) (status : ℕ)
      → fault_of mdbal words ≡ [] → proofs_of words ≡ Some name → holds name ≡ Some file → status ≤ 1
      → IsExit remaining said read_before read_after answers_before answers_after said_before said_after holds words status
      → (board : Option BoardData) × HasAllIn (Some []) (Some file) board
  of_exit holds words name file status none is_name is_file few (inl (accepted, ran)) =
      of_run (limit_of words) (is_strict words) holds words name file status is_name is_file few ran
  of_exit holds words name file status none is_name is_file few (inr (inl (is, inl asked, same))) = absurd (subst (λ ks. IsAmong DisplayHelp ks) none asked)
  of_exit holds words name file status none is_name is_file few (inr (inl (is, inr asked, same))) = absurd (subst (λ ks. IsAmong DisplayVersion ks) none asked)
  of_exit holds words name file status none is_name is_file few (inr (inr (is, same, why))) = absurd (omega (arith, few, is))

pub judged_yes : {W E : Type 0} (printed : W → Option (List ℕ)) (said : E → Option (List ℕ)) (file : List ℕ) (old new : W)
    (before after : E) (status : ℕ) (board : Option BoardData)
    → HasAllIn (Some []) (Some file) board → file ≢ [] → IsJudged printed said file old new before after status
    → (status ≡ 0) ⊎ (status ≡ 3) ⊎ ((status ≡ 2) × GrowsByFront (said before) (said after) memory_line)
judged_yes printed said file old new before after status board proved some judged =
    fine printed said file old new before after status (all_hold (certificates_at board) file proved.3 proved.1 proved.0 some) judged
