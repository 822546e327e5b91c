-- What the checker has done when it ends with an exit status.
use Rattle.std.specs.Prelude.{◌≡◌, ◌≢◌, ℕ, List, [], ◌⊎◌, Option, Some, None, IfSome, is_some, true}
use Rattle.clap.specs.Words.{IsAmong, Text, fault_of}
use Rattle.clap.specs.declared.error.kind.ErrorKind.TheVariants.{DisplayHelp, DisplayVersion}
use Rattle.certificate_judge.specs.CommandLine.{file_of, mdbal_check}
use Rattle.certificate_judge.specs.Judged.{GrowsByFront, IsJudged, memory_line}

-- the bytes of the file of this name, or those that standard input has left, where they are known
abbrev pub given_bytes : {F R : Type 0} → (F → List ℕ → Option (List ℕ)) → (R → Option (List ℕ)) → F → R
    → Option Text → Option (List ℕ)
given_bytes holds remaining files reader None = remaining reader
given_bytes holds remaining files reader (Some name) = holds files name

module _ {F R W E : Type 0} (holds : F → List ℕ → Option (List ℕ)) (remaining : R → Option (List ℕ))
    (printed : W → Option (List ℕ)) (said : E → Option (List ℕ)) (files : F) (reader : R) (old new : W)
    (before after : E) where
  -- the bytes of what the file names are judged; or they could not be read, and nothing is printed
  abbrev pub IsRun : Option Text → ℕ → Type 0
  IsRun file status =
      IfSome (given_bytes holds remaining files reader file)
      (λ bytes. IsJudged printed said bytes old new before after status)
      ⊎ ((status ≡ 3) × (new ≡ old))

  -- the words of the command line are accepted, and the file that they name is judged, or standard input; or they ask
  -- for the help or the version, which is written or ends with 3; or they are refused, or there is no memory to read
  -- them, and nothing is printed
  abbrev pub IsExit : List Text → ℕ → Type 0
  IsExit words status =
      ((fault_of mdbal_check words ≡ []) × IsRun (file_of words) status)
      ⊎ (((status ≡ 0) ⊎ (status ≡ 3)) × (IsAmong DisplayHelp (fault_of mdbal_check words)
      ⊎ IsAmong DisplayVersion (fault_of mdbal_check words)))
      ⊎ ((status ≡ 2) × (new ≡ old) × ((fault_of mdbal_check words ≢ [])
      ⊎ GrowsByFront (said before) (said after) memory_line))
