-- What a run says on standard error.
use Rattle.std.specs.Prelude.{◌≡◌, ◌++◌, ⊤, ℕ, List, Option, Some, None, codes, decimal, string_bytes}
use Rattle.std.specs.Io.KnownBytes.{Appends}
use Rattle.ceph_pins.specs.declared.script_error.ScriptError.TheVariants as script
use Rattle.mdbal_ceph.specs.declared.no_result.FileFault.{FileFault}
use Rattle.mdbal_ceph.specs.declared.no_result.FileFault.TheVariants as fault
use Rattle.mdbal_ceph.specs.declared.no_result.NoPlan.{NoPlan}
use Rattle.mdbal_ceph.specs.declared.no_result.NoPlan.TheVariants as no
use Rattle.mdbal_ceph.specs.declared.no_result.PastFault.{PastFault}
use Rattle.mdbal_ceph.specs.declared.no_result.PastFault.TheVariants as past
use Rattle.mdbal_ceph.specs.declared.no_result.NoResult.{NoResult}
use Rattle.mdbal_ceph.specs.declared.no_result.NoResult.TheVariants as why

-- where it is known what was said, this text comes after it; or some text, where this isn't known
abbrev pub SaysText : Option (List ℕ) → Option (List ℕ) → Option (List ℕ) → Type 0
SaysText old new (Some text) = Appends old new text
SaysText old new None = (text : List ℕ) × Appends old new text

-- this text and then some other comes after it
abbrev pub IsSaidAfter : Option (List ℕ) → Option (List ℕ) → List ℕ → Type 0
IsSaidAfter old new head = (text : List ℕ) × Appends old new (head ++ text)

-- what is said of a file. Of a device, and of bytes that are refused, their own words are
abbrev pub IsReasonOf : FileFault → List ℕ → Type 0
IsReasonOf fault.Missing text = text ≡ codes "there is no such file"
IsReasonOf fault.NoFolder text = text ≡ codes "there is no such folder"
IsReasonOf fault.Unfinished text = text ≡ codes "there is no such file: ceph/collect did not finish"
IsReasonOf (fault.Device error) text = ⊤
IsReasonOf (fault.Refused error) text = ⊤
IsReasonOf (fault.Stored error) text = ⊤

-- of an earlier hour
abbrev pub past_text : List ℕ → PastFault → List ℕ
past_text name (past.OtherFileSystem system fsid) =
    name ++ (codes ": another file system: " ++ (string_bytes system ++ (codes " " ++ string_bytes fsid)))
past_text name past.NothingInCommon = name ++ codes ": no directory that had heat then is there now"

-- where there is no plan
abbrev pub IsPlanText : NoPlan → List ℕ → Type 0
IsPlanText no.BadMask text =
    text ≡ codes "the cluster's mask isn't -1, all or 1 to 16 hexadecimal digits: give --mask"
IsPlanText no.MaskWithoutZero text =
    text ≡ codes "the cluster's mask lacks rank 0, which keeps the root directory: give --mask"
IsPlanText no.ZeroNotActive text = text ≡ codes "rank 0 is not active: wait until it is"
IsPlanText (no.Refused error) text = ⊤
IsPlanText (no.Unwritable script.Memory) text = text ≡ codes "no memory"
IsPlanText (no.Unwritable script.Nul) text = text ≡ codes "a path or the mount has a NUL byte"
IsPlanText (no.Unwritable (script.NoDirectory row)) text =
    text ≡ codes "a change names directory " ++ decimal row ++ codes ", which does not exist"

-- what is said of an error
abbrev pub IsCauseOf : NoResult → List ℕ → Type 0
IsCauseOf why.Memory text = text ≡ codes "no memory"
IsCauseOf (why.File name one) text =
    (reason : List ℕ) × IsReasonOf one reason × (text ≡ string_bytes name ++ codes ": " ++ reason)
IsCauseOf (why.Gathered error) text = ⊤
IsCauseOf why.TooMany text = text ≡ codes "too many directories"
IsCauseOf (why.Past name one) text = text ≡ past_text (string_bytes name) one
IsCauseOf (why.NoPlan one) text = IsPlanText one text
IsCauseOf (why.Unwritten name error) text =
    (reason : List ℕ) × (text ≡ string_bytes name ++ codes ": " ++ reason)
IsCauseOf (why.Unprinted error) text = (reason : List ℕ) × (text ≡ codes "standard output: " ++ reason)

-- such a text is said
abbrev pub IsReasonSaid : Option (List ℕ) → Option (List ℕ) → FileFault → Type 0
IsReasonSaid old new one = (text : List ℕ) × IsReasonOf one text × Appends old new text

abbrev pub IsFileSaid : Option (List ℕ) → Option (List ℕ) → List ℕ → FileFault → Type 0
IsFileSaid old new name one = (text : List ℕ) × IsReasonOf one text × Appends old new (name ++ codes ": " ++ text)

abbrev pub IsPlanSaid : Option (List ℕ) → Option (List ℕ) → NoPlan → Type 0
IsPlanSaid old new one = (text : List ℕ) × IsPlanText one text × Appends old new text

abbrev pub IsCauseSaid : Option (List ℕ) → Option (List ℕ) → NoResult → Type 0
IsCauseSaid old new error = (text : List ℕ) × IsCauseOf error text × Appends old new text

-- the line of an error is said
abbrev pub IsSaid : Option (List ℕ) → Option (List ℕ) → NoResult → Type 0
IsSaid old new error =
    (text : List ℕ) × IsCauseOf error text × Appends old new (codes "mdbal_ceph: " ++ text ++ codes "\n")
