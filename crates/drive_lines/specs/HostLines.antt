-- What a line of a host means.
use Rattle.std.specs.Prelude.{◌≡◌, ℕ, Bool, true, false, ◌==◌, List, [], ◌∷◌, codes, Option, Some, None, if◌then◌else◌}
use Rattle.std.specs.List.{slice_split}
use Rattle.std.specs.Option.{option_map}
use Rattle.std.specs.Str.{bytes_eq}
use Rattle.pin_driver.specs.StoredReading.{field_number, field_rank}
use Rattle.pin_driver.specs.declared.answer.FoundPin.{FoundPin}
use Rattle.pin_driver.specs.declared.answer.HostAnswer.{HostAnswer}
use Rattle.pin_driver.specs.declared.answer.HostAnswer.TheVariants as answers

-- the fields of a line, which blanks separate
abbrev pub line_fields : List ℕ → List (List ℕ)
line_fields line = slice_split (λ c. c == 32) line

-- the answer that a line of one word gives
abbrev pub word_answer : List ℕ → Option HostAnswer
word_answer line =
    if bytes_eq line (codes "waited") then Some answers.Waited
    else if bytes_eq line (codes "stored") then Some answers.Stored
    else if bytes_eq line (codes "done") then Some answers.Done
    else if bytes_eq line (codes "in-place") then Some (answers.InPlace true)
    else if bytes_eq line (codes "moving") then Some (answers.InPlace false)
    else if bytes_eq line (codes "gone") then Some answers.Gone
    else if bytes_eq line (codes "refused") then Some answers.Refused
    else if bytes_eq line (codes "no-answer") then Some answers.NoAnswer
    else None

-- the number of a field, which has a digit
abbrev pub answered_number : List ℕ → Option ℕ
answered_number [] = None
answered_number (c ∷ cs) = field_number (c ∷ cs)

-- the rank of a field, which has a digit
abbrev pub answered_rank : List ℕ → Option ℕ
answered_rank [] = None
answered_rank (c ∷ cs) = field_rank (c ∷ cs)

-- the pin of a field, where -1 says that there is none
abbrev pub answered_pin : List ℕ → Option (Option ℕ)
answered_pin field = if bytes_eq field (codes "-1") then Some None else option_map (λ n. Some n) (answered_rank field)

-- a directory with this inode number and this pin, if both have their form
abbrev pub found_with : Option ℕ → Option (Option ℕ) → Option FoundPin
found_with None pin = None
found_with (Some inode) None = None
found_with (Some inode) (Some pin) = Some (record { inode = inode; pin = pin })

-- the directory of a line `found INODE PIN`
abbrev pub found_directory : List (List ℕ) → Option FoundPin
found_directory [] = None
found_directory (word ∷ []) = None
found_directory (word ∷ inode ∷ []) = None
found_directory (word ∷ inode ∷ pin ∷ []) =
    if bytes_eq word (codes "found") then found_with (answered_number inode) (answered_pin pin) else None
found_directory (word ∷ inode ∷ pin ∷ more ∷ rest) = None

-- the line is `cluster RANKS`, with any number of warnings after it
abbrev pub is_cluster_line : List (List ℕ) → Bool
is_cluster_line [] = false
is_cluster_line (word ∷ []) = false
is_cluster_line (word ∷ ranks ∷ warnings) = bytes_eq word (codes "cluster")

-- a line with none of the forms of an answer
pub record HasNoForm (line : List ℕ) : Type 0 where
  pub word : word_answer line ≡ None
  pub found : found_directory (line_fields line) ≡ None
  pub cluster : is_cluster_line (line_fields line) ≡ false

-- a line, without its newline, means this answer
abbrev pub Means : List ℕ → HostAnswer → Type 0
Means line (answers.Cluster c) = line_fields line ≡ codes "cluster" ∷ c.ranks ∷ c.warnings.items
Means line (answers.Found found) = found_directory (line_fields line) ≡ Some found
Means line answers.Nonsense = HasNoForm line
Means line a = word_answer line ≡ Some a

-- the fields of a line that is not one word mean this answer
abbrev pub MeansFields : List (List ℕ) → HostAnswer → Type 0
MeansFields fields (answers.Cluster c) = fields ≡ codes "cluster" ∷ c.ranks ∷ c.warnings.items
MeansFields fields (answers.Found found) = found_directory fields ≡ Some found
MeansFields fields answers.Nonsense = (found_directory fields ≡ None) × (is_cluster_line fields ≡ false)
MeansFields fields a = ⊥
