-- What a listing says of directories, as `getfattr` prints their attributes.
use Rattle.std.specs.Prelude.{◌≡◌, ◌==◌, ◌||◌, ◌⊎◌, ◌+◌, ◌++◌, ⊤, ℕ, Bool, true, false, List, [], ◌∷◌, Option, Some}
use Rattle.std.specs.Prelude.{IsSome, None, codes, drop, length, not, slice_index, take, if◌then◌else◌}
use Rattle.std.specs.List.{fold, list_all}
use Rattle.std.specs.Str.{bytes_eq}
use Rattle.ceph_dumps.specs.declared.dump_error.DumpError.{DumpError}
use Rattle.ceph_dumps.specs.declared.dump_error.DumpError.TheVariants.{Component, Listing, Memory, Value}
use Rattle.ceph_dumps.specs.declared.listing.EphemeralPin.TheVariants.{Distributed, Random, Unknown}
use Rattle.ceph_dumps.specs.declared.listing.ListedDir.{ListedDir}
use Rattle.ceph_dumps.specs.declared.listing.ListedValue.{ListedValue}
use Rattle.ceph_dumps.specs.declared.listing.ListedValue.TheVariants.{Entries, Inode, Pin, Policy}
use Rattle.ceph_dumps.specs.OneForOne.{AreOneForOne}
use Rattle.ceph_dumps.specs.OwnList.{IsNumberText, is_digit_to, list_lines, named_bytes, number_told}
use Rattle.ceph_dumps.specs.Paths.{is_clean_path}

-- a line that names the directory of the values below it, and one between directories
abbrev pub is_name_line : List ℕ → Bool
is_name_line line = bytes_eq (take 8 line) (codes "# file: ")

abbrev pub is_gap : List ℕ → Bool
is_gap line = (length line == 0) || bytes_eq line (codes "--")

-- a name without the `./` that getfattr of attr 2.6 begins it with
abbrev pub bare_name : List ℕ → List ℕ
bare_name name = if bytes_eq (take 2 name) (codes "./") then drop 2 name else name

-- the path of a name: the root's is empty
abbrev pub listed_path : List ℕ → List ℕ
listed_path name = if bytes_eq name (codes ".") then [] else 47 ∷ named_bytes 0 (bare_name name)

-- an attribute's line, where the front has the name, an equals sign and a quote
abbrev pub attribute : List ℕ → List ℕ → List ℕ
attribute front text = (front ++ text) ++ codes "\""

-- a number that is zero, as `0` and `0.000000` are
abbrev pub is_zero : List ℕ → Bool
is_zero text = list_all (λ c. (c == 48) || (c == 46)) text

-- the text of this number
abbrev pub IsNumberTextOf : List ℕ → ℕ → Type 0
IsNumberTextOf text number = IsNumberText text × (number ≡ number_told text)

-- a number says this pin: none where it is negative
abbrev pub IsPinOf : List ℕ → ListedValue → Type 0
IsPinOf text (Pin None) = (digits : List ℕ) × (text ≡ codes "-" ++ digits)
IsPinOf text (Pin (Some rank)) = IsNumberTextOf text rank
IsPinOf text _ = ⊥

-- a policy's number, which may have a fraction, begins with a digit
abbrev pub IsShareText : List ℕ → Type 0
IsShareText text = is_digit_to 57 (slice_index text 0) ≡ true

abbrev pub IsZeroShare : List ℕ → Type 0
IsZeroShare text = IsShareText text × (is_zero text ≡ true)

abbrev pub IsSomeShare : List ℕ → Type 0
IsSomeShare text = IsShareText text × (is_zero text ≡ false)

-- an attribute's line has this value
abbrev pub IsValueOf : List ℕ → ListedValue → Type 0
IsValueOf line (Entries count) =
    (text : List ℕ) × (line ≡ attribute (codes "ceph.dir.entries=\"") text) × IsNumberTextOf text count
IsValueOf line (Pin pin) =
    (text : List ℕ) × (line ≡ attribute (codes "ceph.dir.pin=\"") text) × IsPinOf text (Pin pin)
IsValueOf line (Policy None) =
    (text : List ℕ) × ((line ≡ attribute (codes "ceph.dir.pin.distributed=\"") text)
    ⊎ (line ≡ attribute (codes "ceph.dir.pin.random=\"") text)) × IsZeroShare text
IsValueOf line (Policy (Some Distributed)) =
    (text : List ℕ) × (line ≡ attribute (codes "ceph.dir.pin.distributed=\"") text) × IsSomeShare text
IsValueOf line (Policy (Some Random)) =
    (text : List ℕ) × (line ≡ attribute (codes "ceph.dir.pin.random=\"") text) × IsSomeShare text
IsValueOf line (Policy (Some Unknown)) = ⊥
IsValueOf line (Inode number) = ⊥

-- a line that says something of a directory: neither a name nor a gap
abbrev pub is_said : List ℕ → Bool
is_said line = not (is_name_line line || is_gap line)

-- such a line, and the name above it, if one stands there of which nothing was said
abbrev pub NamedLine : Type 0
NamedLine = Option (List ℕ) × List ℕ

-- below a name: the line, if it says something, and the name above the next line
abbrev pub line_below : Option (List ℕ) → List ℕ → List NamedLine
line_below name line = if is_said line then (name, line) ∷ [] else []

abbrev pub name_after : Option (List ℕ) → List ℕ → Option (List ℕ)
name_after name line = if is_name_line line then Some (drop 8 line) else if is_gap line then name else None

-- the lines that say something, each with the name above it; the first of them may be below this name
abbrev pub value_lines : Option (List ℕ) → List (List ℕ) → List NamedLine
value_lines name [] = []
value_lines name (line ∷ lines) = line_below name line ++ value_lines (name_after name line) lines

-- an entry has the path that is named and the value of the line
pub record IsListedAs (at : NamedLine) (dir : ListedDir) : Type 0 where
  pub name : List ℕ
  pub named : at.0 ≡ Some name
  pub path : dir.path.items ≡ listed_path name
  pub clean : is_clean_path dir.path.items ≡ true
  pub value : IsValueOf at.1 dir.value

-- the entries are those of the lines of the listing, in their order
abbrev pub AreValuesListed : List ℕ → List ListedDir → Type 0
AreValuesListed bytes found = AreOneForOne IsListedAs (value_lines None (list_lines bytes)) found

-- the name is of no directory: its path has an empty, `.` or `..` component
abbrev pub IsOddName : Option (List ℕ) → Type 0
IsOddName None = ⊥
IsOddName (Some name) = is_clean_path (listed_path name) ≡ false

-- why nothing can be read of the line of this number below a name: for want of memory; for want of a name; as the line
-- has no value; or for the name
abbrev pub IsLineError : NamedLine → ℕ → DumpError → Type 0
IsLineError at number Memory = ⊤
IsLineError at number (Listing told) = (told ≡ number) × (at.0 ≡ None)
IsLineError at number (Value told) =
    (told ≡ number) × IsSome at.0 × ((value : ListedValue) → IsValueOf at.1 value → ⊥)
IsLineError at number (Component told) = (told ≡ number) × IsOddName at.0
IsLineError at number _ = ⊥

-- the first line of which nothing can be read, and why
pub record IsBrokenListing (bytes : List ℕ) (error : DumpError) : Type 0 where
  pub before : List (List ℕ)
  pub line : List ℕ
  pub behind : List (List ℕ)
  pub whole : list_lines bytes ≡ before ++ line ∷ behind
  pub found : List ListedDir
  pub fine : AreOneForOne IsListedAs (value_lines None before) found
  pub said : is_said line ≡ true
  pub why : IsLineError (fold name_after None before, line) (length before + 1) error

-- why a listing can't be read: for want of memory, or for a line
abbrev pub IsListingError : List ℕ → DumpError → Type 0
IsListingError bytes Memory = ⊤
IsListingError bytes error = IsBrokenListing bytes error
