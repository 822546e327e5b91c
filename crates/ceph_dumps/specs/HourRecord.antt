-- The record of an hour, as it is written and read.
use Rattle.std.specs.Prelude.{◌≡◌, ◌≢◌, ◌==◌, ◌<◌, ◌≤◌, ◌-◌, ◌^◌, ◌++◌, ◌⊎◌, ⊤, ℕ, zero, suc, List, [], ◌∷◌, All}
use Rattle.std.specs.Prelude.{codes, decimal, drop, length, map, slice_index, slice_index_or, string_bytes, take}
use Rattle.std.specs.Prelude.{if◌then◌else◌}
use Rattle.std.specs.List.{flat_map, slice_split}
use Rattle.std.specs.Str.Parse.{IsNumeral, digits_value}
use Rattle.ceph_dumps.specs.declared.dump_error.DumpError.{DumpError}
use Rattle.ceph_dumps.specs.declared.dump_error.DumpError.TheVariants.{Hour, Memory}
use Rattle.ceph_dumps.specs.declared.hour_record.HourRecord.{HourRecord}
use Rattle.ceph_dumps.specs.declared.hour_record.PastHeat.{PastHeat}
use Rattle.ceph_dumps.specs.Complete.{AreTwoWords, IsWord, line_of}
use Rattle.ceph_dumps.specs.OwnList.{behind_digits, digit_count, list_lines, name_byte, named_bytes}

-- a heat and a path
abbrev pub HeatPath : Type 0
HeatPath = ℕ × List ℕ

abbrev pub heat_path : PastHeat → HeatPath
heat_path past = (past.heat, past.path.items)

-- what a record says: the file system, by rank the heat of what is spread, and the heat of directories by path
pub record HourData : Type 0 where
  pub name : List ℕ
  pub fsid : List ℕ
  pub spread : List ℕ
  pub heats : List HeatPath

abbrev pub hour_data : HourRecord → HourData
hour_data hour = record {
  name = string_bytes hour.file_system.name;
  fsid = string_bytes hour.file_system.fsid;
  spread = hour.spread.items;
  heats = map heat_path hour.heats.items;
}

-- how it is written: numbers with a blank between each two
abbrev pub number_behind : ℕ → List ℕ
number_behind number = codes " " ++ decimal number

abbrev pub numbers_text : List ℕ → List ℕ
numbers_text [] = []
numbers_text (heat ∷ heats) = decimal heat ++ flat_map number_behind heats

-- the number at a place, as it comes after those before it
abbrev pub next_number : ℕ → ℕ → List ℕ
next_number at number = if at == 0 then decimal number else number_behind number

-- the line of a directory
abbrev pub heat_line : HeatPath → List ℕ
heat_line past = decimal past.0 ++ codes " " ++ flat_map name_byte past.1 ++ codes "\n"

abbrev pub version_line : List ℕ
version_line = codes "mdbal-hour 1"

abbrev pub hour_text : HourData → List ℕ
hour_text hour =
    version_line ++ codes "\n" ++ line_of hour.name hour.fsid ++ numbers_text hour.spread ++ codes "\n"
    ++ flat_map heat_line hour.heats

-- 1 to 20 decimal digits, which write a number that 64 bits can hold
pub record IsHeatText (digits : List ℕ) : Type 0 where
  pub numeral : IsNumeral 10 digits
  pub short : length digits ≤ 20
  pub fits : digits_value 10 digits < 2 ^ 64

-- the line of what is spread: 64 numbers with a blank between each two
abbrev pub blank_words : List ℕ → List (List ℕ)
blank_words line = slice_split (λ c. c == 32) line

pub record IsSpreadLine (line : List ℕ) : Type 0 where
  pub ranks : length (blank_words line) ≡ 64
  pub numbers : All IsHeatText (blank_words line)

abbrev pub spread_of : List ℕ → List ℕ
spread_of line = map (digits_value 10) (blank_words line)

-- the heat and the path of a line, which has digits and a blank before the path, unless it is empty
abbrev pub line_heat : List ℕ → HeatPath
line_heat line =
    (digits_value 10 (take (digit_count line) line), named_bytes 0 (drop 1 (behind_digits line)))

abbrev pub line_heats : List ℕ → List HeatPath
line_heats line = if length line == 0 then [] else line_heat line ∷ []

abbrev pub AreHeatParts : List ℕ → Type 0
AreHeatParts line = IsHeatText (take (digit_count line) line) × (slice_index (behind_digits line) 0 ≡ 32)

abbrev pub IsHeatLine : List ℕ → Type 0
IsHeatLine line = length line ≢ 0 → AreHeatParts line

-- what line i of a record has to be
abbrev pub IsHourLine : ℕ → List ℕ → Type 0
IsHourLine zero line = line ≡ version_line
IsHourLine (suc zero) line = (name : List ℕ) × (fsid : List ℕ) × AreTwoWords line name fsid
IsHourLine (suc (suc zero)) line = IsSpreadLine line
IsHourLine (suc (suc (suc i))) line = IsHeatLine line

-- line i; past the last one, an empty one
abbrev pub line_at : List (List ℕ) → ℕ → List ℕ
line_at lines i = slice_index_or lines i []

-- an hour is what the lines say: which file system it is of, what is spread, and the heat of each directory, in their
-- order
pub record AreLinesOf (lines : List (List ℕ)) (hour : HourRecord) : Type 0 where
  pub first : line_at lines 0 ≡ version_line
  pub second : AreTwoWords (line_at lines 1) (string_bytes hour.file_system.name)
      (string_bytes hour.file_system.fsid)
  pub third : IsSpreadLine (line_at lines 2)
  pub spread : hour.spread.items ≡ spread_of (line_at lines 2)
  pub others : All IsHeatLine (drop 3 lines)
  pub heats : map heat_path hour.heats.items ≡ flat_map line_heats (drop 3 lines)

-- each line has a newline after it
abbrev pub IsWhole : List ℕ → Type 0
IsWhole bytes = (front : List ℕ) × (bytes ≡ front ++ codes "\n")

-- the bytes of a record of this hour
abbrev pub IsHourOf : List ℕ → HourRecord → Type 0
IsHourOf bytes hour = IsWhole bytes × AreLinesOf (list_lines bytes) hour

-- the line of this number, counted from 1, isn't what it has to be, or is the last one and has no newline
abbrev pub IsBrokenHour : List ℕ → ℕ → Type 0
IsBrokenHour bytes number =
    (¬ IsHourLine (number - 1) (line_at (list_lines bytes) (number - 1)))
    ⊎ ((number ≡ length (list_lines bytes)) × (¬ IsWhole bytes))

-- why a record can't be read: for want of memory, or for a line
abbrev pub IsHourError : DumpError → Type 0
IsHourError Memory = ⊤
IsHourError (Hour number) = ⊤
IsHourError _ = ⊥

-- what can be written and read back: words, a heat of each rank, and numbers of 64 bits
pub record IsWritableHour (hour : HourData) : Type 0 where
  pub name : IsWord hour.name
  pub fsid : IsWord hour.fsid
  pub ranks : length hour.spread ≡ 64
  pub spread : All (λ heat. heat < 2 ^ 64) hour.spread
  pub heats : All (λ (past : HeatPath). past.0 < 2 ^ 64) hour.heats
