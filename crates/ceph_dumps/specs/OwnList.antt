-- The list of this program's pins, as it is read: a line for each, with the rank, a blank and the path.
use Rattle.std.specs.Prelude.{◌≡◌, ◌≢◌, ◌==◌, ◌<◌, ◌&&◌, ◌+◌, ◌-◌, ◌*◌, ◌^◌, ⊤, ℕ, zero, suc, Bool, List, [], ◌∷◌, All}
use Rattle.std.specs.Prelude.{Option, Some, None, codes, drop, is_some, length, map, nat_le, slice_index, take}
use Rattle.std.specs.Prelude.{if◌then◌else◌}
use Rattle.std.specs.List.{flat_map, slice_split}
use Rattle.std.specs.Option.{unwrap_or}
use Rattle.std.specs.Str.Parse.{IsNumeral, digits_value, without_leading_plus}
use Rattle.ceph_dumps.specs.FirstBroken.{IsFirstBroken}
use Rattle.ceph_dumps.specs.declared.dump_error.DumpError.{DumpError}
use Rattle.ceph_dumps.specs.declared.dump_error.DumpError.TheVariants.{Memory, Own}
use Rattle.ceph_dumps.specs.declared.own_list.OwnPin.{OwnPin}

-- a digit up to this one
abbrev pub is_digit_to : ℕ → ℕ → Bool
is_digit_to most c = nat_le 48 c && nat_le c most

-- the byte that a backslash and three octal digits mean
abbrev pub has_octal : List ℕ → Bool
has_octal text =
    nat_le 4 (length text) && ((slice_index text 0 == 92) && (is_digit_to 51 (slice_index text 1)
    && (is_digit_to 55 (slice_index text 2) && is_digit_to 55 (slice_index text 3))))

abbrev pub octal_byte : List ℕ → Option ℕ
octal_byte text =
    if has_octal text
    then Some ((slice_index text 1 - 48) * 64 + (slice_index text 2 - 48) * 8 + (slice_index text 3 - 48)) else None

-- the bytes that a listed name means, after the first n, which are passed over
abbrev pub named_bytes : ℕ → List ℕ → List ℕ
named_bytes zero [] = []
named_bytes (suc n) [] = []
named_bytes (suc n) (c ∷ cs) = named_bytes n cs
named_bytes zero (c ∷ cs) =
    unwrap_or (octal_byte (c ∷ cs)) c ∷ named_bytes (if is_some (octal_byte (c ∷ cs)) then 3 else 0) cs

-- how a name is written: a backslash, a newline and a carriage return as `getfattr` writes them, and any other byte as
-- it is
abbrev pub name_byte : ℕ → List ℕ
name_byte c =
    if c == 92 then codes "\\134" else if c == 10 then codes "\\012" else if c == 13 then codes "\\015" else c ∷ []

-- how many digits a line begins with
abbrev pub digit_count : List ℕ → ℕ
digit_count [] = 0
digit_count (c ∷ cs) = if is_digit_to 57 c then 1 + digit_count cs else 0

abbrev pub behind_digits : List ℕ → List ℕ
behind_digits line = drop (digit_count line) line

-- the number that decimal digits write, where a plus may stand before them
abbrev pub number_told : List ℕ → ℕ
number_told text = digits_value 10 (without_leading_plus text)

-- such a number, which 64 bits can hold
pub record IsNumberText (text : List ℕ) : Type 0 where
  pub numeral : IsNumeral 10 (without_leading_plus text)
  pub fits : number_told text < 2 ^ 64

-- a rank and a path
abbrev pub RankPath : Type 0
RankPath = ℕ × List ℕ

abbrev pub rank_path : OwnPin → RankPath
rank_path pin = (pin.rank, pin.path.items)

-- those of a line, which has digits, a blank and a slash
abbrev pub line_rank_path : List ℕ → RankPath
line_rank_path line =
    (digits_value 10 (take (digit_count line) line), 47 ∷ named_bytes 0 (drop 2 (behind_digits line)))

-- those of a line, unless it is empty
abbrev pub line_pins : List ℕ → List RankPath
line_pins line = if length line == 0 then [] else line_rank_path line ∷ []

-- the digits of a number, a blank and a slash
pub record ArePinParts (line : List ℕ) : Type 0 where
  pub rank : IsNumberText (take (digit_count line) line)
  pub blank : slice_index (behind_digits line) 0 ≡ 32
  pub slash : slice_index (behind_digits line) 1 ≡ 47

-- each line that isn't empty has them
abbrev pub IsPinLine : List ℕ → Type 0
IsPinLine line = length line ≢ 0 → ArePinParts line

abbrev pub list_lines : List ℕ → List (List ℕ)
list_lines bytes = slice_split (λ byte. byte == 10) bytes

-- the pins are those of the lines of the list, in their order
pub record ArePinsOfList (bytes : List ℕ) (pins : List OwnPin) : Type 0 where
  pub lines : All IsPinLine (list_lines bytes)
  pub each : map rank_path pins ≡ flat_map line_pins (list_lines bytes)

-- why a list of pins can't be read: for want of memory, or for the first line that is none of a pin
abbrev pub IsPinListError : List ℕ → DumpError → Type 0
IsPinListError bytes Memory = ⊤
IsPinListError bytes (Own number) = IsFirstBroken IsPinLine (list_lines bytes) number
IsPinListError bytes _ = ⊥
