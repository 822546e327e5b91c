-- What the values of options have to be.
use Rattle.std.specs.Prelude.{◌≡◌, ◌≤◌, ◌-◌, ◌^◌, ℕ, List, [], Some, is_some, length, slice_get, slice_index_or, true}
use Rattle.std.specs.Str.Parse.{IsNumeral, without_leading_plus}
use Rattle.clap.specs.Words.{Row}
use Rattle.mdbal_ceph.specs.Options.{folders_named, option_number}
use Rattle.mdbal_ceph.specs.Usable.{asked_mask}
use Rattle.mdbal_ceph.specs.declared.values.TheConstants.{MOST_HOURS}

-- a text is a number, from the least to the most
pub record IsNumberIn (least most : ℕ) (text : List ℕ) : Type 0 where
  pub numeral : IsNumeral 10 (without_leading_plus text)
  pub some : least ≤ option_number text
  pub few : option_number text ≤ most

-- a number of parts or pins, a percentage, a whole number, and how many hours are chosen and made
abbrev pub IsCount : List ℕ → Type 0
IsCount text = IsNumberIn 1 (2 ^ 16 - 1) text

abbrev pub IsPercent : List ℕ → Type 0
IsPercent text = IsNumberIn 0 (2 ^ 8 - 1) text

abbrev pub IsWholeNumber : List ℕ → Type 0
IsWholeNumber text = IsNumberIn 0 (2 ^ 32 - 1) text

abbrev pub IsHourCount : List ℕ → Type 0
IsHourCount text = IsNumberIn 1 MOST_HOURS text

abbrev pub IsMadeCount : List ℕ → Type 0
IsMadeCount text = IsNumberIn 0 (MOST_HOURS - 1) text

-- a mask, and an absolute path
abbrev pub IsMaskText : List ℕ → Type 0
IsMaskText text = is_some (asked_mask text) ≡ true

abbrev pub IsAbsolute : List ℕ → Type 0
IsAbsolute text = slice_get text 0 ≡ Some 47

-- the last folder, which is that of now
abbrev pub folder_named : List Row → List ℕ
folder_named rows = slice_index_or (folders_named rows) (length (folders_named rows) - 1) []
