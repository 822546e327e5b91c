-- Which value of the command line is wrong, and what is said of it.
use Rattle.std.specs.Prelude.{◌≡◌, ◌≢◌, ◌⊎◌, ◌++◌, ◌∷◌, ℕ, All, IfSome, List, [], Some, codes, true}
use Rattle.std.specs.Str.{bytes_eq}
use Rattle.clap.specs.Words.{Row, first_of}
use Rattle.mdbal_ceph.specs.Options.{folders_named}
use Rattle.mdbal_ceph.specs.RightValues.{IsAbsolute, IsCount, IsHourCount, IsMadeCount, IsMaskText, IsPercent}
use Rattle.mdbal_ceph.specs.RightValues.{IsWholeNumber, folder_named}
use Rattle.mdbal_ceph.specs.declared.wrong_value.ValueOption.{ValueOption}
use Rattle.mdbal_ceph.specs.declared.wrong_value.ValueOption.TheVariants.{Hours, Keep, LeastByInodes, LeastGain}
use Rattle.mdbal_ceph.specs.declared.wrong_value.ValueOption.TheVariants.{LeastHeat, Made, Mask, MostInodes, MostPins}
use Rattle.mdbal_ceph.specs.declared.wrong_value.ValueOption.TheVariants.{Mount, Parts}
use Rattle.mdbal_ceph.specs.declared.wrong_value.WrongValue.{WrongValue}
use Rattle.mdbal_ceph.specs.declared.wrong_value.WrongValue.TheVariants.{EmptyFolder, NoFolder, Of}

-- the name of an option
abbrev pub option_name : ValueOption → List ℕ
option_name Mask = codes "mask"
option_name MostPins = codes "most-pins"
option_name Parts = codes "parts"
option_name Keep = codes "keep"
option_name Hours = codes "hours"
option_name Made = codes "made"
option_name MostInodes = codes "most-inodes"
option_name LeastHeat = codes "least-heat"
option_name LeastGain = codes "least-gain"
option_name LeastByInodes = codes "least-by-inodes"
option_name Mount = codes "mount"

-- the values that it takes
abbrev pub Takes : ValueOption → List ℕ → Type 0
Takes Mask value = IsMaskText value
Takes MostPins value = IsCount value
Takes Parts value = (bytes_eq value (codes "auto") ≡ true) ⊎ IsCount value
Takes Keep value = IsPercent value
Takes Hours value = IsHourCount value
Takes Made value = IsMadeCount value
Takes MostInodes value = IsWholeNumber value
Takes LeastHeat value = IsWholeNumber value
Takes LeastGain value = IsPercent value
Takes LeastByInodes value = IsWholeNumber value
Takes Mount value = IsAbsolute value

-- the same in words
abbrev pub taken_text : ValueOption → List ℕ
taken_text Mask = codes "all, -1 as in --mask=-1, or 1 to 16 hexadecimal digits"
taken_text MostPins = codes "a number from 1 to 65535"
taken_text Parts = codes "auto, or a number from 1 to 65535"
taken_text Keep = codes "a whole number from 0 to 255, without a percent sign"
taken_text Hours = codes "a number from 1 to 32"
taken_text Made = codes "a number from 0 to 31"
taken_text MostInodes = codes "a whole number"
taken_text LeastHeat = codes "a whole number"
taken_text LeastGain = codes "a whole number from 0 to 255, without a percent sign"
taken_text LeastByInodes = codes "a whole number"
taken_text Mount = codes "an absolute path"

-- what is said of a wrong value names its option
abbrev pub option_text : ValueOption → List ℕ
option_text option = codes "--" ++ option_name option ++ codes " takes " ++ taken_text option

abbrev pub wrong_text : WrongValue → List ℕ
wrong_text (Of option) = option_text option
wrong_text NoFolder = codes "a DIR is missing"
wrong_text EmptyFolder = codes "a DIR is empty"

-- the option was given this value, and the value isn't one that it takes
pub record IsGivenWrong (rows : List Row) (option : ValueOption) : Type 0 where
  pub value : List ℕ
  pub given : first_of (option_name option) rows ≡ Some value
  pub wrong : Takes option value → ⊥

abbrev pub IsWrong : List Row → WrongValue → Type 0
IsWrong rows (Of option) = IsGivenWrong rows option
IsWrong rows NoFolder = folders_named rows ≡ []
IsWrong rows EmptyFolder = (folders_named rows ≢ []) × (folder_named rows ≡ [])

-- nothing is wrong with it
abbrev pub IsRight : List Row → WrongValue → Type 0
IsRight rows (Of option) = IfSome (first_of (option_name option) rows) (Takes option)
IsRight rows NoFolder = folders_named rows ≢ []
IsRight rows EmptyFolder = folder_named rows ≢ []

-- the order in which values are looked at
abbrev pub parts_order : List WrongValue
parts_order = Of MostPins ∷ Of Parts ∷ []

abbrev pub past_order : List WrongValue
past_order = NoFolder ∷ EmptyFolder ∷ Of Hours ∷ Of Made ∷ []

abbrev pub least_order : List WrongValue
least_order = Of LeastHeat ∷ Of LeastGain ∷ Of LeastByInodes ∷ []

abbrev pub value_order : List WrongValue
value_order =
    Of Mask ∷ parts_order ++ Of Keep ∷ past_order ++ Of MostInodes ∷ least_order ++ Of Mount ∷ []

-- each value is one that its option takes
abbrev pub AreRight : List Row → Type 0
AreRight rows = All (IsRight rows) value_order

-- the value is wrong, and all those are right that come before it in this order
pub record IsFirstWrong (rows : List Row) (order : List WrongValue) (wrong : WrongValue) : Type 0 where
  pub is : IsWrong rows wrong
  pub before : List WrongValue
  pub after : List WrongValue
  pub order_is : order ≡ before ++ wrong ∷ after
  pub right : All (IsRight rows) before
