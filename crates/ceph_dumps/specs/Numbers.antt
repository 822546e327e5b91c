-- Numbers of a dump.
use Rattle.std.specs.Prelude.{◌&&◌, ◌^◌, Bool, List, ℕ, ℤ, pos, negsuc, Option, Some, None, length, nat_lt}
use Rattle.std.specs.Prelude.{option_and_then, if◌then◌else◌}
use Rattle.std.specs.Char.{digit_value}
use Rattle.std.specs.Float.{Float, binary64}
use Rattle.std.specs.Float.Parse.{parse_float}
use Rattle.std.specs.List.{list_all}
use Rattle.std.specs.Str.Parse.{digits_value, signed_digits_value, without_leading_plus, without_leading_sign}
use Rattle.json.specs.Find.{as_number}
use Rattle.json.specs.Json.{Json}

-- one decimal digit or more, and nothing else
abbrev pub is_digits : List ℕ → Bool
is_digits text = nat_lt 0 (length text) && list_all (λ c. nat_lt (digit_value c) 10) text

-- a whole number that 64 bits hold, without a point or an exponent
abbrev pub fits_64 : ℤ → Bool
fits_64 (pos n) = nat_lt n (2 ^ 63)
fits_64 (negsuc n) = nat_lt n (2 ^ 63)

abbrev pub is_whole : List ℕ → Bool
is_whole text = is_digits (without_leading_sign text) && fits_64 (signed_digits_value 10 text)

abbrev pub whole_of : List ℕ → Option ℤ
whole_of text = if is_whole text then Some (signed_digits_value 10 text) else None

abbrev pub whole_in : Json → Option ℤ
whole_in value = option_and_then whole_of (as_number value)

-- one that is no less than 0, which 32 bits hold
abbrev pub is_unsigned : List ℕ → Bool
is_unsigned text =
    is_digits (without_leading_plus text) && nat_lt (digits_value 10 (without_leading_plus text)) (2 ^ 32)

abbrev pub unsigned_of : List ℕ → Option ℕ
unsigned_of text = if is_unsigned text then Some (digits_value 10 (without_leading_plus text)) else None

abbrev pub unsigned_in : Json → Option ℕ
unsigned_in value = option_and_then unsigned_of (as_number value)

-- a whole number as one that 32 bits hold, if they do
abbrev pub unsigned_from : ℤ → Option ℕ
unsigned_from (pos n) = if nat_lt n (2 ^ 32) then Some n else None
unsigned_from (negsuc n) = None

-- any number, as the nearest double
abbrev pub double_in : Json → Option Float
double_in value = option_and_then (parse_float binary64) (as_number value)
