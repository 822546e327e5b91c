-- The mask that a text writes.
use Rattle.std.specs.Prelude.{ℕ, ◌-◌, ◌^◌, Bool, ◌&&◌, if◌then◌else◌, nat_lt, nat_le}
use Rattle.std.specs.Prelude.{List, length, take, drop, codes, Option, Some, None}
use Rattle.std.specs.List.{list_all}
use Rattle.std.specs.Char.{digit_value}
use Rattle.std.specs.Str.{bytes_eq}
use Rattle.std.specs.Str.Parse.{digits_value}

-- one to sixteen hexadecimal digits of either case
abbrev pub is_hex : List ℕ → Bool
is_hex digits =
    nat_lt 0 (length digits) && (nat_le (length digits) 16 && list_all (λ c. nat_lt (digit_value c) 16) digits)

-- the bits after 0x
abbrev pub hex_bits : List ℕ → Option ℕ
hex_bits text =
    if bytes_eq (take 2 text) (codes "0x") && is_hex (drop 2 text) then Some (digits_value 16 (drop 2 text)) else None

-- -1 is all ranks
abbrev pub mask_bits : List ℕ → Option ℕ
mask_bits text = if bytes_eq text (codes "-1") then Some (2 ^ 64 - 1) else hex_bits text
