-- Bytes as characters of their own, and back.
use Rattle.std.specs.Prelude.{◌==◌, ◌||◌, ◌+◌, ◌*◌, ◌/◌, ◌%◌, ℕ, Bool, List, []}
use Rattle.std.specs.Prelude.{◌∷◌, Option, Some, None, nat_lt, if◌then◌else◌}
use Rattle.std.specs.List.{flat_map}

-- a byte from 0x80 as the two bytes of the character of that number
abbrev pub wide_byte : ℕ → List ℕ
wide_byte byte = if nat_lt byte 128 then byte ∷ [] else (192 + byte / 64) ∷ (128 + byte % 64) ∷ []

abbrev pub wide : List ℕ → List ℕ
wide bytes = flat_map wide_byte bytes

-- the first of the two bytes of a character from 0x80 to 0xff
abbrev pub is_lead : ℕ → Bool
is_lead byte = (byte == 194) || (byte == 195)

-- what is read back, where a first byte may come before
abbrev pub narrow_behind : Option ℕ → List ℕ → List ℕ
narrow_behind None [] = []
narrow_behind (Some lead) [] = []
narrow_behind None (byte ∷ text) =
    if is_lead byte then narrow_behind (Some byte) text else byte ∷ narrow_behind None text
narrow_behind (Some lead) (byte ∷ text) = (lead % 4 * 64 + byte % 64) ∷ narrow_behind None text
