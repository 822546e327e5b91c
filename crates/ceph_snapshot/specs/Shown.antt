-- How a path is shown in ASCII.
use Rattle.std.specs.Prelude.{◌==◌, ◌&&◌, ◌+◌, ◌/◌, ◌%◌, ℕ, Bool, List, [], ◌∷◌, codes, not, nat_le, nat_lt}
use Rattle.std.specs.Prelude.{if◌then◌else◌}
use Rattle.std.specs.List.{flat_map}

-- a byte that ASCII prints
abbrev pub is_printed : ℕ → Bool
is_printed c = nat_le 32 c && nat_lt c 127

-- a byte as a backslash and three octal digits, unless it is printed and no backslash
unfoldable pub shown_byte : ℕ → List ℕ
shown_byte c =
    if is_printed c && not (c == 92) then c ∷ [] else 92 ∷ (48 + c / 64) ∷ (48 + c / 8 % 8) ∷ (48 + c % 8) ∷ []

-- a path; the root's is empty
unfoldable pub shown_path : List ℕ → List ℕ
shown_path [] = codes "/"
shown_path (c ∷ path) = flat_map shown_byte (c ∷ path)
