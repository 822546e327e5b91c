-- How numbers and paths are written.
use Rattle.std.specs.Prelude.{◌==◌, ◌||◌, ◌+◌, ◌-◌, ◌*◌, ◌/◌, ◌%◌, ◌++◌, ℕ, zero, suc, Bool, List, [], ◌∷◌}
use Rattle.std.specs.Prelude.{codes, decimal, length, min, nat_lt, take, if◌then◌else◌}
use Rattle.std.specs.List.{flat_map}
use Rattle.ceph_pins.specs.PinsScript.{path_at}
use Rattle.ceph_snapshot.specs.Holding.{most_heat}
use Rattle.std.specs.Str.{is_utf8}
use Rattle.ceph_snapshot.specs.Shown.{shown_path}
use Rattle.ceph_snapshot.specs.declared.directory.Directory.{Directory}

-- the texts of the numbers below n, in their order
unfoldable pub lines_below : (ℕ → List ℕ) → ℕ → List ℕ
lines_below line zero = []
lines_below line (suc n) = lines_below line n ++ line n

-- a label and a number
unfoldable pub field : List ℕ → ℕ → List ℕ
field label number = label ++ decimal number

-- a number at the right of `width` columns, 12 at most
unfoldable pub columns : ℕ → ℕ → List ℕ
columns width number = take (width - length (decimal number)) (codes "            ") ++ decimal number

-- a heat in thousandths, with one digit after the point
unfoldable pub heat_text : List ℕ → ℕ → List ℕ
heat_text label heat = label ++ columns 10 (heat / 1000) ++ field (codes ".") (heat % 1000 / 100)

-- tenths of a percent
unfoldable pub percent_text : List ℕ → ℕ → List ℕ
percent_text label tenths = field label (tenths / 10) ++ field (codes ".") (tenths % 10) ++ codes " %"

-- a part of a whole in tenths of a percent, rounded down, as far as 64 bits count
unfoldable pub per_mille : ℕ → ℕ → ℕ
per_mille part whole = if whole == 0 then 0 else min most_heat (part * 1000) / whole

-- a part of a whole in tenths of a percent, rounded up, as far as 64 bits count
unfoldable pub per_mille_above : ℕ → ℕ → ℕ
per_mille_above part whole = if whole == 0 then 0 else min most_heat ((part * 1000 + (whole - 1)) / whole)

unfoldable pub hex_digit : ℕ → ℕ
hex_digit d = if nat_lt d 10 then 48 + d else 87 + d

-- a label, and a byte as two hexadecimal digits
unfoldable pub hexadecimal : List ℕ → ℕ → List ℕ
hexadecimal label c = label ++ hex_digit (c / 16) ∷ hex_digit (c % 16) ∷ []

-- a byte in a string of JSON: quotation mark, backslash and control characters are escaped
unfoldable pub json_byte : ℕ → List ℕ
json_byte c =
    if (c == 34) || (c == 92) then 92 ∷ c ∷ []
    else if nat_lt c 32 then hexadecimal (codes "\\u00") c else c ∷ []

-- a string of JSON, of bytes that are UTF-8
unfoldable pub json_string : List ℕ → List ℕ
json_string path = codes "\"" ++ flat_map json_byte path ++ codes "\""

-- the same of any bytes: two hexadecimal digits for each
unfoldable pub hex_string : List ℕ → List ℕ
hex_string path = codes "\"" ++ flat_map (hexadecimal []) path ++ codes "\""

-- the value of a member that has a path, after the begin of its name: a string of JSON where the path is UTF-8,
-- otherwise its bytes in hexadecimal digits, in a member whose name goes on with _bytes
unfoldable pub path_value : List ℕ → List ℕ
path_value path =
    if is_utf8 path then codes "\":" ++ json_string path else codes "_bytes\":" ++ hex_string path

-- a truth value of JSON
abbrev pub truth : Bool → List ℕ
truth is_so = if is_so then codes "true" else codes "false"

-- what comes before the member of a list at this place
unfoldable pub comma : ℕ → List ℕ
comma at = if at == 0 then [] else codes ","

-- a directory's path, and the end of the line
unfoldable pub place_text : List Directory → ℕ → List ℕ
place_text directories i = shown_path (path_at directories i) ++ codes "\n"
