-- The names of directories.
use Rattle.std.specs.Prelude.{ℕ, Bool, not, string_bytes, ◌&&◌, ◌||◌, ◌==◌, nat_lt, nat_le, List, length, codes}
use Rattle.std.specs.List.{list_all}
use Rattle.std.specs.Str.{bytes_eq}
use Rattle.dirtree.specs.declared.name.Kept.{Kept}
use Rattle.dirtree.specs.declared.name.Kept.TheVariants.{Short, Long}

-- a byte that is seen in print, but no slash
abbrev pub is_name_byte : ℕ → Bool
is_name_byte b = nat_lt 32 b && (nat_lt b 127 && not (b == 47))

-- 1 to 255 bytes
abbrev pub has_name_length : List ℕ → Bool
has_name_length text = nat_lt 0 (length text) && nat_le (length text) 255

-- what elsewhere means the directory itself or its parent
abbrev pub is_dots : List ℕ → Bool
is_dots text = bytes_eq text (codes ".") || bytes_eq text (codes "..")

abbrev pub is_name : List ℕ → Bool
is_name text = has_name_length text && (list_all is_name_byte text && not (is_dots text))

-- the bytes of a name, however it is kept
unfoldable pub name_bytes : Kept → List ℕ
name_bytes (Short short) = short.bytes
name_bytes (Long long) = string_bytes long
