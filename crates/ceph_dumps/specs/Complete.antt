-- The line of the file that says which file system was collected.
use Rattle.std.specs.Prelude.{◌≡◌, ◌==◌, ◌&&◌, ◌||◌, ◌<◌, ◌++◌, ⊤, ℕ}
use Rattle.std.specs.Prelude.{Bool, true, List, [], ◌∷◌, length, slice_index, nat_le}
use Rattle.ceph_dumps.specs.declared.dump_error.DumpError.{DumpError}
use Rattle.ceph_dumps.specs.declared.dump_error.DumpError.TheVariants.{Complete, Memory}

-- a letter or digit of ASCII, an underscore, a dot or a hyphen
abbrev pub is_word_byte : ℕ → Bool
is_word_byte c =
    (nat_le 48 c && nat_le c 57) || ((nat_le 65 c && nat_le c 90) || ((nat_le 97 c && nat_le c 122)
    || ((c == 95) || ((c == 46) || (c == 45)))))

-- one or more of these
pub record IsWord (text : List ℕ) : Type 0 where
  pub some : 0 < length text
  pub bytes : (i : ℕ) → i < length text → is_word_byte (slice_index text i) ≡ true

-- the name, a blank, the identity and a newline
abbrev pub line_of : List ℕ → List ℕ → List ℕ
line_of name fsid = name ++ (32 ∷ (fsid ++ (10 ∷ [])))

-- a line without its newline: two words with a blank between them
pub record AreTwoWords (line name fsid : List ℕ) : Type 0 where
  pub whole : line ≡ name ++ 32 ∷ fsid
  pub name_is : IsWord name
  pub fsid_is : IsWord fsid

-- why the file can't be read: for want of memory, or as its bytes are the line of no two words
abbrev pub IsCompleteError : List ℕ → DumpError → Type 0
IsCompleteError bytes Memory = ⊤
IsCompleteError bytes Complete =
    (name fsid : List ℕ) → IsWord name → IsWord fsid → bytes ≡ line_of name fsid → ⊥
IsCompleteError bytes _ = ⊥
