-- The inode numbers of directories, as they are listed: a record for each, with a NUL after it.
use Rattle.std.specs.Prelude.{◌≡◌, ◌==◌, ◌<◌, ◌≤◌, ◌+◌, ◌^◌, ◌++◌, ℕ, Bool, true, false, All, List, [], ◌∷◌, length}
use Rattle.std.specs.Prelude.{if◌then◌else◌}
use Rattle.std.specs.List.{flat_map, list_any}
use Rattle.std.specs.Str.Parse.{IsNumeral, digits_value}
use Rattle.ceph_dumps.specs.declared.listing.ListedDir.{ListedDir}
use Rattle.ceph_dumps.specs.declared.listing.ListedValue.TheVariants.{Inode}
use Rattle.ceph_dumps.specs.OneForOne.{AreOneForOne}
use Rattle.ceph_dumps.specs.Paths.{is_clean_path}

-- the path of a name below the root; the root has no name
abbrev pub rooted : List ℕ → List ℕ
rooted name = if length name == 0 then [] else 47 ∷ name

-- 1 to 20 decimal digits, which write a number from 1 on that 64 bits can hold
pub record IsInodeNumber (digits : List ℕ) (number : ℕ) : Type 0 where
  pub numeral : IsNumeral 10 digits
  pub short : length digits ≤ 20
  pub is : number ≡ digits_value 10 digits
  pub some : 0 < number
  pub fits : number < 2 ^ 64

-- such a number, a blank and a name
pub record IsNumberAndName (text : List ℕ) (number : ℕ) (name : List ℕ) : Type 0 where
  pub digits : List ℕ
  pub whole : text ≡ digits ++ 32 ∷ name
  pub is : IsInodeNumber digits number

-- a record says that a directory has this inode number
pub record IsInodeRecord (text : List ℕ) (dir : ListedDir) : Type 0 where
  pub number : ℕ
  pub name : List ℕ
  pub words : IsNumberAndName text number name
  pub value : dir.value ≡ Inode number
  pub path : dir.path.items ≡ rooted name
  pub clean : is_clean_path dir.path.items ≡ true

abbrev pub with_nul : List ℕ → List ℕ
with_nul text = text ++ 0 ∷ []

abbrev pub has_nul : List ℕ → Bool
has_nul text = list_any (λ c. c == 0) text

-- the entries are those of the records of a file, in their order, up to this rest of it
pub record AreInodesBefore (bytes rest : List ℕ) (found : List ListedDir) : Type 0 where
  pub texts : List (List ℕ)
  pub whole : bytes ≡ flat_map with_nul texts ++ rest
  pub single : All (λ text. has_nul text ≡ false) texts
  pub each : AreOneForOne IsInodeRecord texts found

-- and there is no such record at the beginning of the rest
abbrev pub IsNoRecord : List ℕ → Type 0
IsNoRecord rest =
    (text after : List ℕ) (dir : ListedDir) → rest ≡ with_nul text ++ after → has_nul text ≡ false
    → IsInodeRecord text dir → ⊥

-- the record of this number is none
pub record IsBrokenRecord (bytes : List ℕ) (number : ℕ) : Type 0 where
  pub rest : List ℕ
  pub found : List ListedDir
  pub before : AreInodesBefore bytes rest found
  pub counted : number ≡ length found + 1
  pub none : IsNoRecord rest
