-- The text that the bytes of a dump are read as.
use Rattle.std.specs.Prelude.{◌≡◌, ◌≢◌, ◌==◌, ◌-◌, ◌<◌, ◌≤◌, All, Bool, List, [], ◌∷◌, ℕ, Option}
use Rattle.std.specs.Prelude.{codes, drop, length, option_and_then, take, if◌then◌else◌}
use Rattle.std.specs.Str.{bytes_eq}
use Rattle.json.specs.Json.{Json, document}
use Rattle.memchr.specs.Find.{OccursAt}
use Rattle.ceph_dumps.specs.KeyPath.{place_after}
use Rattle.ceph_dumps.specs.WideBytes.{wide}
use Rattle.ceph_dumps.specs.declared.bare_words.Place.{Place}
use Rattle.ceph_dumps.specs.declared.bare_words.Place.TheVariants.{Bare, Escaped, Quoted}

abbrev pub begins_with : List ℕ → List ℕ → Bool
begins_with text word = bytes_eq (take (length word) text) word

-- how many bytes a word has that begins here, which Ceph prints where JSON has no number: `-inf`, `-nan`, `inf`, `nan`
abbrev pub word_length : List ℕ → ℕ
word_length text =
    if begins_with text (codes "-inf") then 4 else if begins_with text (codes "-nan") then 4
    else if begins_with text (codes "inf") then 3 else if begins_with text (codes "nan") then 3 else 0

-- neither `inf` nor `nan` occurs anywhere
pub record HasNoWord (text : List ℕ) : Type 0 where
  pub inf : (at : ℕ) → OccursAt text (codes "inf") at → ⊥
  pub nan : (at : ℕ) → OccursAt text (codes "nan") at → ⊥

-- such words begin outside of strings
abbrev pub bare_length : Place → List ℕ → ℕ
bare_length Bare text = word_length text
bare_length Quoted text = 0
bare_length Escaped text = 0

-- how many bytes of a word still come, where so many come of one that began before
abbrev pub word_left : ℕ → Place → List ℕ → ℕ
word_left left place text = if left == 0 then bare_length place text else left

-- what is written over a byte of a word: a zero over the last one, a blank over those before
abbrev pub over_byte : ℕ → ℕ
over_byte left = if left == 0 then 48 else 32

-- a text with blanks and a zero over each such word
abbrev pub written_over : ℕ → Place → List ℕ → List ℕ
written_over left place [] = []
written_over left place (byte ∷ text) =
    if word_left left place (byte ∷ text) == 0 then byte ∷ written_over 0 (place_after place byte) text
    else over_byte (word_left left place (byte ∷ text) - 1)
    ∷ written_over (word_left left place (byte ∷ text) - 1) place text

-- where the byte behind these is
abbrev pub place_behind : Place → List ℕ → Place
place_behind place [] = place
place_behind place (byte ∷ text) = place_behind (place_after place byte) text

abbrev pub quoting : Bool → Place
quoting is_quoted = if is_quoted then Quoted else Bare

-- none of the bytes is a backslash
abbrev pub HasNoBackslash : List ℕ → Type 0
HasNoBackslash text = All (λ byte. byte ≢ 92) text

-- none of so many first bytes is a backslash, and no such word begins in them
pub record IsWordless (text : List ℕ) (count : ℕ) : Type 0 where
  pub within : count ≤ length text
  pub plain : HasNoBackslash (take count text)
  pub none : (at : ℕ) → at < count → word_length (drop at text) ≡ 0

-- each byte from 0x80 as a character of its own, and a number in place of each bare word
abbrev pub dump_text : List ℕ → List ℕ
dump_text bytes = written_over 0 Bare (wide bytes)

-- what the value says that the bytes of a dump are
abbrev pub said_in : {A : Type 0} → (Json → Option A) → List ℕ → Option A
said_in said bytes = option_and_then said (document (dump_text bytes))
