-- Where a place of a JSON text is: the names of the members and the places in the lists that lead to it.
use Rattle.std.specs.Prelude.{◌≡◌, ◌≤◌, ◌==◌, ◌&&◌, ◌||◌, ◌+◌, ◌-◌, ◌^◌, ◌++◌, ℕ, zero, suc, Bool, true, false}
use Rattle.std.specs.Prelude.{List, [], ◌∷◌, codes, decimal, drop, length, map, min, nat_le, nat_lt, slice_index}
use Rattle.std.specs.Prelude.{slice_index_or, slice_set, take, if◌then◌else◌}
use Rattle.std.specs.List.{flat_map}
use Rattle.ceph_dumps.specs.declared.bare_words.Place.{Place}
use Rattle.ceph_dumps.specs.declared.bare_words.Place.TheVariants.{Bare, Escaped, Quoted}
use Rattle.ceph_dumps.specs.declared.key_path.Frame.{Frame}
use Rattle.ceph_dumps.specs.declared.key_path.Word.{Word}

-- where the byte after one is: in a string or not
abbrev pub place_after : Place → ℕ → Place
place_after Bare byte = if byte == 34 then Quoted else Bare
place_after Quoted byte = if byte == 34 then Bare else if byte == 92 then Escaped else Quoted
place_after Escaped byte = Quoted

-- where byte n is
abbrev pub quoting_at : List ℕ → ℕ → Place
quoting_at text zero = Bare
quoting_at text (suc n) = place_after (quoting_at text n) (slice_index text n)

-- the last string before byte n: from which byte up to which
abbrev pub word_after : Word → Place → ℕ → ℕ → Word
word_after word Bare byte at = if byte == 34 then record { from = at + 1; to = at + 1 } else word
word_after word Quoted byte at = record word { to = at }
word_after word Escaped byte at = word

abbrev pub word_of : List ℕ → ℕ → Word
word_of text zero = record { from = 0; to = 0 }
word_of text (suc n) = word_after (word_of text n) (quoting_at text n) (slice_index text n) n

-- an object or a list that begins
abbrev pub no_word : Word
no_word = record { from = 0; to = 0 }

abbrev pub new_frame : Bool → Frame
new_frame is_list = record { is_list = is_list; items = 0; name = no_word }

-- the innermost one after a comma, and after a colon
abbrev pub next_of : Frame → Frame
next_of frame = if frame.is_list then record frame { items = min (2 ^ 64 - 1) (frame.items + 1) } else new_frame false

abbrev pub with_last : (Frame → Frame) → List Frame → List Frame
with_last change frames =
    if length frames == 0 then frames
    else slice_set frames (length frames - 1) (change (slice_index_or frames (length frames - 1) (new_frame false)))

-- what is open after a byte outside of strings, the outermost first
abbrev pub after_bare : List Frame → ℕ → Word → List Frame
after_bare frames byte word =
    if byte == 123 then frames ++ new_frame false ∷ []
    else if byte == 91 then frames ++ new_frame true ∷ []
    else if (byte == 125) || (byte == 93) then take (length frames - 1) frames
    else if byte == 44 then with_last next_of frames
    else if byte == 58 then with_last (λ frame. record frame { name = word }) frames else frames

abbrev pub after_byte : List Frame → Place → ℕ → Word → List Frame
after_byte frames Bare byte word = after_bare frames byte word
after_byte frames Quoted byte word = frames
after_byte frames Escaped byte word = frames

-- what is open before byte n
abbrev pub open_at : List ℕ → ℕ → List Frame
open_at text zero = []
open_at text (suc n) = after_byte (open_at text n) (quoting_at text n) (slice_index text n) (word_of text n)

-- at the end of an object no member is meant
abbrev pub meant_at : List ℕ → ℕ → List Frame
meant_at text n =
    if slice_index text n == 125 then with_last next_of (open_at text n) else open_at text n

-- a byte of a name: printed ASCII, or a question mark
abbrev pub shown_name_byte : ℕ → ℕ
shown_name_byte byte = if nat_lt 32 byte && nat_lt byte 127 then byte else 63

abbrev pub word_text : List ℕ → Word → List ℕ
word_text text word =
    if nat_le word.from word.to && nat_le word.to (length text) then take (word.to - word.from) (drop word.from text)
    else []

abbrev pub frame_text : List ℕ → Frame → List ℕ
frame_text text frame =
    if frame.is_list then codes "[" ++ decimal frame.items ++ codes "]"
    else if length (word_text text frame.name) == 0 then []
    else codes "." ++ map shown_name_byte (word_text text frame.name)

-- the path of byte n of a text: that of the whole is a dot
abbrev pub or_dot : List ℕ → List ℕ
or_dot path = if length path == 0 then codes "." else path

abbrev pub key_path : List ℕ → ℕ → List ℕ
key_path text n = or_dot (flat_map (frame_text text) (meant_at text n))

-- the line of byte n, from 1 on: one more than there are newlines before it
abbrev pub line_at : List ℕ → ℕ → ℕ
line_at text zero = 1
line_at text (suc n) = if slice_index text n == 10 then line_at text n + 1 else line_at text n

-- its column in the file, where each character of the text was a byte
abbrev pub is_tail : ℕ → Bool
is_tail byte = nat_le 128 byte && nat_le byte 191

abbrev pub column_at : List ℕ → ℕ → ℕ
column_at text zero = 1
column_at text (suc n) =
    if slice_index text n == 10 then 1
    else if is_tail (slice_index text n) then column_at text n else column_at text n + 1

-- line and column are those of a byte of the text, or of its end, and the path is that byte's
pub record IsPlaceOf (text : List ℕ) (line column : ℕ) (path : List ℕ) : Type 0 where
  pub at : ℕ
  pub inside : at ≤ length text
  pub line_is : line ≡ line_at text at
  pub column_is : column ≡ column_at text at
  pub path_is : path ≡ key_path text at
