-- How a stored text is read: fields one by one from the front. The reader compares the text with the one that is
-- written of what was read, so `stored_text` says what it takes.
use Rattle.std.specs.Prelude.{◌≡◌, ◌≢◌, ⊤, ℕ, zero, suc, ◌+◌, ◌-◌, ◌*◌, ◌^◌, ◌==◌, Bool, ◌&&◌, ◌||◌, nat_lt, nat_le}
use Rattle.std.specs.Prelude.{List, [], ◌∷◌, ◌++◌}
use Rattle.std.specs.Prelude.{length, codes, slice_index, Option, Some, None, Result, Ok, Err, is_some, option_map}
use Rattle.std.specs.Prelude.{option_and_then, if◌then◌else◌}
use Rattle.std.specs.Borrow.{Bor}
use Rattle.std.specs.List.{after_first, before_first}
use Rattle.std.specs.Option.{unwrap_or}
use Rattle.std.specs.Str.{bytes_eq}
use Rattle.pin_driver.specs.PinPlan.{PlanParts, made_plan}
use Rattle.pin_driver.specs.declared.plan.EarlierPin.{EarlierPin}
use Rattle.pin_driver.specs.declared.plan.PlannedChange.{PlannedChange}
use Rattle.pin_driver.specs.declared.question.Mark.{Mark}
use Rattle.pin_driver.specs.declared.text_error.TextError.{TextError}
use Rattle.pin_driver.specs.declared.text_error.TextError.TheVariants.{Memory, Version, Form}

infixl 10 ◌>>=◌
abbrev ◌>>=◌ : {A B : Type 0} → Option A → (A → Option B) → Option B
o >>= f = option_and_then f o

-- a blank or a newline
abbrev pub closes_field : ℕ → Bool
closes_field c = (c == 32) || (c == 10)

-- what the first field is, and the text after it
abbrev pub read_field : {A : Type 0} → (List ℕ → Option A) → List ℕ → Option (A × List ℕ)
read_field value text = do
  x ← value (before_first closes_field text)
  Some (x, after_first closes_field text)

-- the text after a word
abbrev pub skip_word : List ℕ → List ℕ → Option (List ℕ)
skip_word word text =
    if bytes_eq (before_first closes_field text) word then Some (after_first closes_field text) else None

-- a number with one more digit
abbrev pub next_digit : ℕ → ℕ → Option ℕ
next_digit n c =
    if nat_le 48 c && (nat_le c 57 && nat_lt (n * 10 + (c - 48)) (2 ^ 64)) then Some (n * 10 + (c - 48)) else None

-- the number of digits that follow those of n
abbrev pub number_onto : ℕ → List ℕ → Option ℕ
number_onto n [] = Some n
number_onto n (c ∷ cs) = do
  more ← next_digit n c
  number_onto more cs

-- the number of a field
abbrev pub field_number : List ℕ → Option ℕ
field_number field = number_onto 0 field

-- the rank of a field
abbrev pub field_rank : List ℕ → Option ℕ
field_rank field = do
  n ← field_number field
  if nat_lt n 64 then Some n else None

-- a value, or a dash
abbrev pub or_dash : (List ℕ → Option ℕ) → List ℕ → Option (Option ℕ)
or_dash value field = if bytes_eq field (codes "-") then Some None else option_map (λ n. Some n) (value field)

-- a digit up to this one
abbrev pub is_octal_to : ℕ → ℕ → Bool
is_octal_to most c = nat_le 48 c && nat_le c most

-- a backslash and three octal digits come first
abbrev pub is_escape : List ℕ → Bool
is_escape text =
    nat_le 4 (length text) && ((slice_index text 0 == 92) && (is_octal_to 51 (slice_index text 1)
    && (is_octal_to 55 (slice_index text 2) && is_octal_to 55 (slice_index text 3))))

-- the byte that a backslash and three octal digits mean
abbrev pub escape_value : List ℕ → Option ℕ
escape_value text =
    if is_escape text
    then Some ((slice_index text 1 - 48) * 64 + (slice_index text 2 - 48) * 8 + (slice_index text 3 - 48)) else None

-- the bytes that a field means, after the first n, which are passed over
abbrev pub meant_bytes : ℕ → List ℕ → List ℕ
meant_bytes zero [] = []
meant_bytes (suc n) [] = []
meant_bytes (suc n) (c ∷ cs) = meant_bytes n cs
meant_bytes zero (c ∷ cs) =
    unwrap_or (escape_value (c ∷ cs)) c ∷ meant_bytes (if is_some (escape_value (c ∷ cs)) then 3 else 0) cs

-- the bytes of a field; each field means some
abbrev pub field_bytes : List ℕ → Option (List ℕ)
field_bytes field = Some (meant_bytes 0 field)

-- the change of a line
unfoldable pub read_change : List ℕ → Option (PlannedChange × List ℕ)
read_change text = do
  rest ← skip_word (codes "change") text
  inode ← read_field (or_dash field_number) rest
  before ← read_field (or_dash field_rank) inode.1
  after ← read_field (or_dash field_rank) before.1
  inodes ← read_field field_number after.1
  path ← read_field field_bytes inodes.1
  Some (record { path = path.0; inode = inode.0; before = before.0; after = after.0; inodes = inodes.0 }, path.1)

-- the pin of a line
unfoldable pub read_earlier : List ℕ → Option (EarlierPin × List ℕ)
read_earlier text = do
  rest ← skip_word (codes "pin") text
  inode ← read_field (or_dash field_number) rest
  rank ← read_field field_rank inode.1
  path ← read_field field_bytes rank.1
  Some (record { path = path.0; inode = inode.0; rank = rank.0 }, path.1)

-- this many lines
abbrev pub read_many : {A : Type 0} → (List ℕ → Option (A × List ℕ)) → ℕ → List ℕ → Option (List A × List ℕ)
read_many one zero text = Some ([], text)
read_many one (suc n) text = do
  first ← one text
  more ← read_many one n first.1
  Some (first.0 ∷ more.0, more.1)

-- with these in front
abbrev pub after_those : {A : Type 0} → List A → Option (List A × List ℕ) → Option (List A × List ℕ)
after_those front read = do
  more ← read
  Some (front ++ more.0, more.1)

-- the number after a word
unfoldable pub read_count : List ℕ → List ℕ → Option (ℕ × List ℕ)
read_count word text = do
  rest ← skip_word word text
  read_field field_number rest

-- the mark of a line
unfoldable pub read_mark : List ℕ → Option (Mark × List ℕ)
read_mark text = do
  rest ← skip_word (codes "mark") text
  begun ← read_field field_number rest
  certain ← read_field field_number begun.1
  Some (record { begun = begun.0; certain = certain.0 }, certain.1)

-- what names the plan, of a line
unfoldable pub read_identity : List ℕ → Option (List ℕ × List ℕ)
read_identity text = do
  rest ← skip_word (codes "plan") text
  read_field field_bytes rest

-- the changes, with their number in front
unfoldable pub read_changes : List ℕ → Option (List PlannedChange × List ℕ)
read_changes text = do
  count ← read_count (codes "changes") text
  read_many read_change count.0 count.1

-- the earlier pins, with their number in front
unfoldable pub read_pins : List ℕ → Option (List EarlierPin × List ℕ)
read_pins text = do
  count ← read_count (codes "pins") text
  read_many read_earlier count.0 count.1

-- what follows the first line
unfoldable pub read_body : List ℕ → Option ((PlanParts × Mark) × List ℕ)
read_body text = do
  identity ← read_identity text
  mark ← read_mark identity.1
  changes ← read_changes mark.1
  pins ← read_pins changes.1
  rest ← skip_word (codes "end") pins.1
  Some ((made_plan identity.0 changes.0 pins.0, mark.0), rest)

-- what a function found in front of a text, with its value seen through view
abbrev pub found_view : {A B : Type 0} → (A → B) → Option (A × Bor (List ℕ)) → Option (B × List ℕ)
found_view view r = option_map (λ p. (view p.0, p.1.now)) r

-- what a function returned, seen through view, is what reading gives, unless memory was refused
abbrev pub FailsAs : {B : Type 0} → TextError → Option B → Type 0
FailsAs Memory read = ⊤
FailsAs (Version n) read = ⊥
FailsAs Form read = read ≡ None

-- the same of a function that returns what it found and the text after it
abbrev pub FindsAs : {A B : Type 0} → (A → B) → Result (A × Bor (List ℕ)) TextError → Option (B × List ℕ) → Type 0
FindsAs view (Ok found) read = read ≡ Some (view found.0, found.1.now)
FindsAs view (Err error) read = FailsAs error read

-- what is left after the first line, whose version is 1; or why there is none
abbrev pub HasVersion : Result (Bor (List ℕ)) TextError → Option (ℕ × List ℕ) → Type 0
HasVersion (Ok rest) read = read ≡ Some (1, rest.now)
HasVersion (Err Memory) read = ⊥
HasVersion (Err (Version n)) read = (n ≢ 1) × ((more : List ℕ) × (read ≡ Some (n, more)))
HasVersion (Err Form) read = read ≡ None

-- the error is that memory was refused
abbrev pub IsOutOfMemory : TextError → Type 0
IsOutOfMemory Memory = ⊤
IsOutOfMemory (Version n) = ⊥
IsOutOfMemory Form = ⊥
