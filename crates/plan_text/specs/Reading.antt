-- What a text is read as: the parser on lists of bytes. `read` promises more than that it does these steps:
-- see its clauses.
use Rattle.std.specs.Prelude.{◌≡◌, ⊤, ℕ, zero, suc, ◌-◌, ◌^◌, ◌==◌, nat_lt, nat_le, Bool, true, false, if◌then◌else◌}
use Rattle.std.specs.Prelude.{List, [], ◌∷◌, ◌++◌, length, codes, Option, Some, None, Result, Ok, Err, ℤ}
use Rattle.std.specs.Prelude.{option_and_then}
use Rattle.std.specs.Borrow.{Bor}
use Rattle.std.specs.List.{after_first, before_first}
use Rattle.std.specs.Str.{bytes_eq}
use Rattle.mds_types.specs.declared.cut_proof.CutProof.{CutProof}
use Rattle.mds_types.specs.declared.cut_proof.CutProof.TheVariants.{Zero, Heavy, Table}
use Rattle.mds_types.specs.declared.cut_proof.Row.{Row}
use Rattle.mds_types.specs.declared.problem.ProblemRow.{ProblemRow}
use Rattle.mds_types.specs.DualProof.{DualData}
use Rattle.mds_types.specs.Plan.{PlanData}
use Rattle.plan_text.specs.declared.parser.Fault.{Fault}
use Rattle.plan_text.specs.declared.parser.Fault.TheVariants.{Memory, Expected}
use Rattle.plan_text.specs.Fields.{Read, ends_field, mask_in, name_in, number_in, signed_in, read_value, behind_word}

infixl 10 ◌>>=◌
abbrev ◌>>=◌ : {A B : Type 0} → Option A → (A → Option B) → Option B
o >>= f = option_and_then f o

-- a number of at most `bits` bits
abbrev pub read_number : ℕ → List ℕ → Read ℕ
read_number bits text = read_value (number_in (2 ^ bits - 1)) text

unfoldable pub read_row : List ℕ → Read ProblemRow
read_row text = do
  rest ← behind_word (codes "row") text
  parent ← read_number 32 rest
  heat ← read_number 64 parent.1
  inodes ← read_number 32 heat.1
  now ← read_number 6 inodes.1
  Some (record { parent = parent.0; heat = heat.0; inodes = inodes.0; now = now.0 }, now.1)

unfoldable pub read_label : List ℕ → Read ℕ
read_label text = do
  rest ← behind_word (codes "part") text
  read_number 32 rest

unfoldable pub read_rank : List ℕ → Read ℕ
read_rank text = do
  rest ← behind_word (codes "rank") text
  read_number 6 rest

unfoldable pub read_cell : List ℕ → Read Row
read_cell text = do
  word ← behind_word (codes "cell") text
  cuts ← read_number 32 word
  rest ← read_number 64 cuts.1
  price ← read_number 64 rest.1
  cut ← read_number 1 price.1
  Some (record { rest = rest.0; price = price.0; cuts = cuts.0; cut = cut.0 == 1 }, cut.1)

unfoldable pub read_price : List ℕ → Read ℤ
read_price text = do
  rest ← behind_word (codes "price") text
  read_value signed_in rest

-- this many lines
abbrev pub read_lines : {A : Type 0} → (List ℕ → Read A) → ℕ → List ℕ → Read (List A)
read_lines one zero text = Some ([], text)
read_lines one (suc n) text = do
  first ← one text
  more ← read_lines one n first.1
  Some (first.0 ∷ more.0, more.1)

-- with these in front
abbrev pub with_front : {A : Type 0} → List A → Read (List A) → Read (List A)
with_front front read = do
  more ← read
  Some (front ++ more.0, more.1)

-- the number after a word
unfoldable pub read_counted : List ℕ → List ℕ → Read ℕ
read_counted name text = do
  rest ← behind_word name text
  read_number 64 rest

-- a list, with its name and length in front
unfoldable pub read_table : {A : Type 0} → List ℕ → (List ℕ → Read A) → List ℕ → Read (List A)
read_table name one text = do
  count ← read_counted name text
  read_lines one count.0 count.1

unfoldable pub read_mask : List ℕ → Read ℕ
read_mask text = do
  rest ← behind_word (codes "mask") text
  read_value mask_in rest

-- the ranks of the parts, at most 64
unfoldable pub read_ranks : List ℕ → Read (List ℕ)
read_ranks text = do
  ranks ← read_table (codes "ranks") read_rank text
  if nat_le (length ranks.0) 64 then Some ranks else None

unfoldable pub read_heavy : List ℕ → Read CutProof
read_heavy text = do
  row ← read_number 32 text
  Some (Heavy row.0, row.1)

unfoldable pub read_cells : List ℕ → Read CutProof
read_cells text = do
  rows ← read_table (codes "cells") read_cell text
  Some (Table rows.0, rows.1)

-- the proof of a kind
unfoldable pub cut_of : List ℕ → List ℕ → Read CutProof
cut_of kind rest =
    if bytes_eq kind (codes "zero") then Some (Zero, rest)
    else if bytes_eq kind (codes "heavy") then read_heavy rest
    else if bytes_eq kind (codes "table") then read_cells rest
    else None

unfoldable pub read_cut : List ℕ → Read CutProof
read_cut text = do
  rest ← behind_word (codes "cut") text
  cut_of (before_first ends_field rest) (after_first ends_field rest)

unfoldable pub read_dual : List ℕ → Read DualData
read_dual text = do
  parts ← read_table (codes "part_prices") read_price text
  ranks ← read_table (codes "rank_prices") read_price parts.1
  Some (record { part_price = parts.0; rank_price = ranks.0 }, ranks.1)

unfoldable pub read_plan : List ℕ → Read PlanData
read_plan text = do
  part ← read_table (codes "parts") read_label text
  rank ← read_ranks part.1
  greatest ← read_counted (codes "greatest") rank.1
  moved ← read_counted (codes "moved") greatest.1
  cut ← read_cut moved.1
  dual ← read_dual cut.1
  Some (
    record { part = part.0; rank = rank.0; greatest = greatest.0; moved = moved.0; cut = cut.0; dual = dual.0 },
    dual.1,
  )

-- whether a certificate of a version has names
unfoldable pub version_of : List ℕ → List ℕ → Read Bool
version_of version rest =
    if bytes_eq version (codes "1") then Some (false, rest)
    else if bytes_eq version (codes "2") then Some (true, rest)
    else None

-- the first line of a certificate: whether it has names
unfoldable pub read_first : List ℕ → Read Bool
read_first text = do
  rest ← behind_word (codes "certificate") text
  version_of (before_first ends_field rest) (after_first ends_field rest)

unfoldable pub read_name : List ℕ → Read (List ℕ)
read_name text = do
  rest ← behind_word (codes "name") text
  read_value name_in rest

-- the names of this many rows, where a certificate has them
unfoldable pub read_names : Bool → ℕ → List ℕ → Read (Option (List (List ℕ)))
read_names false rows text = Some (None, text)
read_names true rows text = do
  names ← read_lines read_name rows text
  Some (Some names.0, names.1)

-- the last line, with the byte that ends it
unfoldable pub read_end : List ℕ → Option (List ℕ)
read_end text = if nat_lt 3 (length text) then behind_word (codes "end") text else None

-- what a function returned, seen through view, is what reading gives, unless memory was refused
abbrev pub Fails : {B : Type 0} → Fault → Option B → Type 0
Fails Memory read = ⊤
Fails (Expected left expected) read = read ≡ None

abbrev pub Reads : {A B : Type 0} → (A → B) → Result (A × Bor (List ℕ)) Fault → Read B → Type 0
Reads view (Ok found) read = read ≡ Some (view found.0, found.1.now)
Reads view (Err fault) read = Fails fault read

-- the fault is that memory was refused
abbrev pub IsMemory : Fault → Type 0
IsMemory Memory = ⊤
IsMemory (Expected left expected) = ⊥

abbrev pub Returns : {A : Type 0} → Result (A × Bor (List ℕ)) Fault → A → List ℕ → Type 0
Returns (Ok found) x more = (found.0 ≡ x) × (found.1.now ≡ more)
Returns (Err fault) x more = IsMemory fault
