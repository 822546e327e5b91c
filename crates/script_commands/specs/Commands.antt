-- How the lines of a script spell commands.
use Rattle.std.specs.Prelude.{ℕ, ℤ, pos, negsuc, ◌+◌, ◌*◌, ◌-◌, Bool, true, false, not, ◌&&◌, ◌||◌}
use Rattle.std.specs.Prelude.{if◌then◌else◌, ◌==◌, nat_lt, nat_le, List, [], ◌∷◌, filter, codes, Option, Some}
use Rattle.std.specs.Prelude.{None}
use Rattle.std.specs.List.{slice_split, list_all}
use Rattle.std.specs.Option.{option_and_then, option_map}
use Rattle.std.specs.Str.{bytes_eq, all_ascii_digits}
use Rattle.mds_types.specs.declared.kind.Kind.{Kind}
use Rattle.mds_types.specs.declared.kind.Kind.TheVariants.{Read, Write}
use Rattle.script_commands.specs.declared.step.NumberedStep.{NumberedStep}
use Rattle.script_commands.specs.declared.step.NumberedStep.TheVariants.{Deliver, Froze, Notify, Abort, Ask, End}

-- a space, a tab or a carriage return
abbrev pub is_blank : ℕ → Bool
is_blank b = (b == 32) || ((b == 9) || (b == 13))

-- a byte that a line other than a comment may hold
abbrev pub is_plain : ℕ → Bool
is_plain b = is_blank b || (nat_lt 32 b && nat_lt b 127)

abbrev pub is_empty : List ℕ → Bool
is_empty [] = true
is_empty (b ∷ bytes) = false

-- the parts between blanks that aren't empty
abbrev pub fields : List ℕ → List (List ℕ)
fields line = filter (λ part. not (is_empty part)) (slice_split is_blank line)

-- without fields, or a comment
abbrev pub is_skipped : List (List ℕ) → Bool
is_skipped [] = true
is_skipped ([] ∷ more) = false
is_skipped ((b ∷ bytes) ∷ more) = b == 35

-- the number that digits spell after the ones that spell n
abbrev pub value_from : ℕ → List ℕ → ℕ
value_from n [] = n
value_from n (b ∷ digits) = value_from (10 * n + (b - 48)) digits

-- the number of a field of digits, from low to high
abbrev pub number : ℕ → ℕ → List ℕ → Option ℕ
number low high field =
    if not (is_empty field)
    && (all_ascii_digits field && (nat_le low (value_from 0 field) && nat_le (value_from 0 field) high))
    then Some (value_from 0 field) else None

-- the value of an export pin, with -1 for none
abbrev pub pin_value : List ℕ → Option ℤ
pin_value field =
    if bytes_eq field (codes "-1") then Some (negsuc 0) else option_map (λ n. pos n) (number 0 2147483647 field)

-- a path or a mask is given by its bytes
pub data Command : Type 0 where
  Ranks : ℕ → Command
  Mask : List ℕ → Command
  MakeDir : List ℕ → ℕ → Command
  RemoveDir : List ℕ → Command
  Pin : List ℕ → ℤ → Command
  Load : List ℕ → ℕ → Kind → Command
  Weight : ℕ → ℕ → Command
  Go : Command
  Tick : Command
  Cost : List (List ℕ) → Command
  Plan : Command
  Move : Command
  Traffic : Command
  Stop : ℕ → Command
  Restart : ℕ → Command
  Fail : ℕ → ℕ → Command
  Stat : Command
  Start : ℕ → ℕ → List (List ℕ) → Command
  Begin : ℕ → List ℕ → Command
  Step : NumberedStep → Command
  Export : ℕ → Command
  Journal : ℕ → Command

-- what a word and the fields after it spell
abbrev pub ranks : List (List ℕ) → Option Command
ranks (n ∷ []) = option_map Ranks (number 1 64 n)
ranks fields = None

abbrev pub mask : List (List ℕ) → Option Command
mask (text ∷ []) = Some (Mask text)
mask fields = None

abbrev pub make_dir : List (List ℕ) → Option Command
make_dir (path ∷ n ∷ []) = option_map (MakeDir path) (number 0 4294967295 n)
make_dir fields = None

abbrev pub remove_dir : List (List ℕ) → Option Command
remove_dir (path ∷ []) = Some (RemoveDir path)
remove_dir fields = None

abbrev pub pin : List (List ℕ) → Option Command
pin (path ∷ value ∷ []) = option_map (Pin path) (pin_value value)
pin fields = None

-- the kind that a field names
abbrev pub kind_named : List ℕ → Option Kind
kind_named field =
    if bytes_eq field (codes "r") then Some Read else if bytes_eq field (codes "w") then Some Write else None

-- the kind of hits by the fields after their number; where it is left out, they are reads
abbrev pub kind_of : List (List ℕ) → Option Kind
kind_of [] = Some Read
kind_of (field ∷ []) = kind_named field
kind_of fields = None

abbrev pub load : List (List ℕ) → Option Command
load (path ∷ n ∷ rest) =
    option_and_then (λ hits. option_map (Load path hits) (kind_of rest)) (number 1 1000000 n)
load fields = None

abbrev pub weight : List (List ℕ) → Option Command
weight (read ∷ write ∷ []) =
    option_and_then (λ r. option_map (Weight r) (number 0 255 write)) (number 0 255 read)
weight fields = None

-- the number of a rank
abbrev pub rank_of : List ℕ → Option ℕ
rank_of field = number 0 63 field

abbrev pub stop : List (List ℕ) → Option Command
stop (n ∷ []) = option_map Stop (rank_of n)
stop fields = None

abbrev pub restart : List (List ℕ) → Option Command
restart (n ∷ []) = option_map Restart (rank_of n)
restart fields = None

-- a rank that stops before this round of the next phase of exports
abbrev pub fail : List (List ℕ) → Option Command
fail (n ∷ round ∷ []) = option_and_then (λ rank. option_map (Fail rank) (number 1 8 round)) (rank_of n)
fail fields = None

-- the exporter and the importer that fields name first, and the fields after them
abbrev pub named_way : List (List ℕ) → Option (ℕ × ℕ × List (List ℕ))
named_way (from ∷ to ∷ rest) =
    option_and_then (λ exporter. option_map (λ importer. (exporter, importer, rest)) (rank_of to)) (rank_of from)
named_way fields = None

-- an export between two ranks, of the directories that the fields after them name
abbrev pub start : List (List ℕ) → Option Command
start fields = option_map (λ way. Start way.0 way.1 way.2) (named_way fields)

-- a request at a rank, on the directory that a path names
abbrev pub begin_request : List (List ℕ) → Option Command
begin_request (n ∷ path ∷ []) = option_map (λ rank. Begin rank path) (rank_of n)
begin_request fields = None

-- the number of a message, an export or a ticket, where it is the one field
abbrev pub its_number : List (List ℕ) → Option ℕ
its_number (n ∷ []) = number 0 4294967295 n
its_number fields = None

abbrev pub step_of_number : (ℕ → NumberedStep) → List (List ℕ) → Option Command
step_of_number step fields = option_map (λ n. Step (step n)) (its_number fields)

-- an export to look at
abbrev pub export : List (List ℕ) → Option Command
export fields = option_map Export (its_number fields)

-- the journal of a rank
abbrev pub journal : List (List ℕ) → Option Command
journal (n ∷ []) = option_map Journal (rank_of n)
journal fields = None

-- what exports have left, to look at
abbrev pub look : List ℕ → List (List ℕ) → Option Command
look word rest =
    if bytes_eq word (codes "export") then export rest
    else if bytes_eq word (codes "journal") then journal rest
    else None

-- a step of exports, or of a request, that isn't the start of an export, or a look at what they have left
abbrev pub further_step : List ℕ → List (List ℕ) → Option Command
further_step word rest =
    if bytes_eq word (codes "deliver") then step_of_number Deliver rest
    else if bytes_eq word (codes "froze") then step_of_number Froze rest
    else if bytes_eq word (codes "notify") then step_of_number Notify rest
    else if bytes_eq word (codes "abort") then step_of_number Abort rest
    else if bytes_eq word (codes "ask") then step_of_number Ask rest
    else if bytes_eq word (codes "begin") then begin_request rest
    else if bytes_eq word (codes "end") then step_of_number End rest
    else look word rest

-- a command that has no fields after its word
abbrev pub alone : Command → List (List ℕ) → Option Command
alone c [] = Some c
alone c fields = None

abbrev pub command : List (List ℕ) → Option Command
command [] = None
command (word ∷ rest) =
    if bytes_eq word (codes "ranks") then ranks rest
    else if bytes_eq word (codes "mask") then mask rest
    else if bytes_eq word (codes "dir") then make_dir rest
    else if bytes_eq word (codes "rmdir") then remove_dir rest
    else if bytes_eq word (codes "pin") then pin rest
    else if bytes_eq word (codes "load") then load rest
    else if bytes_eq word (codes "weight") then weight rest
    else if bytes_eq word (codes "go") then alone Go rest
    else if bytes_eq word (codes "tick") then alone Tick rest
    else if bytes_eq word (codes "cost") then Some (Cost rest)
    else if bytes_eq word (codes "plan") then alone Plan rest
    else if bytes_eq word (codes "move") then alone Move rest
    else if bytes_eq word (codes "traffic") then alone Traffic rest
    else if bytes_eq word (codes "stop") then stop rest
    else if bytes_eq word (codes "restart") then restart rest
    else if bytes_eq word (codes "fail") then fail rest
    else if bytes_eq word (codes "stat") then alone Stat rest
    else if bytes_eq word (codes "start") then start rest
    else further_step word rest

-- whether a line is one of the two that have a list of paths, for which memory is needed
abbrev pub keeps_paths : List (List ℕ) → Bool
keeps_paths [] = false
keeps_paths (word ∷ rest) = bytes_eq word (codes "cost") || bytes_eq word (codes "start")

-- what a line asks for
pub data Asked : Type 0 where
  Nothing : Asked
  Syntax : Asked
  Asks : Command → Asked

abbrev pub asked_by : Option Command → Asked
asked_by None = Syntax
asked_by (Some c) = Asks c

abbrev pub asked : List ℕ → Asked
asked line =
    if is_skipped (fields line) then Nothing else if list_all is_plain line then asked_by (command (fields line))
    else Syntax
