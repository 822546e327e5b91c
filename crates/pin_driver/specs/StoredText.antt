-- The text that is stored of a plan: lines of fields in printable ASCII.
use Rattle.std.specs.Prelude.{ℕ, ◌+◌, ◌/◌, ◌%◌, ◌==◌, ◌<◌, ◌^◌, Bool, not, ◌&&◌, nat_lt, List, [], ◌∷◌, ◌++◌, length}
use Rattle.std.specs.Prelude.{codes, decimal, All}
use Rattle.std.specs.Prelude.{Option, Some, None, IfSome, if◌then◌else◌}
use Rattle.std.specs.List.{flat_map}
use Rattle.pin_driver.specs.PinPlan.{PlanParts}
use Rattle.pin_driver.specs.declared.plan.EarlierPin.{EarlierPin}
use Rattle.pin_driver.specs.declared.plan.PlannedChange.{PlannedChange}
use Rattle.pin_driver.specs.declared.question.Mark.{Mark}

-- a field that others follow in its line
abbrev pub field_text : List ℕ → List ℕ
field_text bytes = bytes ++ 32 ∷ []

-- the last field of a line
abbrev pub last_text : List ℕ → List ℕ
last_text bytes = bytes ++ 10 ∷ []

-- a byte that is written as it is: printable ASCII, no blank and no backslash
abbrev pub is_kept : ℕ → Bool
is_kept c = nat_lt 32 c && (nat_lt c 127 && not (c == 92))

-- any other byte is a backslash and three octal digits
abbrev pub kept_byte : ℕ → List ℕ
kept_byte c = if is_kept c then c ∷ [] else 92 ∷ (48 + c / 64) ∷ (48 + c / 8 % 8) ∷ (48 + c % 8) ∷ []

-- bytes, one after another
abbrev pub kept_bytes : List ℕ → List ℕ
kept_bytes bytes = flat_map kept_byte bytes

-- a number that may be unknown
abbrev pub number_or_dash : Option ℕ → List ℕ
number_or_dash None = codes "-"
number_or_dash (Some n) = decimal n

-- the line of a change: inode number, pin before and after, inodes, path
abbrev pub change_text : PlannedChange → List ℕ
change_text change =
    field_text (codes "change") ++ field_text (number_or_dash change.inode)
    ++ field_text (number_or_dash change.before) ++ field_text (number_or_dash change.after)
    ++ field_text (decimal change.inodes) ++ last_text (kept_bytes change.path)

-- the line of an earlier pin: inode number, rank, path
abbrev pub earlier_text : EarlierPin → List ℕ
earlier_text pin =
    field_text (codes "pin") ++ field_text (number_or_dash pin.inode) ++ field_text (decimal pin.rank)
    ++ last_text (kept_bytes pin.path)

-- a word, and a number
abbrev pub count_text : List ℕ → ℕ → List ℕ
count_text word n = field_text word ++ last_text (decimal n)

-- the line of a mark
abbrev pub mark_text : Mark → List ℕ
mark_text mark = field_text (codes "mark") ++ field_text (decimal mark.begun) ++ last_text (decimal mark.certain)

-- the first line, with the version of the text
unfoldable pub version_text : ℕ → List ℕ
version_text version = count_text (codes "mdbal_pins") version

-- what follows the first line
unfoldable pub body_text : PlanParts → Mark → List ℕ
body_text plan mark =
    field_text (codes "plan") ++ last_text (kept_bytes plan.identity) ++ mark_text mark
    ++ count_text (codes "changes") (length plan.changes) ++ flat_map change_text plan.changes
    ++ count_text (codes "pins") (length plan.earlier) ++ flat_map earlier_text plan.earlier ++ last_text (codes "end")

-- the text of a plan with this mark
unfoldable pub stored_text : PlanParts → Mark → List ℕ
stored_text plan mark = version_text 1 ++ body_text plan mark

-- each number is a byte
abbrev pub AreBytes : List ℕ → Type 0
AreBytes bytes = All (λ c. c < 256) bytes

-- what the types of a change allow
pub record FitsChange (change : PlannedChange) : Type 0 where
  pub path : AreBytes change.path
  pub inode : IfSome change.inode (λ n. n < 2 ^ 64)
  pub before : IfSome change.before (λ n. n < 64)
  pub after : IfSome change.after (λ n. n < 64)
  pub inodes : change.inodes < 2 ^ 64

-- what the types of an earlier pin allow
pub record FitsEarlier (pin : EarlierPin) : Type 0 where
  pub path : AreBytes pin.path
  pub inode : IfSome pin.inode (λ n. n < 2 ^ 64)
  pub rank : pin.rank < 64

-- what the types of a plan and of its mark allow
pub record FitsText (plan : PlanParts) (mark : Mark) : Type 0 where
  pub identity : AreBytes plan.identity
  pub changes : All FitsChange plan.changes
  pub change_count : length plan.changes < 2 ^ 64
  pub earlier : All FitsEarlier plan.earlier
  pub earlier_count : length plan.earlier < 2 ^ 64
  pub begun : mark.begun < 2 ^ 64
  pub certain : mark.certain < 2 ^ 64
