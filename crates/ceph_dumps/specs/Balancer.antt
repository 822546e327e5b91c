-- The file that says whether Ceph's balancer is on.
use Rattle.std.specs.Prelude.{◌≡◌, ◌==◌, ◌&&◌, ◌<◌, ◌++◌, ℕ, Bool, true, false, not, List, codes, length}
use Rattle.std.specs.Prelude.{slice_index, nat_le, Option, Some, None}
use Rattle.std.specs.List.{list_any}
use Rattle.std.specs.Option.{unwrap_or}

abbrev pub is_digit : ℕ → Bool
is_digit c = nat_le 48 c && nat_le c 57

-- a number: one or more digits
pub record IsInterval (text : List ℕ) : Type 0 where
  pub some : 0 < length text
  pub digits : (i : ℕ) → i < length text → is_digit (slice_index text i) ≡ true

-- what comes after the interval: a newline, and from Ceph 18 on a line with a flag of the file system
abbrev pub flag_text : Option Bool → List ℕ
flag_text None = codes "\n"
flag_text (Some true) = codes "\nbalance_automate true\n"
flag_text (Some false) = codes "\nbalance_automate false\n"

-- an interval of 0 seconds turns the balancer off, and so does the flag
abbrev pub has_time : List ℕ → Bool
has_time interval = list_any (λ c. not (c == 48)) interval

-- the file has the seconds between two rounds of the balancer, and the flag where there is one
pub record IsBalancer (text : List ℕ) (is_on : Bool) : Type 0 where
  pub interval : List ℕ
  pub flag : Option Bool
  pub seconds : IsInterval interval
  pub is : text ≡ interval ++ flag_text flag
  pub on : is_on ≡ (unwrap_or flag true && has_time interval)
