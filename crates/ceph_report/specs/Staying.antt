-- Which directories are left where they are, and why.
use Rattle.std.specs.Prelude.{◌≡◌, ◌==◌, ◌&&◌, ◌<◌, ℕ, Bool, is_some, not, List, [], codes, length, min, nat_lt}
use Rattle.std.specs.Prelude.{◌++◌, slice_index, slice_index_or, Option, Some, None, if◌then◌else◌}
use Rattle.mds_types.specs.Sums.{sum_below}
use Rattle.ceph_snapshot.specs.declared.directory.Directory.{Directory}
use Rattle.ceph_snapshot.specs.Holding.{is_spread_at, most_heat, parent_at}
use Rattle.ceph_snapshot.specs.Policies.{Distributed, EphemeralPin, Random, Unknown, idle_at, is_doubtful_at, policy_at}
use Rattle.ceph_report.specs.Moves.{AreLeaders}
use Rattle.ceph_report.specs.Text.{field}
use Rattle.ceph_report.specs.declared.staying.Reason.{Reason}
use Rattle.ceph_report.specs.declared.staying.Reason.TheVariants.{Absent, Doubtful, Policy, Spread}
use Rattle.ceph_report.specs.declared.staying.Stay.{Stay}

abbrev pub has_policy_at : List Directory → ℕ → Bool
has_policy_at directories i = is_some (policy_at directories i)

-- directory i is at several ranks, or Ceph pinned it by a policy that isn't known; its parent doesn't, and it isn't
-- below a policy
abbrev pub is_parted_at : List Directory → List ℕ → ℕ → Bool
is_parted_at directories leaders i =
    is_spread_at directories i && not (has_policy_at directories (slice_index leaders i))
    && not (is_spread_at directories (parent_at directories i))

-- how many of the first n directories are below directory i, down to the next ones with a policy
abbrev pub follows : List ℕ → ℕ → ℕ
follows leaders j = if slice_index leaders j == j then 0 else 1

abbrev pub followers : List ℕ → ℕ → ℕ → ℕ
followers leaders n i = sum_below n (λ j. if slice_index leaders j == i then follows leaders j else 0)

-- a directory with a policy is left with what is below it, and one that others decide about otherwise without
abbrev pub stay_of : Option EphemeralPin → Bool → Bool → Bool → ℕ → Option Stay
stay_of (Some policy) absent doubtful torn below = Some (record { why = Policy policy; below = below })
stay_of None absent doubtful torn below =
    if absent then Some (record { why = Absent; below = 0 })
    else if doubtful then Some (record { why = Doubtful; below = 0 })
    else if torn then Some (record { why = Spread; below = 0 }) else None

abbrev pub stay_at : List Directory → List ℕ → ℕ → Option Stay
stay_at directories leaders i =
    stay_of (policy_at directories i) (is_some (idle_at directories i)) (is_doubtful_at directories i)
    (is_parted_at directories leaders i)
    (min most_heat (followers leaders (length leaders) i))

-- of each directory whether it is left where it is, where the nearest policy at or above a directory leads it
pub record AreStays (directories : List Directory) (stays : List (Option Stay)) : Type 0 where
  pub leaders : List ℕ
  pub led : AreLeaders (parent_at directories) (has_policy_at directories) (length directories) leaders
  pub size : length stays ≡ length directories
  pub at : (i : ℕ) → i < length directories → slice_index_or stays i None ≡ stay_at directories leaders i

abbrev pub is_left : List (Option Stay) → ℕ → Bool
is_left stays i = is_some (slice_index_or stays i None)

-- why, in words
abbrev pub reason_text : Reason → List ℕ
reason_text (Policy Distributed) = codes ", its children spread by its distributed policy"
reason_text (Policy Random) = codes ", held by its random policy"
reason_text (Policy Unknown) = codes ", pinned by Ceph itself"
reason_text Absent = codes ", pinned by others to a rank that is not there"
reason_text Doubtful = codes ", another directory over the mount, or none, by its inode number"
reason_text Spread = codes ", at several ranks or pinned by Ceph itself"

unfoldable pub below_text : ℕ → List ℕ
below_text below = if nat_lt 0 below then field (codes " with ") below ++ codes " directories below" else []

unfoldable pub stay_text : Stay → List ℕ
stay_text stay = codes "left where it is" ++ below_text stay.below ++ reason_text stay.why
