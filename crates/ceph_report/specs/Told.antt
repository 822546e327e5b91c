-- What is reported of a plan.
use Rattle.std.specs.Prelude.{◌≡◌, ◌==◌, ◌||◌, ◌+◌, ◌*◌, ℕ, zero, suc, Bool, List, length, max, min}
use Rattle.std.specs.Prelude.{nat_le, nat_lt, slice_index, if◌then◌else◌}
use Rattle.mds_types.specs.RankSet.{has_rank, rank_count}
use Rattle.mds_types.specs.Sums.{max_below, sum_below}
use Rattle.ceph_pins.specs.PinsScript.{path_at}
use Rattle.ceph_snapshot.specs.declared.directory.Directory.{Directory}
use Rattle.ceph_snapshot.specs.Holding.{heat_at, held_at, most_heat}
use Rattle.ceph_snapshot.specs.Rows.{is_free}
use Rattle.ceph_report.specs.declared.facts.BoundTerm.{BoundTerm}
use Rattle.ceph_report.specs.declared.facts.BoundTerm.TheVariants.{Hottest, Mean, Pinned}
use Rattle.ceph_report.specs.declared.facts.Facts.{Facts}
use Rattle.ceph_report.specs.declared.facts.HottestDirectory.{HottestDirectory}

-- the heat at rank r, and the inodes that come to it and go from it
abbrev pub now_of : Facts → ℕ → ℕ
now_of facts r = slice_index facts.sums.now.now.items r

abbrev pub planned_of : Facts → ℕ → ℕ
planned_of facts r = slice_index facts.planned.now r

abbrev pub pinned_of : Facts → ℕ → ℕ
pinned_of facts r = slice_index facts.pinned.now r

abbrev pub into_of : Facts → ℕ → ℕ
into_of facts r = slice_index facts.sums.now.into.items r

abbrev pub out_of : Facts → ℕ → ℕ
out_of facts r = slice_index facts.sums.now.out.items r

-- and how many roots of subtrees it has now and as planned
abbrev pub roots_of : Facts → ℕ → ℕ
roots_of facts r = slice_index facts.roots.now.now.items r

abbrev pub planned_roots_of : Facts → ℕ → ℕ
planned_roots_of facts r = slice_index facts.roots.now.planned.items r

-- a rank is reported if it may have a part, or something is there now
abbrev pub is_told : Facts → ℕ → Bool
is_told facts r = nat_lt 0 (now_of facts r) || has_rank facts.ranks r

-- the heat of the hottest of all ranks
abbrev pub hottest : List ℕ → ℕ
hottest heats = max_below (length heats) (slice_index heats)

abbrev pub hottest_now : Facts → ℕ
hottest_now facts = hottest facts.sums.now.now.items

abbrev pub hottest_planned : Facts → ℕ
hottest_planned facts = hottest facts.planned.now

-- what the hottest of all ranks can't get below: the bound of the plan's ranks, and the most that is pinned to a rank
abbrev pub hottest_bound : Facts → ℕ
hottest_bound facts = max facts.bound (hottest facts.pinned.now)

-- the heat of a directory that is planned, and none of one that is held
abbrev pub free_heat : Facts → ℕ → ℕ
free_heat facts i = if is_free (held_at facts.holds.now i) then heat_at facts.directories.now i else 0

-- the first number below n with the largest f
abbrev pub top_below : (ℕ → ℕ) → ℕ → ℕ
top_below f zero = 0
top_below f (suc n) = if nat_lt (f (top_below f n)) (f n) then n else top_below f n

-- the place of the hottest of directories that have these heats, and that directory
abbrev pub hottest_place : List ℕ → ℕ
hottest_place heats = top_below (slice_index heats) (length heats)

pub record IsHottest (directories : List Directory) (heats : List ℕ) (hottest : HottestDirectory) : Type 0 where
  pub heat : hottest.heat ≡ slice_index heats (hottest_place heats)
  pub path : hottest.path.items ≡ path_at directories (hottest_place heats)

-- the heat at the ranks below n
abbrev pub heat_of_ranks : Facts → ℕ → ℕ
heat_of_ranks facts n = sum_below n (now_of facts)

-- a directory that is planned is hotter than a fair share of all this heat for each rank
abbrev pub is_over : Facts → ℕ → ℕ → Bool
is_over facts all i = nat_lt all (free_heat facts i * rank_count facts.ranks)

-- of the ranks below n that may have a part, the least that is pinned to one
abbrev pub least_pinned : Facts → ℕ → ℕ
least_pinned facts zero = most_heat
least_pinned facts (suc n) =
    if has_rank facts.ranks n then min (pinned_of facts n) (least_pinned facts n) else least_pinned facts n

-- the heat of the hottest directory that was collected, with the least that is pinned to a rank
unfoldable pub single_load : Facts → ℕ
single_load facts = min most_heat (facts.hottest.now.heat + least_pinned facts 64)

-- the term that makes the bound: what is pinned to one rank or the hottest directory, where that comes to the bound,
-- otherwise the mean load
unfoldable pub bound_term : Facts → BoundTerm
bound_term facts =
    if nat_le (hottest_bound facts) (hottest facts.pinned.now) then Pinned
    else if hottest_bound facts == single_load facts then Hottest else Mean
