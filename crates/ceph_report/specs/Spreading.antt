-- What Ceph's policy of distributed pins would give, byte by byte.
use Rattle.std.specs.Prelude.{◌==◌, ◌*◌, ◌/◌, ◌%◌, ◌++◌, ℕ, Bool, List, [], Option, Some, None, codes, min}
use Rattle.std.specs.Prelude.{nat_le, if◌then◌else◌}
use Rattle.std.specs.Borrow.{Bor}
use Rattle.mds_types.specs.RankSet.{rank_count}
use Rattle.ceph_pins.specs.declared.spread.Advice.{Advice}
use Rattle.ceph_snapshot.specs.Holding.{most_heat}
use Rattle.ceph_snapshot.specs.Shown.{shown_path}
use Rattle.ceph_report.specs.Text.{field, path_value}
use Rattle.ceph_report.specs.Told.{heat_of_ranks, hottest, hottest_planned}
use Rattle.ceph_report.specs.declared.facts.Facts.{Facts}

-- how many times a fair share of all this heat for each of these ranks a heat is, in hundredths
unfoldable pub fair_shares : ℕ → ℕ → ℕ → ℕ
fair_shares heat ranks all = if all == 0 then 0 else min most_heat (heat * ranks * 100 / all)

-- a label, and hundredths with two digits after the point
unfoldable pub hundredths_text : List ℕ → ℕ → List ℕ
hundredths_text label number =
    field label (number / 100) ++ field (codes ".") (number % 100 / 10) ++ field [] (number % 10)

-- how many hot children a directory has, and what percentage of all heat
unfoldable pub children_text : Advice → ℕ → List ℕ
children_text advice all =
    shown_path advice.path.items ++ field (codes ": ") advice.children
    ++ field (codes " children with ") (fair_shares advice.heat 1 all) ++ codes " % of the heat"

-- how many times the mean of these ranks the hottest of them would have
abbrev pub spread_share : Advice → ℕ → ℕ
spread_share advice ranks = fair_shares (hottest advice.spread.items) ranks advice.heat

-- and as planned, of the ranks that may have a part
abbrev pub planned_share : Facts → ℕ
planned_share facts = fair_shares (hottest_planned facts) (rank_count facts.ranks) (heat_of_ranks facts 64)

-- over how many ranks the policy would spread it, and how many times their mean the hottest of them would have
unfoldable pub spread_text : Advice → ℕ → List ℕ
spread_text advice ranks =
    field (codes "; ceph.dir.pin.distributed would spread it over ") ranks
    ++ hundredths_text (codes " ranks, the hottest at ") (spread_share advice ranks)

unfoldable pub advice_line : Facts → Advice → List ℕ
advice_line facts advice =
    children_text advice (heat_of_ranks facts 64) ++ spread_text advice facts.size
    ++ hundredths_text (codes " of the mean (the plan: ") (planned_share facts) ++ codes ")\n"

-- the policy comes near the plan: to at most a tenth above it
abbrev pub is_near : ℕ → ℕ → Bool
is_near spread planned = nat_le (spread * 10) (planned * 11)

-- the line of a policy that comes near the plan, or is better
unfoldable pub near_line : Facts → Advice → List ℕ
near_line facts advice =
    if is_near (spread_share advice facts.size) (planned_share facts) then advice_line facts advice else []

unfoldable pub advice_text : Facts → Option (Bor Advice) → List ℕ
advice_text facts None = []
advice_text facts (Some advice) = near_line facts advice.now

unfoldable pub advice_object : Advice → ℕ → List ℕ
advice_object advice ranks =
    codes ",\n\"distributed\":{\"path" ++ path_value advice.path.items
    ++ field (codes ",\"children\":") advice.children ++ field (codes ",\"heat\":") advice.heat
    ++ field (codes ",\"hottest\":") (hottest advice.spread.items) ++ field (codes ",\"ranks\":") ranks ++ codes "}"

unfoldable pub advice_member : ℕ → Option (Bor Advice) → List ℕ
advice_member ranks None = codes ",\n\"distributed\":null"
advice_member ranks (Some advice) = advice_object advice.now ranks
