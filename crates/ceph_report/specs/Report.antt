-- The report, byte by byte.
use Rattle.std.specs.Prelude.{◌==◌, ◌-◌, ◌++◌, ℕ, Bool, List, [], codes, length, min, nat_lt, not}
use Rattle.std.specs.Prelude.{slice_get, Option, Some, None, if◌then◌else◌}
use Rattle.mds_types.specs.RankSet.{has_rank}
use Rattle.mds_types.specs.Sums.{count_below}
use Rattle.mds_types.specs.declared.limits.TheConstants.{HEAT_LIMIT}
use Rattle.ceph_snapshot.specs.declared.directory.Directory.{Directory}
use Rattle.ceph_snapshot.specs.Holding.{heat_at}
use Rattle.ceph_snapshot.specs.Shown.{shown_path}
use Rattle.ceph_report.specs.Hours.{hours_text}
use Rattle.ceph_report.specs.Left.{left_at}
use Rattle.ceph_report.specs.Spreading.{advice_text}
use Rattle.ceph_report.specs.Staying.{is_left}
use Rattle.ceph_report.specs.Text.{columns, field, heat_text, lines_below, per_mille, per_mille_above}
use Rattle.ceph_report.specs.Text.{percent_text, place_text}
use Rattle.ceph_report.specs.Told.{heat_of_ranks, bound_term, free_heat, is_over}
use Rattle.ceph_report.specs.Told.{hottest_bound, hottest_now, hottest_planned, into_of, is_told, now_of, out_of}
use Rattle.ceph_report.specs.Told.{pinned_of, planned_of, planned_roots_of, roots_of}
use Rattle.ceph_report.specs.declared.facts.BoundTerm.{BoundTerm}
use Rattle.ceph_report.specs.declared.facts.BoundTerm.TheVariants.{Hottest, Mean, Pinned}
use Rattle.ceph_report.specs.declared.facts.Facts.{Facts}
use Rattle.ceph_report.specs.declared.moves.Move.{Move}
use Rattle.ceph_report.specs.declared.report.TheConstants.{CAVEAT, IDLE, LINES_EACH, NONE_WITHIN, NOTHING}
use Rattle.ceph_report.specs.declared.notes.TheConstants.{OVER}
use Rattle.ceph_report.specs.declared.staying.Stay.{Stay}
use Rattle.ceph_report.specs.declared.staying_text.LeftForm.TheVariants.{Line}

unfoldable pub hot_count : List Directory → ℕ
hot_count directories = count_below (length directories) (λ i. nat_lt 0 (heat_at directories i))

unfoldable pub head_line : Facts → List ℕ
head_line facts =
    field [] (length facts.directories.now) ++ field (codes " directories, ") (hot_count facts.directories.now)
    ++ field (codes " with heat of their own; mean of ") facts.samples ++ codes " samples\n\n"

-- a rank and its heat: now, as planned, and what pins of others hold there
unfoldable pub rank_heats : Facts → ℕ → List ℕ
rank_heats facts r =
    columns 4 r ++ heat_text [] (now_of facts r) ++ heat_text [] (planned_of facts r)
    ++ heat_text [] (pinned_of facts r)

-- the inodes that come to it, and those that go from it
unfoldable pub rank_inodes : Facts → ℕ → List ℕ
rank_inodes facts r = columns 12 (into_of facts r) ++ columns 12 (out_of facts r)

-- its roots of subtrees: now, and as planned
unfoldable pub rank_roots : Facts → ℕ → List ℕ
rank_roots facts r = columns 12 (roots_of facts r) ++ columns 12 (planned_roots_of facts r) ++ codes "\n"

unfoldable pub rank_row : Facts → ℕ → List ℕ
rank_row facts r = rank_heats facts r ++ rank_inodes facts r ++ rank_roots facts r

unfoldable pub told_line : Facts → ℕ → List ℕ
told_line facts r = if is_told facts r then rank_row facts r else []

unfoldable pub rank_table : Facts → List ℕ
rank_table facts =
    codes "rank         now     planned      pinned   inodes in  inodes out   roots now  roots then\n"
    ++ lines_below (told_line facts) 64

abbrev pub term_text : BoundTerm → List ℕ
term_text Mean = codes "the mean load"
term_text Hottest = codes "the hottest directory, where least is pinned"
term_text Pinned = codes "what is pinned to one rank"

-- a label, tenths of a percent, and what comes after them; nothing where there is so little heat that a ratio says
-- nothing
unfoldable pub ratio_text : Facts → List ℕ → ℕ → List ℕ → List ℕ
ratio_text facts label tenths after = if facts.is_idle then [] else percent_text label tenths ++ after

-- the hottest of all ranks now and as planned, and the heat that moves
unfoldable pub heat_lines : Facts → List ℕ
heat_lines facts =
    heat_text (codes "\nhottest rank now     ") (hottest_now facts)
    ++ heat_text (codes "\nhottest rank planned ") (hottest_planned facts)
    ++ ratio_text facts (codes ", cooler than now: ")
    (per_mille (hottest_now facts - hottest_planned facts) (hottest_now facts)) []
    ++ heat_text (codes "\nheat that moves      ") facts.sums.now.heat

-- what the hottest rank can't get below, the term that makes it, and how far the plan is above it, rounded up
unfoldable pub bound_lines : Facts → List ℕ
bound_lines facts =
    heat_text (codes "\nlower bound          ") (hottest_bound facts) ++ codes "  " ++ term_text (bound_term facts)
    ++ ratio_text facts (codes "; the plan is ")
    (per_mille_above (hottest_planned facts - hottest_bound facts) (hottest_bound facts)) (codes " above it")

-- the hottest directory that was collected: no pin divides it
unfoldable pub hottest_line : Facts → List ℕ
hottest_line facts =
    heat_text (codes "\nhottest directory    ") facts.hottest.now.heat ++ codes "  "
    ++ shown_path facts.hottest.now.path.items ++ codes "\n"

-- the line of a directory that is hotter than a fair share, with what Ceph has for it
unfoldable pub over_text : Facts → ℕ → List ℕ
over_text facts i =
    heat_text OVER.now (free_heat facts i) ++ codes "  " ++ place_text facts.directories.now i

unfoldable pub over_line : Facts → ℕ → ℕ → List ℕ
over_line facts all i = if is_over facts all i then over_text facts i else []

unfoldable pub over_lines : Facts → List ℕ
over_lines facts = lines_below (over_line facts (heat_of_ranks facts 64)) (length facts.directories.now)

unfoldable pub standing_text : ℕ → List ℕ
standing_text count = if nat_lt 0 count then field (codes ", ") count ++ codes " pins are set already" else []

-- how many parts there are, and what moves, with the inodes of directories without heat
unfoldable pub move_counts : Facts → List ℕ
move_counts facts =
    field CAVEAT.now facts.plan.now.count ++ field (codes " parts, ") facts.plan.now.moved
    ++ field (codes " inodes move (") facts.sums.now.cold ++ codes " of them without heat), "

unfoldable pub count_line : Facts → List ℕ
count_line facts =
    move_counts facts ++ field [] facts.changes ++ codes " changes of pins" ++ standing_text facts.standing
    ++ codes "\n"

-- what is known of directories without a pin
abbrev pub mode_text : Bool → List ℕ
mode_text balances =
    if balances then codes "Ceph's balancer counts as on: no directory is taken to stay where it is without a pin\n"
    else codes "Ceph's balancer is off: a directory without a pin stays where it is\n"

-- the line of a move: the inodes and the heat that a pin brings, its rank, and the directory that is pinned
unfoldable pub brought_text : List Directory → Move → List ℕ
brought_text directories one =
    columns 8 one.inodes ++ heat_text [] one.heat ++ columns 4 one.to ++ codes "  "
    ++ place_text directories one.directory

unfoldable pub brought_line : List Directory → Option Move → List ℕ
brought_line directories None = []
brought_line directories (Some one) = brought_text directories one

-- how many have no line of their own
unfoldable pub more_line : ℕ → List ℕ → List ℕ
more_line count what = if nat_lt 0 count then field (codes "and ") count ++ what else []

unfoldable pub brought_lines : List Directory → List Move → List ℕ
brought_lines directories moves =
    lines_below (λ i. brought_line directories (slice_get moves i)) (min LINES_EACH (length moves))
    ++ more_line (length moves - LINES_EACH) (codes " smaller ones\n")

unfoldable pub moves_table : List Directory → List Move → List ℕ
moves_table directories moves =
    codes "\n  inodes        heat  to  directory that is pinned\n" ++ brought_lines directories moves

unfoldable pub moves_text : List Directory → List Move → List ℕ
moves_text directories moves = if length moves == 0 then [] else moves_table directories moves

unfoldable pub folded_line : ℕ → List ℕ
folded_line count =
    if nat_lt 0 count then field (codes "\n") count ++ codes " directories were folded into their parents\n" else []

-- why a rank below max_mds can't have a part
unfoldable pub absence : Facts → ℕ → List ℕ
absence facts r =
    if not (has_rank facts.there r)
    then codes " is below max_mds and not in the file system: it gets no part\n"
    else if not (has_rank facts.active r) then codes " is not active: it gets no part\n" else []

unfoldable pub absent_line : Facts → ℕ → List ℕ
absent_line facts r = if length (absence facts r) == 0 then [] else field (codes "rank ") r ++ absence facts r

-- the ranks that get no part
unfoldable pub absent_lines : Facts → List ℕ
absent_lines facts = lines_below (absent_line facts) facts.size

unfoldable pub left_lines : List Directory → List (Option Stay) → List ℕ
left_lines directories stays =
    lines_below (left_at Line directories stays) (length stays)
    ++ more_line (count_below (length stays) (is_left stays) - LINES_EACH)
    (codes " more that are left where they are\n")

-- the line of a directory that is hotter than a plan can count
unfoldable pub capped_text : List Directory → ℕ → List ℕ
capped_text directories i =
    heat_text (codes "hotter than a plan can count, and counted as ") HEAT_LIMIT ++ codes ": "
    ++ place_text directories i

unfoldable pub capped_line : List Directory → ℕ → List ℕ
capped_line directories i = if nat_lt HEAT_LIMIT (heat_at directories i) then capped_text directories i else []

unfoldable pub capped_lines : List Directory → List ℕ
capped_lines directories = lines_below (capped_line directories) (length directories)

-- what the plan comes to, and what it moves
unfoldable pub plan_text : Facts → List ℕ
plan_text facts =
    head_line facts ++ rank_table facts ++ hours_text facts ++ heat_lines facts ++ bound_lines facts
    ++ hottest_line facts ++ count_line facts ++ mode_text facts.balances
    ++ moves_text facts.directories.now facts.moves.now

-- what was left out, or has no single rank
unfoldable pub left_out : Facts → List ℕ
left_out facts =
    folded_line facts.folded ++ over_lines facts ++ advice_text facts facts.advice ++ absent_lines facts
    ++ left_lines facts.directories.now facts.stays.now ++ capped_lines facts.directories.now

-- the last line where nothing is proposed
abbrev pub nothing_text : Facts → Bool → List ℕ
nothing_text facts is_proposed =
    if is_proposed then []
    else if facts.is_idle then IDLE.now else if facts.is_within then NOTHING.now else NONE_WITHIN.now

unfoldable pub report : Facts → Bool → List ℕ
report facts is_proposed = plan_text facts ++ left_out facts ++ nothing_text facts is_proposed
