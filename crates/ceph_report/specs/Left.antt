-- How the directories that are left where they are are written, in the report and as JSON.
use Rattle.std.specs.Prelude.{◌++◌, ℕ, List, [], Option, Some, None, codes, nat_lt, slice_index_or, if◌then◌else◌}
use Rattle.mds_types.specs.Sums.{count_below}
use Rattle.ceph_pins.specs.PinsScript.{path_at}
use Rattle.ceph_snapshot.specs.Policies.{Distributed, Random, Unknown}
use Rattle.ceph_snapshot.specs.declared.directory.Directory.{Directory}
use Rattle.ceph_report.specs.Staying.{is_left, stay_text}
use Rattle.ceph_report.specs.Text.{comma, field, path_value, place_text}
use Rattle.ceph_report.specs.declared.report.TheConstants.{LINES_EACH}
use Rattle.ceph_report.specs.declared.staying.Reason.{Reason}
use Rattle.ceph_report.specs.declared.staying.Reason.TheVariants.{Absent, Doubtful, Policy, Spread}
use Rattle.ceph_report.specs.declared.staying.Stay.{Stay}
use Rattle.ceph_report.specs.declared.staying_text.LeftForm.{LeftForm}
use Rattle.ceph_report.specs.declared.staying_text.LeftForm.TheVariants.{Line, Member}

-- the line of one
unfoldable pub left_line : List Directory → Stay → ℕ → List ℕ
left_line directories stay i = stay_text stay ++ codes ": " ++ place_text directories i

-- the member of one, with how many are left with it
abbrev pub reason_name : Reason → List ℕ
reason_name (Policy Distributed) = codes "distributed"
reason_name (Policy Random) = codes "random"
reason_name (Policy Unknown) = codes "ephemeral"
reason_name Absent = codes "absent_rank"
reason_name Doubtful = codes "inode_number"
reason_name Spread = codes "several_ranks"

unfoldable pub left_object : List Directory → Stay → ℕ → List ℕ
left_object directories stay i =
    codes "\n  {\"path" ++ path_value (path_at directories i) ++ codes ",\"why\":\"" ++ reason_name stay.why
    ++ field (codes "\",\"below\":") stay.below ++ codes "}"

-- one, after `before` others: the first 40 have a line, and each has a member
unfoldable pub left_text : LeftForm → List Directory → Stay → ℕ → ℕ → List ℕ
left_text Line directories stay i before = if nat_lt before LINES_EACH then left_line directories stay i else []
left_text Member directories stay i before = comma before ++ left_object directories stay i

abbrev pub left_entry : LeftForm → List Directory → Option Stay → ℕ → ℕ → List ℕ
left_entry form directories None i before = []
left_entry form directories (Some stay) i before = left_text form directories stay i before

abbrev pub left_at : LeftForm → List Directory → List (Option Stay) → ℕ → List ℕ
left_at form directories stays i =
    left_entry form directories (slice_index_or stays i None) i (count_below i (is_left stays))
