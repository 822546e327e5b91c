-- What holds of every history.
use Rattle.std.specs.Prelude.{◌≡◌, ◌<◌, ◌≤◌, ◌==◌, ℕ, Bool, true, false, List, [], ◌∷◌, ◌++◌, All, filter}
use Rattle.std.specs.Prelude.{length, slice_index}
use Rattle.authority_map.specs.Operations.{Operation}
use Rattle.dirtree.specs.Tree.{IsTree}
use Rattle.heat_ledger.specs.Rows.{at}
use Rattle.mds_types.specs.Certificate.{IsBest, IsCertified, plan_label, plan_rank}
use Rattle.mds_types.specs.Problem.{ProblemData}
use Rattle.mds_types.specs.RankSet.{rank_count}
use Rattle.mds_types.specs.declared.plan.Plan.{Plan}
use Rattle.tree_parts.specs.DirDivision.{IsDirDivision, IsDirPlacing, dir_moved, greatest_dir_heat}
use Rattle.export_protocol.specs.declared.event.Event.{Event}
use Rattle.export_protocol.specs.declared.event.Event.TheVariants.{Made, Gone, Begin}
use Rattle.export_protocol.specs.Step as machine
use Rattle.export_protocol.specs.Promises.{Promised}
use Rattle.mds_board.specs.declared.change.Answer.{Answer}
use Rattle.mds_board.specs.declared.change.Answer.TheVariants as answer
use Rattle.mds_board.specs.declared.change.Change.{Change}
use Rattle.mds_board.specs.declared.change.Change.TheVariants.{Make, Remove, Deposit, Tick, Step, Open, Adopt}
use Rattle.mds_board.specs.declared.change.Change.TheVariants as change
use Rattle.mds_board.specs.State.{State, authorities, dirs_of, problem_of, start, usable}
use Rattle.mds_board.specs.Steps.{IsFitting}
use Rattle.mds_board.specs.declared.entry.Entry.{Entry}
use Rattle.mds_board.specs.History.{World, IsReplay, after}

-- no division of the directories that no pin holds into at most as many connected parts as ranks are usable has a
-- smaller greatest heat
abbrev pub IsCoolest : State → Plan → Type 0
IsCoolest s plan =
    (label : ℕ → ℕ) → IsDirDivision s.directories.entries s.pins.own (rank_count (usable s)) label
    → plan.greatest ≤ greatest_dir_heat s.directories.entries s.pins.own s.heats.heats (rank_count (usable s)) label

-- the labels give each directory that no pin holds the number of its part in the plan
abbrev pub AreLabelsOf : State → Plan → (ℕ → ℕ) → Type 0
AreLabelsOf s plan label = (i : ℕ) → i < length (dirs_of s) → label (slice_index (dirs_of s) i) ≡ plan_label plan i

-- the plan's ranks move the inodes that it says, and no placing of its parts on usable ranks moves fewer
abbrev pub IsCheapest : State → Plan → Type 0
IsCheapest s plan =
    (label : ℕ → ℕ) → AreLabelsOf s plan label
    → (dir_moved s.directories.entries s.pins.own (authorities s) label (plan_rank plan) ≡ plan.moved)
    × ((rank : ℕ → ℕ) → IsDirPlacing s.directories.entries s.pins.own (usable s) label rank
    → plan.moved ≤ dir_moved s.directories.entries s.pins.own (authorities s) label rank)

-- Each problem in a history that begins at first is that of the tree, pins, heats, mask and authorities as they were
-- when it was opened. The directories were a tree then, and a best plan for the problem divides and places them best.
abbrev pub OpensDirectories : State → List Entry → Type 0
OpensDirectories first history =
    (earlier more : List Entry) (reply : Answer)
    → history ≡ earlier ++ record { change = Open; reply = reply } ∷ more
    → let s = after first earlier in
    (reply ≡ answer.Problem (problem_of s)) × IsTree s.directories.entries
    × ((plan : Plan) → IsBest (problem_of s) plan → IsCoolest s plan × IsCheapest s plan)

-- a change that leaves the tree, the pins, the mask and the problem that is open as they are
abbrev pub leaves_problem : Change → Bool
leaves_problem (change.Weights read write) = true
leaves_problem (Deposit hits) = true
leaves_problem Tick = true
leaves_problem (Step e) = true
leaves_problem _ = false

-- Each plan in a history was adopted after a problem was opened, with only weights, deposits, ticks and events of the
-- cluster in between. It is best for this problem, and its proofs hold.
abbrev pub AdoptsBest : List Entry → Type 0
AdoptsBest history =
    (before more : List Entry) (plan : Plan) (reply : Answer)
    → history ≡ before ++ record { change = Adopt plan; reply = reply } ∷ more
    → (earlier between : List Entry) × (problem : ProblemData)
    × (before ≡ earlier ++ record { change = Open; reply = answer.Problem problem } ∷ between)
    × All (λ e. leaves_problem e.change ≡ true) between × IsBest problem plan × IsCertified problem plan

-- Each plan in a history that begins at first was adopted after a problem was opened, with only weights, deposits, ticks
-- and events of the cluster in between. No division of the directories as they were at that opening is cooler, and no
-- placing of the plan's parts of them moves fewer inodes.
abbrev pub AdoptsCoolest : State → List Entry → Type 0
AdoptsCoolest first history =
    (before more : List Entry) (plan : Plan) (reply : Answer)
    → history ≡ before ++ record { change = Adopt plan; reply = reply } ∷ more
    → (earlier between : List Entry)
    × let s = after first earlier in
    (before ≡ earlier ++ record { change = Open; reply = answer.Problem (problem_of s) } ∷ between)
    × All (λ e. leaves_problem e.change ≡ true) between × IsCoolest s plan × IsCheapest s plan

-- the events of the cluster that a change makes
abbrev pub cluster_event : Change → List Event
cluster_event (Make parent name inodes) = Made parent ∷ []
cluster_event (Remove d) = Gone d ∷ []
cluster_event (Step e) = e ∷ []
cluster_event _ = []

-- the events of the cluster in a history
abbrev pub cluster_events : List Entry → List Event
cluster_events [] = []
cluster_events (e ∷ es) = cluster_event e.change ++ cluster_events es

-- a change by which a request on d begins
abbrev pub begins : ℕ → Change → Bool
begins d (Step (Begin rank dir)) = dir == d
begins d _ = false

-- how many requests on d began in a history
abbrev pub begin_count : ℕ → List Entry → ℕ
begin_count d history = length (filter (λ e. begins d e.change) history)

-- What holds of every board. Its state is the replay of its history from the empty board. Each problem is that of the
-- directories at its opening, and each adopted plan is certified and best for its problem. Its cluster is the machine's
-- after the history's events. Each directory has exactly one authority, which the map names but between log and notify,
-- and no request runs at a stopped rank.
pub record IsKept (w : World) : Type 0 where
  pub replay : IsReplay (start w.state.directories.limit w.state.pins.active) w.history w.state
  pub problems : OpensDirectories (start w.state.directories.limit w.state.pins.active) w.history
  pub plans : AdoptsBest w.history
  pub cluster : w.state.cluster ≡ machine.run (machine.start w.state.directories.limit w.state.pins.active)
      (cluster_events w.history)
  pub promised : Promised w.state.cluster
  -- what is counted as begun on a directory are the requests that began on it in the history
  pub begun : (d : ℕ) → at w.state.begun d ≡ begin_count d w.history
  -- the cluster has the tree's directories and the pins' ranks; the map's operations name what the cluster names
  pub fitting : IsFitting w.state
  -- what is published is a beginning of them
  pub published : (more : List Operation) × (w.published ++ more ≡ w.state.map)
