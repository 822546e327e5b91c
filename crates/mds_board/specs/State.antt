-- What a board holds, when each change is refused, and what it does.
use Rattle.std.specs.Option.{option_and_then}
use Rattle.std.specs.Prelude.{ℕ, ◌+◌, ◌==◌, nat_le, Bool, true, false, not, ◌&&◌, if◌then◌else◌, List, [], ◌∷◌, ◌++◌}
use Rattle.std.specs.Prelude.{length, map, slice_get, slice_index, replicate, fold, Option, Some, None}
use Rattle.authority_map.specs.Operations.{Operation, SetTo, Clear}
use Rattle.dir_pins.specs.declared.pin_error.PinError.{PinError}
use Rattle.dir_pins.specs.Pins as pins
use Rattle.dir_pins.specs.Pins.{PinTable, below}
use Rattle.dirtree.specs.declared.tree_error.TreeError.{TreeError}
use Rattle.dirtree.specs.Tree as tree
use Rattle.dirtree.specs.Tree.{Directories}
use Rattle.export_protocol.specs.Authority.{authority, order_in, to_of}
use Rattle.export_protocol.specs.Cluster.{World}
use Rattle.export_protocol.specs.declared.event.Event.{Event}
use Rattle.export_protocol.specs.declared.event.Event.TheVariants.{Begin, Notify, Made, Gone}
use Rattle.export_protocol.specs.declared.step_error.StepError.{StepError}
use Rattle.export_protocol.specs.Entries.{logs_export}
use Rattle.export_protocol.specs.Step as machine
use Rattle.tree_parts.specs.ProblemRows.{problem_rows}
use Rattle.heat_decay.specs.Heat.{Heats, after_deposit, after_tick, all_cold, touched}
use Rattle.heat_ledger.specs.declared.dir_hits.DirHits.{DirHits}
use Rattle.heat_ledger.specs.Rows.{raised, with_row}
use Rattle.mds_types.specs.declared.order.Order.{Order}
use Rattle.mds_types.specs.declared.plan.Plan.{Plan}
use Rattle.mds_types.specs.Problem.{ProblemData}
use Rattle.mds_types.specs.RankSet.{below_rank, rank_count}
use Rattle.tree_parts.specs.Orders.{orders}
use Rattle.mds_board.specs.declared.board_error.BoardError.{BoardError}
use Rattle.mds_board.specs.declared.board_error.BoardError.TheVariants.{BalancerOff, NoProblem, Changed}
use Rattle.mds_board.specs.declared.board_error.BoardError.TheVariants.{HistoryFull, BadWeight}
use Rattle.mds_board.specs.declared.board_error.BoardError.TheVariants as error
use Rattle.mds_board.specs.declared.change.Answer.{Answer}
use Rattle.mds_board.specs.declared.change.Answer.TheVariants as answer
use Rattle.mds_board.specs.declared.change.Change.{Change}
use Rattle.mds_board.specs.declared.change.Change.TheVariants.{Make, Remove, Mask, Deposit, Tick, Step, Open, Adopt}
use Rattle.mds_board.specs.declared.change.Change.TheVariants as change
use Rattle.mds_board.specs.declared.weights.Weights.{Weights}
use Rattle.mds_board.specs.Refused.{tree_refused}
use Rattle.mds_board.specs.Weights.{even_weights, is_weight, weighed}

-- the problem that is open, the directories of its rows, and the first event since that changed what it was made of
pub record Opened : Type 0 where
  pub problem : ProblemData
  pub dirs : List ℕ
  pub changed : Option ℕ

-- the event that put a plan in force, with the plan's problem and the directories of the problem's rows
pub record Force : Type 0 where
  pub problem : ProblemData
  pub dirs : List ℕ
  pub event : ℕ

-- counted is by directory and kind: the deposited hits; begun is by directory: the requests that began; the mask is a
-- bit map of ranks; map has all operations on the map from directory to rank
pub record State : Type 0 where
  pub directories : Directories
  pub pins : PinTable
  pub heats : Heats
  pub weights : Weights
  pub mask : ℕ
  pub counted : List ℕ
  pub begun : List ℕ
  pub cluster : World
  pub map : List Operation
  pub opened : Option Opened
  pub in_force : Option Force
  pub events : ℕ

-- the operations on the map of a board that isn't made yet: none, or the first one, which gives the root to rank 0
abbrev pub first_operations : Bool → List Operation
first_operations false = []
first_operations true = SetTo (0 ∷ []) 0 ∷ []

-- Only the root, at rank 0.
abbrev pub start : ℕ → ℕ → State
start limit active = record {
  directories = record { limit = limit; entries = Some tree.root ∷ [] };
  pins = pins.no_pins limit active;
  heats = all_cold limit 0;
  weights = even_weights;
  mask = 0;
  counted = replicate (limit + limit) 0;
  begun = replicate limit 0;
  cluster = machine.start limit active;
  map = first_operations true;
  opened = None;
  in_force = None;
  events = 0;
}

-- Refusals. The first cause is the answer.

abbrev pub or_cause : Option BoardError → Option BoardError → Option BoardError
or_cause None other = other
or_cause (Some e) other = Some e

abbrev pub when : Bool → BoardError → Option BoardError
when true e = Some e
when false e = None

abbrev pub of_tree : Option TreeError → Option BoardError
of_tree None = None
of_tree (Some e) = Some (tree_refused e)

abbrev pub of_pin : Option PinError → Option BoardError
of_pin None = None
of_pin (Some e) = Some (error.Pin e)

abbrev pub of_step : Option StepError → Option BoardError
of_step None = None
of_step (Some e) = Some (error.Step e)

-- the active ranks of the mask, as a bit map: none until a mask was set
abbrev pub usable : State → ℕ
usable s = below_rank s.mask s.pins.active

abbrev pub unless_changed : Option ℕ → Option BoardError
unless_changed None = None
unless_changed (Some e) = Some (Changed e)

abbrev pub adopt_cause : Option Opened → Option BoardError
adopt_cause None = Some NoProblem
adopt_cause (Some o) = unless_changed o.changed

abbrev pub cause : State → Change → Option BoardError
cause s (Make parent name inodes) =
    or_cause (of_tree (tree.make_refusal s.directories parent name))
    (of_step (machine.refusal s.cluster (Made parent)))
cause s (Remove d) =
    or_cause (of_tree (tree.remove_refusal s.directories d)) (of_step (machine.refusal s.cluster (Gone d)))
cause s (change.Pin d value) = of_pin (pins.pin_refusal s.pins.active s.directories.entries d value)
cause s (Mask bits) = None
cause s (change.Weights read write) = when (not (is_weight read && is_weight write)) BadWeight
cause s (Deposit hits) = None
cause s Tick = None
cause s (Step e) = of_step (machine.refusal s.cluster e)
cause s Open = when (rank_count (usable s) == 0) BalancerOff
cause s (Adopt plan) = adopt_cause s.opened

abbrev pub event_limit : ℕ
event_limit = 1_048_576

-- why a change is refused, apart from a plan that isn't proved best
unfoldable pub refusal : State → Change → Option BoardError
refusal s c = or_cause (when (nat_le event_limit s.events) HistoryFull) (cause s c)

-- why a balance is refused, which opens a problem and adopts a plan
abbrev pub balance_refusal : State → Option BoardError
balance_refusal s =
    or_cause (when (nat_le 1_048_575 s.events) HistoryFull) (when (rank_count (usable s) == 0) BalancerOff)

-- Effects.

-- the first event since the opening that changed what the problem was made of
abbrev pub first_of : Option ℕ → ℕ → Option ℕ
first_of None e = Some e
first_of (Some earlier) e = Some earlier

abbrev pub marked : Option Opened → ℕ → Option Opened
marked None e = None
marked (Some o) e = Some (record o { changed = first_of o.changed e })

abbrev pub marked_if : Bool → Option Opened → ℕ → Option Opened
marked_if true o e = marked o e
marked_if false o e = o

abbrev pub set_for : List ℕ → Option ℕ → List Operation
set_for dirs None = []
set_for dirs (Some rank) = SetTo dirs rank ∷ []

-- the operation on the map that an accepted event of the cluster makes, if it makes one
abbrev pub map_change : World → Event → List Operation
map_change w (Made parent) = set_for (length w.parents ∷ []) (authority w parent)
map_change w (Gone d) = Clear d ∷ []
map_change w (Notify x) = SetTo (order_in w.orders x).dirs (to_of w x) ∷ []
map_change w _ = []

abbrev pub after_event : World → Event → World
after_event w e = machine.counted (machine.happens w e).world

-- a request begins on its directory
abbrev pub begun_with : List ℕ → Event → List ℕ
begun_with begun (Begin rank d) = raised begun d
begun_with begun _ = begun

-- a directory's hits give heat while it is there
abbrev pub warmed : Weights → List (Option tree.Entry) → Heats → DirHits → Heats
warmed weights entries h hits =
    if tree.is_there entries hits.dir
    then touched h hits.dir (after_deposit (slice_index h.heats hits.dir) (weighed weights hits)) else h

-- the authority of each directory, and 0 where there is none
abbrev pub rank_or_0 : Option ℕ → ℕ
rank_or_0 None = 0
rank_or_0 (Some rank) = rank

abbrev pub authorities : State → List ℕ
authorities s = map (λ d. rank_or_0 (authority s.cluster d)) (below (length s.directories.entries))

-- the problem of the directories that no pin holds, with their heats, inodes and authorities
abbrev pub problem_of : State → ProblemData
problem_of s =
    record { rows = problem_rows s.directories.entries s.pins.own s.heats.heats (authorities s); ranks = usable s }

abbrev pub dirs_of : State → List ℕ
dirs_of s = pins.unpinned s.directories.entries s.pins.own

abbrev pub enforced : Option Opened → ℕ → Option Force
enforced None event = None
enforced (Some o) event = Some (record { problem = o.problem; dirs = o.dirs; event = event })

-- the rank that has each directory
abbrev pub holders : State → List (Option ℕ)
holders s = map (authority s.cluster) (below (length s.directories.entries))

-- the rank of a row's part, if the plan has this row
abbrev pub rank_of_row : Plan → ℕ → Option ℕ
rank_of_row plan row = option_and_then (slice_get plan.rank) (slice_get plan.part row)

-- the rank that a plan gives d: that of the first row whose directory is d, where
-- dirs are those of the rows from this one on
abbrev pub planned_from : ℕ → List ℕ → Plan → ℕ → Option ℕ
planned_from row [] plan d = None
planned_from row (dir ∷ dirs) plan d = if dir == d then rank_of_row plan row else planned_from (row + 1) dirs plan d

-- the rank that a plan gives d, if d is in a row; dirs are the directories of the rows
abbrev pub planned : List ℕ → Plan → ℕ → Option ℕ
planned dirs plan d = planned_from 0 dirs plan d

-- the rank that a plan gives each of n directories
abbrev pub targets : ℕ → List ℕ → Plan → List (Option ℕ)
targets n dirs plan = map (planned dirs plan) (below n)

-- the orders by which directories come to the ranks that a plan for these rows gives them
abbrev pub plan_orders : State → List ℕ → Plan → List Order
plan_orders s dirs plan = orders s.directories.entries (holders s) (targets (length s.directories.entries) dirs plan)

-- the pin that holds each directory, where one does
abbrev pub held_by : State → List (Option ℕ)
held_by s = map (pins.nearest_pin s.directories.entries s.pins.own) (below (length s.directories.entries))

-- the orders by which each directory that a pin holds comes to the rank of its pin
abbrev pub pin_orders : State → List Order
pin_orders s = orders s.directories.entries (holders s) (held_by s)

-- the directories of the rows of the problem that is open
abbrev pub rows_of : Option Opened → List ℕ
rows_of None = []
rows_of (Some o) = o.dirs

pub record Outcome : Type 0 where
  pub state : State
  pub reply : Answer

abbrev pub done : State → Outcome
done s = record { state = s; reply = answer.Done }

unfoldable pub happens : State → Change → Outcome
happens s (Make parent name inodes) =
    record {
      state = record s {
        directories = tree.with_child s.directories parent name inodes;
        heats = touched s.heats (length s.directories.entries) 0;
        cluster = after_event s.cluster (Made parent);
        map = s.map ++ map_change s.cluster (Made parent);
        opened = marked s.opened s.events;
      };
      reply = answer.Dir (length s.directories.entries);
    }
happens s (Remove d) =
    done (record s {
      directories = tree.without s.directories d;
      cluster = after_event s.cluster (Gone d);
      map = s.map ++ map_change s.cluster (Gone d);
      opened = marked s.opened s.events;
    })
happens s (change.Pin d value) =
    done (record s { pins = pins.with_pin s.pins d value; opened = marked s.opened s.events })
happens s (Mask bits) = done (record s { mask = bits; opened = marked s.opened s.events })
happens s (change.Weights read write) = done (record s { weights = record { read = read; write = write } })
happens s (Deposit hits) =
    done (record s {
      heats = fold (warmed s.weights s.directories.entries) s.heats hits;
      counted = fold with_row s.counted hits;
    })
happens s Tick =
    done (record s { heats = record s.heats { ticks = s.heats.ticks + 1; heats = map after_tick s.heats.heats } })
happens s (Step e) =
    record {
      state = record s {
        cluster = after_event s.cluster e;
        map = s.map ++ map_change s.cluster e;
        begun = begun_with s.begun e;
        opened = marked_if (logs_export s.cluster e) s.opened s.events;
      };
      reply = answer.Reply (machine.happens s.cluster e).reply;
    }
happens s Open =
    record {
      state = record s { opened = Some (record { problem = problem_of s; dirs = dirs_of s; changed = None }) };
      reply = answer.Problem (problem_of s);
    }
happens s (Adopt plan) =
    record {
      state = record s { opened = None; in_force = enforced s.opened s.events };
      reply = answer.Orders (plan_orders s (rows_of s.opened) plan);
    }

-- the state after an accepted change
abbrev pub next : State → Change → State
next s c = record (happens s c).state { events = s.events + 1 }
