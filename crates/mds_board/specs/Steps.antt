-- What contracts see of a state, and how a change is made.
use Rattle.std.specs.Prelude.{◌≡◌, ◌≤◌, ◌⊎◌, ℕ, Bool, true, false, List, [], ◌∷◌, ◌++◌}
use Rattle.std.specs.Prelude.{length, map, Option, Some, None, Result, Ok, Err}
use Rattle.std.specs.Option.{option_map}
use Rattle.authority_map.specs.Operations.{Operation, SetTo, rank_after}
use Rattle.dirtree.specs.Tree.{Directories, Entry}
use Rattle.dir_pins.specs.Pins.{PinTable}
use Rattle.heat_decay.specs.Heat.{Heats}
use Rattle.heat_ledger.specs.Ledger.{BookData}
use Rattle.heat_ledger.specs.Rows.{at}
use Rattle.export_protocol.specs.Authority.{named_of}
use Rattle.export_protocol.specs.Cluster.{World}
use Rattle.export_protocol.specs.declared.event.Event.{Event}
use Rattle.mds_types.specs.declared.order.Order.{Order}
use Rattle.mds_types.specs.declared.plan.Plan.{Plan}
use Rattle.mds_types.specs.Problem.{ProblemData}
use Rattle.mds_types.specs.Certificate.{IsBest, IsCertified}
use Rattle.mds_board.specs.declared.board_error.BoardError.{BoardError}
use Rattle.mds_board.specs.declared.board_error.BoardError.TheVariants.{Memory, NotBest}
use Rattle.mds_board.specs.declared.change.Answer.{Answer}
use Rattle.mds_board.specs.declared.change.Change.{Change}
use Rattle.mds_board.specs.declared.change.Change.TheVariants.{Open, Adopt}
use Rattle.mds_board.specs.declared.weights.Weights.{Weights}
use Rattle.mds_board.specs.State.{State, Opened, Force, refusal, happens, next, problem_of, dirs_of, plan_orders}

-- The state, whether the ledger is open, how many shares it has, and how much of the map is published.
pub record Present : Type 0 where
  pub state : State
  pub is_open : Bool
  pub shares : ℕ
  pub published : List Operation

-- the plan is best for the problem that is open, and its proofs hold
abbrev pub IsBestForOpen : Option Opened → Plan → Type 0
IsBestForOpen None plan = ⊥
IsBestForOpen (Some o) plan = IsBest o.problem plan × IsCertified o.problem plan

-- the plan's proofs don't hold for the problem that is open
abbrev pub IsNotCertified : Option Opened → Plan → Type 0
IsNotCertified None plan = ⊥
IsNotCertified (Some o) plan = IsCertified o.problem plan → ⊥

-- what an adopted plan has to be
abbrev pub IsAllowed : State → Change → Type 0
IsAllowed s (Adopt plan) = IsBestForOpen s.opened plan
IsAllowed s _ = Unit {0}

abbrev pub IsBelied : State → Change → Type 0
IsBelied s (Adopt plan) = IsNotCertified s.opened plan
IsBelied s _ = ⊥

-- A change is refused so: for the first cause; or no cause applies, and there was
-- no memory or the plan's proofs don't hold.
abbrev pub IsDue : State → Change → BoardError → Type 0
IsDue s c e = (refusal s c ≡ Some e) ⊎ ((refusal s c ≡ None) × ((e ≡ Memory) ⊎ ((e ≡ NotBest) × IsBelied s c)))

abbrev pub stepped : Present → Change → Present
stepped p c = record p { state = next p.state c }

-- A change is made so. A refused one changes nothing.
abbrev pub IsStep : Present → Change → Result Answer BoardError → Present → Type 0
IsStep old c (Ok reply) new =
    (refusal old.state c ≡ None) × IsAllowed old.state c × (reply ≡ (happens old.state c).reply) × (new ≡ stepped old c)
IsStep old c (Err error) new = IsDue old.state c error × (new ≡ old)

-- the answer, spelled as a reply
abbrev pub spelled : {A : Type 0} → (A → Answer) → Result A BoardError → Result Answer BoardError
spelled reply (Ok x) = Ok (reply x)
spelled reply (Err error) = Err error

-- The problem is opened, and this best plan adopted, with these orders: two changes,
-- of which neither has a cause to be refused. What the solver promises of its plans beside that holds of it too.
abbrev pub IsBalance : (ProblemData → Plan → Type 0) → Present → ProblemData → Plan → List Order → Present → Type 0
IsBalance also old problem plan orders new =
    (refusal old.state Open ≡ None) × (problem ≡ problem_of old.state)
    × (refusal (next old.state Open) (Adopt plan) ≡ None) × IsBest (problem_of old.state) plan
    × (orders ≡ plan_orders old.state (dirs_of old.state) plan)
    × (new ≡ stepped (stepped old Open) (Adopt plan)) × IsCertified (problem_of old.state) plan
    × also (problem_of old.state) plan

-- the error where there was no memory: the cause that applies, if one does
abbrev pub refused_for : Option BoardError → BoardError
refused_for None = Memory
refused_for (Some e) = e

-- an event that neither makes nor removes a directory nor begins a request
abbrev pub is_inner : Event → Bool
is_inner (Event.Made parent) = false
is_inner (Event.Gone d) = false
is_inner (Event.Begin rank d) = false
is_inner _ = true

-- the operation on the map by which it names an order's importer
abbrev pub set_by : Option Order → List Operation
set_by None = []
set_by (Some order) = SetTo order.dirs order.to ∷ []

-- what contracts see of a board's fields
abbrev pub present_of : Directories → PinTable → Heats → Weights → ℕ → BookData → World → List Operation
    → List Operation → Option Opened → Option Force → ℕ → Present
present_of directories pins heats weights mask book cluster published pending opened in_force events = record {
  state = record {
    directories = directories;
    pins = pins;
    heats = heats;
    weights = weights;
    mask = mask;
    counted = book.counted;
    begun = book.begun;
    cluster = cluster;
    map = published ++ pending;
    opened = opened;
    in_force = in_force;
    events = events;
  };
  is_open = book.is_open;
  shares = book.shares;
  published = published;
}

abbrev pub parents_of : List (Option Entry) → List (Option ℕ)
parents_of entries = map (option_map (λ e. e.parent)) entries

-- How the parts fit together.
pub record IsFitting (s : State) : Type 0 where
  pub few_ticks : s.heats.ticks ≤ s.events
  pub pins_limit : length s.pins.own ≡ s.directories.limit
  pub heats_limit : s.heats.limit ≡ s.directories.limit
  -- the cluster has the tree's directories, below the same limit, and the pins' ranks
  pub parents : s.cluster.parents ≡ parents_of s.directories.entries
  pub cluster_limit : s.cluster.limit ≡ s.directories.limit
  pub ranks : s.cluster.ranks ≡ s.pins.active
  -- each request that began is an event
  pub few_begun : (d : ℕ) → at s.begun d ≤ s.events
  -- the map, once all is published, names the rank that the cluster names
  pub mapped : (d : ℕ) → rank_after s.map d ≡ named_of s.cluster d
