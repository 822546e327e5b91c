-- What a rank decides by: its own journal, the states of its own exports, the requests that run at it, and whether it
-- runs. An event also needs what no rank owns: the tree, the numbers of ranks and exports, the count of events.
use Rattle.std.specs.Prelude.{◌≡◌, ◌≢◌, ◌<◌, ◌↔◌, ℕ, Bool, true, false, ◌&&◌}
use Rattle.std.specs.Prelude.{not, ◌==◌, List, [], ◌∷◌, length, Some, None}
use Rattle.std.specs.List.{list_all}
use Rattle.export_protocol.specs.declared.event.Request.{Request}
use Rattle.export_protocol.specs.declared.exporter.ExporterState.TheVariants.{Freezing}
use Rattle.export_protocol.specs.Cluster.{World}
use Rattle.export_protocol.specs.Authority.{is_among, is_inside, from_of, exporter_of, order_in, is_present}
use Rattle.export_protocol.specs.Authority.{request_of, owns, serves, any_below, is_stopped}
use Rattle.export_protocol.specs.Step.{refusal, is_before_log, is_child, is_connected}
use Rattle.export_protocol.specs.Step.{any_at, history_limit, export_limit}
use Rattle.export_protocol.specs.declared.event.Event.{Event}
use Rattle.export_protocol.specs.declared.event.Event.TheVariants.{Begin, Start, Froze}

-- r is one of the ranks, and runs
abbrev pub IsUp : World → ℕ → Type 0
IsUp w r = (r < w.ranks) × (is_stopped w r ≡ false)

-- rank r has an export of d that it neither logged nor gave up
abbrev pub is_leaving : World → ℕ → ℕ → Bool
is_leaving w r d =
    any_below (length w.orders) (λ x. (from_of w x == r) && is_before_log (exporter_of w x) && is_inside w x d)

-- rank r's journal owns d, and no export of its own takes d away
abbrev pub is_free : World → ℕ → ℕ → Bool
is_free w r d = owns w r d && not (is_leaving w r d)

-- no request that runs at rank r is on these directories
abbrev pub IsIdle : World → ℕ → List ℕ → Type 0
IsIdle w r dirs = (t : ℕ) (q : Request) → request_of w t ≡ Some q → q.rank ≡ r → is_among dirs q.dir ≡ false

-- a request may begin at rank r
pub record MayBegin (w : World) (r d : ℕ) : Type 0 where
  pub few : w.events < history_limit
  pub up : IsUp w r
  pub serves : serves w r d ≡ true

-- some rank makes a directory below this one
pub record MayMake (w : World) (parent r : ℕ) : Type 0 where
  pub few : w.events < history_limit
  pub numbers : length w.parents < w.limit
  pub up : IsUp w r
  pub serves : serves w r parent ≡ true

-- some rank removes a directory
pub record MayRemove (w : World) (d r : ℕ) : Type 0 where
  pub few : w.events < history_limit
  pub below : d ≢ 0
  pub empty : any_at (is_child d) w.parents ≡ false
  pub up : IsUp w r
  pub free : is_free w r d ≡ true
  pub idle : IsIdle w r (d ∷ [])

-- a rank starts to give directories to another, which need not run
pub record MayStart (w : World) (from to : ℕ) (dirs : List ℕ) : Type 0 where
  pub few : w.events < history_limit
  pub numbers : length w.orders < export_limit
  pub there : list_all (is_present w) dirs ≡ true
  pub connected : is_connected w dirs ≡ true
  pub other : from ≢ to
  pub is_rank : to < w.ranks
  pub up : IsUp w from
  pub free : (d : ℕ) → is_among dirs d ≡ true → is_free w from d ≡ true

-- the exporter has waited for the requests that run at it
pub record MayFreeze (w : World) (x : ℕ) : Type 0 where
  pub few : w.events < history_limit
  pub started : x < length w.orders
  pub up : is_stopped w (from_of w x) ≡ false
  pub freezing : exporter_of w x ≡ Freezing
  pub idle : IsIdle w (from_of w x) (order_in w.orders x).dirs

-- the events whose refusal asks for the authority of a directory are accepted by what one rank knows
pub record IsLocal (w : World) : Type 0 where
  pub begins : (r d : ℕ) → (refusal w (Begin r d) ≡ None) ↔ MayBegin w r d
  pub makes : (parent : ℕ) → (refusal w (Event.Made parent) ≡ None) ↔ ((r : ℕ) × MayMake w parent r)
  pub removes : (d : ℕ) → (refusal w (Event.Gone d) ≡ None) ↔ ((r : ℕ) × MayRemove w d r)
  pub starts : (from to : ℕ) (dirs : List ℕ) → (refusal w (Start from to dirs) ≡ None) ↔ MayStart w from to dirs
  pub freezes : (x : ℕ) → (refusal w (Froze x) ≡ None) ↔ MayFreeze w x
