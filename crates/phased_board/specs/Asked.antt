-- The states of orders in a phase.
use Rattle.std.specs.Prelude.{◌≡◌, ℕ, Bool, true, false, List, if◌then◌else◌}
use Rattle.mds_types.specs.declared.order.Order.{Order}
use Rattle.mds_board.specs.History.{World}
use Rattle.phased_board.specs.declared.standing.Standing.{Standing}
use Rattle.phased_board.specs.declared.standing.Standing.TheVariants.{Waiting, Started, Refused}
use Rattle.export_protocol.specs.declared.event.Event.{Event}
use Rattle.export_protocol.specs.declared.event.Event.TheVariants.{Start}
use Rattle.phased_board.specs.Outcomes.{IsStarted, IsRefused}
use Rattle.phased_board.specs.Pairs.{AreEach}

-- the state of an order in a phase that began at first
abbrev pub IsAsked : World → World → Order → Standing → Type 0
IsAsked first now order (Waiting waiting) = waiting ≡ order
IsAsked first now order (Started x) = IsStarted first now order x
IsAsked first now order (Refused error) = IsRefused first now order error

abbrev pub AreAsked : World → World → List Order → List Standing → Type 0
AreAsked first now orders standings = AreEach (IsAsked first now) orders standings

abbrev pub is_waiting : Standing → Bool
is_waiting (Waiting order) = true
is_waiting _ = false

-- an export was started for it
abbrev pub is_begun : Standing → Bool
is_begun (Started x) = true
is_begun _ = false

-- it starts no export
abbrev pub is_later : Event → Bool
is_later (Start from to dirs) = false
is_later _ = true

abbrev pub ones : Bool → ℕ
ones b = if b then 1 else 0
