-- How a board stores its history.
use Rattle.std.specs.List.{All}
use Rattle.std.specs.Global.{Global}
use Rattle.std.specs.Prelude.{◌≤◌, ◌<◌, ◌-◌, ℕ, List, length, map, slice_index_or, Vec, vec_len, vec_capacity}
use Rattle.export_protocol.specs.declared.event.Event.TheVariants.{Begin, End}
use Rattle.export_protocol.specs.declared.event.Reply.TheVariants.{Changed, Ticket}
use Rattle.mds_board.specs.declared.change.Answer.TheVariants.{Done, Reply}
use Rattle.mds_board.specs.declared.change.Change.TheVariants.{Step, Tick}
use Rattle.mds_board.specs.declared.entry.Entry.{Entry}
use Rattle.mds_board.specs.declared.history.Shown.{Shown}
use Rattle.mds_board.specs.declared.history.Shown.TheVariants as shown
use Rattle.mds_board.specs.declared.history.Slot.{Slot}
use Rattle.mds_board.specs.declared.history.Slot.TheVariants as slot

-- What contracts see of a stored history: its entries, and how many more have room.
pub record HistoryData : Type 0 where
  pub entries : List Entry
  pub free_slots : ℕ
  pub free_others : ℕ

abbrev pub HasRoom : ℕ → HistoryData → Type 0
HasRoom n h = (n ≤ h.free_slots) × (n ≤ h.free_others)

-- a request on a directory began at a rank, with a ticket
abbrev pub began : ℕ → ℕ → ℕ → Entry
began rank dir ticket = record { change = Step (Begin rank dir); reply = Reply (Ticket ticket) }

-- the request of a ticket ended
abbrev pub ended : ℕ → Entry
ended ticket = record { change = Step (End ticket); reply = Reply Changed }

-- the entry in a slot, where these are kept apart from the slots
abbrev pub entry_in : List Entry → Slot → Entry
entry_in others (slot.Began rank dir ticket) = began rank dir ticket
entry_in others (slot.Ended ticket) = ended ticket
entry_in others (slot.Other place) = slice_index_or others place (record { change = Tick; reply = Done })

abbrev pub entries_in : List Entry → List Slot → List Entry
entries_in others slots = map (entry_in others) slots

-- a slot names a place that is there
abbrev pub IsSlot : ℕ → Slot → Type 0
IsSlot n (slot.Began rank dir ticket) = Unit {0}
IsSlot n (slot.Ended ticket) = Unit {0}
IsSlot n (slot.Other place) = place < n

abbrev pub AreSlots : List Entry → List Slot → Type 0
AreSlots others slots = All (IsSlot (length others)) slots

abbrev pub stored : Vec Slot Global → Vec Entry Global → HistoryData
stored slots others =
    record {
      entries = entries_in others.items slots.items;
      free_slots = vec_capacity slots - vec_len slots;
      free_others = vec_capacity others - vec_len others;
    }

-- an entry as it is read
abbrev pub shown_entry : Shown → Entry
shown_entry (shown.Began rank dir ticket) = began rank dir ticket
shown_entry (shown.Ended ticket) = ended ticket
shown_entry (shown.Other e) = e.now
