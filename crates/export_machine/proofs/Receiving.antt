-- What a rank can rely on where a message comes.
use Rattle.std.proofs.Common.{◌≡◌, ◌<◌, ℕ, Some, None, true, length, get_or, sym, arith}
use Rattle.std.proofs.lemmas.List.{length-map}
use Rattle.std.specs.List.{slice_get}
use Rattle.export_protocol.specs.declared.message.Message.{Message}
use Rattle.export_protocol.specs.declared.event.Event.TheVariants.{Deliver}
use Rattle.export_protocol.specs.Cluster.{World}
use Rattle.export_protocol.specs.View.{IsReached}
use Rattle.export_machine.specs.declared.records.Records.{Records}
use Rattle.export_protocol.specs.Authority.{from_of, to_of, is_inside}
use Rattle.export_machine.specs.Kept.{world_of, indexes_of, IsKept, CanReceive}
use Rattle.export_protocol.specs.Step.{refusal, about, receiver}
use Rattle.export_protocol.proofs.Found.{orders_by}
use Rattle.export_protocol.proofs.Accepted.{deliver_near, item_at, numbers_by, as_importer, exporter_rank, importer_rank, receiver_rank}
use Rattle.export_protocol.proofs.Noted.{are_made}

-- the message of this number, where it may come, and its export

pub sent_at : (w : World) (k : ℕ) (m : Message) → refusal w (Deliver k) ≡ None → m ≡ get_or w.sent k m → slice_get w.sent k ≡ Some m
sent_at w k m h e = item_at w.sent k m (deliver_near w k h) e

pub sent_order : (w : World) → IsReached w → (k : ℕ) (m : Message) → slice_get w.sent k ≡ Some m → about m < length w.orders
sent_order w h k m e = orders_by w h (about m) (length w.orders) (λ safe. safe.tables.known k m e)

-- as many lists of exports as journals
pub as_lists : (r : Records) → IsKept r → length r.open_at.items ≡ length r.journals.items
as_lists r kept =
    let ranks : (world_of r).ranks ≡ length (world_of r).journals = numbers_by (world_of r) kept.reached _ _ (λ safe. sym safe.all_ranks) in
    omega (arith, kept.indexed.listed.ranked, length-map r.open_at.items (λ l. l.items), length-map r.journals.items (λ j. j.items))

module _ (r : Records) (m : Message) (can : CanReceive r m) where
  pub known_order : about m < length (world_of r).orders
  known_order = sent_order (world_of r) can.kept.reached can.sent.0 m can.sent.1

  pub known : about m < length r.exports.orders
  known = known_order

  pub known_importer : about m < length r.exports.importers
  known_importer = as_importer (world_of r) can.kept.reached (about m) known_order

  pub to_rank : to_of (world_of r) (about m) < length (world_of r).journals
  to_rank = importer_rank (world_of r) can.kept.reached (about m) known_order

  pub from_rank : from_of (world_of r) (about m) < length (world_of r).journals
  from_rank = exporter_rank (world_of r) can.kept.reached (about m) known_order

  here_rank : receiver (world_of r) m < length (world_of r).journals
  here_rank = receiver_rank (world_of r) can.kept.reached m known_order

  pub here_journal : receiver (world_of r) m < length r.journals.items
  here_journal = let k : receiver (world_of r) m < length (world_of r).journals = here_rank in omega (arith, length-map r.journals.items (λ j. j.items))

  pub here_list : receiver (world_of r) m < length r.open_at.items
  here_list = let k : receiver (world_of r) m < length r.journals.items = here_journal in omega (arith, as_lists r can.kept)

  -- each of the export's directories has its places
  pub inside_owned : (d : ℕ) → is_inside (world_of r) (about m) d ≡ true → d < length r.dirs.owners
  inside_owned d h = rw can.kept.indexed.owner_places (are_made (world_of r) can.kept.reached (about m) d h)

  pub inside_opened : (d : ℕ) → is_inside (world_of r) (about m) d ≡ true → d < length r.dirs.opened
  inside_opened d h = rw can.kept.indexed.opened_places (are_made (world_of r) can.kept.reached (about m) d h)

  pub to_listed : to_of (world_of r) (about m) < length (indexes_of r).open_at
  to_listed = let k : to_of (world_of r) (about m) < length (world_of r).journals = to_rank in
      omega (arith, as_lists r can.kept, length-map r.open_at.items (λ l. l.items), length-map r.journals.items (λ j. j.items))

  pub as_exporters : length r.exports.exporters ≡ length r.exports.orders
  as_exporters = numbers_by (world_of r) can.kept.reached (length r.exports.exporters) (length r.exports.orders) (λ safe. safe.exporting)

  pub as_importers : length r.exports.importers ≡ length r.exports.orders
  as_importers = numbers_by (world_of r) can.kept.reached (length r.exports.importers) (length r.exports.orders) (λ safe. safe.importing)
