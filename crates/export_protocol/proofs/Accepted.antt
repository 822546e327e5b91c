-- What an accepted event can rely on.
use Rattle.std.proofs.Common.{◌≡◌, ◌≢◌, ℕ, suc, ◌<◌, true, false, not, eqb, List, [], ◌∷◌, length, get_or, Option, Some, None, sym, ap, inl, inr, arith, zero}
use Rattle.std.specs.List.{list_all, slice_get}
use Rattle.std.proofs.lemmas.Bool.{cases_eq, leb-false, not-false, cases_lt}
use Rattle.std.proofs.lemmas.List.{get_or_past}
use Rattle.export_protocol.specs.Cluster.{World}
use Rattle.export_protocol.specs.Authority.{is_among, is_present, to_of, authority, open_export, from_of, exporter_of, frozen_by, request_of}
use Rattle.export_protocol.specs.Step.{refusal, causes, is_before_log, about, receiver, is_freezing, is_logged, is_running, not_yet, running_on}
use Rattle.export_protocol.specs.declared.event.Event.TheVariants.{Start, Begin, End, Deliver, Froze, Notify, Abort}
use Rattle.export_protocol.specs.View.{IsReached}
use Rattle.export_protocol.proofs.Safe.{Safe}
use Rattle.export_protocol.proofs.Lookups.{authority_is, or_else_none}
use Rattle.export_protocol.proofs.Events.{not_refused, busy_none, all_there, there_near, freezing_is, logged_is, held_free, not_stopped}
use Rattle.export_protocol.proofs.Theorem.{not_refused_causes}
use Rattle.export_protocol.specs.declared.exporter.ExporterState.TheVariants.{Freezing, Logged}
use Rattle.export_protocol.specs.declared.event.Request.{Request}
use Rattle.export_protocol.specs.declared.message.Message.{Message}
use Rattle.export_protocol.specs.declared.message.Message.TheVariants.{Discover, DiscoverAck, Prep, PrepAck, ExportAck, Finish, Cancel, Query}
use Rattle.export_protocol.specs.declared.event.Event.{Event}
use Rattle.export_protocol.proofs.Reached.{by_safe}
use Rattle.export_protocol.proofs.Found.{orders_by}

pub numbers_by : (w : World) → IsReached w → (a b : ℕ) → (Safe w → a ≡ b) → a ≡ b
numbers_by w r a b f = elim (cases_eq a b) [ inl e ↦ e | inr n ↦ absurd (by_safe w r (λ safe. n (f safe))) ]

pub room_left : (w : World) (e : Event) → refusal w e ≡ None → w.events < 1048576
unfolding refusal
room_left w e h = leb-false 1048576 w.events (not_refused _ _ (or_else_none _ _ h).0)

module _ (w : World) (reached : IsReached w) where
  pub as_exporter : (x : ℕ) → x < length w.orders → x < length w.exporters
  as_exporter x h = orders_by w reached x (length w.exporters) (λ safe. omega (arith, safe.exporting))

  pub as_importer : (x : ℕ) → x < length w.orders → x < length w.importers
  as_importer x h = orders_by w reached x (length w.importers) (λ safe. omega (arith, safe.importing))

  pub as_rank : (d r : ℕ) → authority w d ≡ Some r → r < length w.journals
  as_rank d r h = orders_by w reached r (length w.journals) (λ safe. rw safe.all_ranks (authority_is w d r h).0)

  pub exporter_rank : (x : ℕ) → x < length w.orders → from_of w x < length w.journals
  exporter_rank x h = orders_by w reached (from_of w x) (length w.journals) (λ safe. (safe.ranked x h).0)

  pub importer_rank : (x : ℕ) → x < length w.orders → to_of w x < length w.journals
  importer_rank x h = orders_by w reached (to_of w x) (length w.journals) (λ safe. (safe.ranked x h).1)

  pub receiver_rank : (m : Message) → about m < length w.orders → receiver w m < length w.journals
  receiver_rank (Discover x) h = importer_rank x h
  receiver_rank (DiscoverAck x) h = exporter_rank x h
  receiver_rank (Prep x) h = importer_rank x h
  receiver_rank (PrepAck x) h = exporter_rank x h
  receiver_rank (Message.Export x) h = importer_rank x h
  receiver_rank (ExportAck x) h = exporter_rank x h
  receiver_rank (Finish x) h = importer_rank x h
  receiver_rank (Cancel x) h = importer_rank x h
  receiver_rank (Query x) h = exporter_rank x h

module _ (w : World) (x : ℕ) where
  pub froze_order : refusal w (Froze x) ≡ None → x < length w.orders
  unfolding causes
  froze_order h = leb-false (length w.orders) x (not_refused _ _ (not_refused_causes w (Froze x) h).0)

  pub froze_state : refusal w (Froze x) ≡ None → exporter_of w x ≡ Freezing
  unfolding causes
  froze_state h = freezing_is (exporter_of w x) (not-false (is_freezing (exporter_of w x)) (not_refused _ _ (not_refused_causes w (Froze x) h).1.1.0))

  pub notify_order : refusal w (Notify x) ≡ None → x < length w.orders
  unfolding causes
  notify_order h = leb-false (length w.orders) x (not_refused _ _ (not_refused_causes w (Notify x) h).0)

  pub notify_state : refusal w (Notify x) ≡ None → exporter_of w x ≡ Logged
  unfolding causes
  notify_state h = logged_is (exporter_of w x) (not-false (is_logged (exporter_of w x)) (not_refused _ _ (not_refused_causes w (Notify x) h).1.1.0))

  pub abort_order : refusal w (Abort x) ≡ None → x < length w.orders
  unfolding causes
  abort_order h = leb-false (length w.orders) x (not_refused _ _ (not_refused_causes w (Abort x) h).0)

  pub abort_state : refusal w (Abort x) ≡ None → is_before_log (exporter_of w x) ≡ true
  unfolding causes
  abort_state h = not-false (is_before_log (exporter_of w x)) (not_refused _ _ (not_refused_causes w (Abort x) h).1.1.0)

running_some : (o : Option Request) → not (is_running o) ≡ false → o ≢ None
running_some None h k = absurd (cc)
running_some (Some q) h k = cc

pub end_ticket : (w : World) (t : ℕ) → refusal w (End t) ≡ None → get_or w.tickets t None ≢ None
unfolding causes
end_ticket w t h = running_some (request_of w t) (not_refused _ _ (not_refused_causes w (End t) h).0)

pub end_near : (w : World) (t : ℕ) → refusal w (End t) ≡ None → t < length w.tickets
end_near w t h = elim (cases_lt t (length w.tickets)) [ inl m ↦ m | inr m ↦ absurd (end_ticket w t h (get_or_past w.tickets t None m)) ]

pub begin_dir : (w : World) (r d : ℕ) → refusal w (Begin r d) ≡ None → d < length w.parents
unfolding causes
begin_dir w r d h = there_near w d (not-false (is_present w d) (not_refused _ _ (not_refused_causes w (Begin r d) h).1.1.0))

pub begin_rank : (w : World) (r d : ℕ) → refusal w (Begin r d) ≡ None → r < w.ranks
unfolding causes
begin_rank w r d h = leb-false w.ranks r (not_refused _ _ (not_refused_causes w (Begin r d) h).0)

pub deliver_near : (w : World) (m : ℕ) → refusal w (Deliver m) ≡ None → m < length w.sent
unfolding causes
deliver_near w m h = leb-false (length w.sent) m (not_refused _ _ (not_refused_causes w (Deliver m) h).0)

pub item_at : {A : Type 0} (xs : List A) (k : ℕ) (a : A) → k < length xs → a ≡ get_or xs k a → slice_get xs k ≡ Some a
item_at [] k a h e = absurd (omega arith)
item_at (x ∷ xs) zero a h e = ap Some (sym e)
item_at (x ∷ xs) (suc k) a h e = item_at xs k a (omega arith) e

module _ (w : World) (p : ℕ) (h : refusal w (Event.Made p) ≡ None) where
  pub made_parent : p < length w.parents
  unfolding causes
  made_parent = there_near w p (not-false (is_present w p) (not_refused _ _ (not_refused_causes w (Event.Made p) h).0))

  pub made_few : length w.parents < w.limit
  unfolding causes
  made_few = leb-false w.limit (length w.parents) (not_refused _ _ (not_refused_causes w (Event.Made p) h).1.0)

  pub made_has : (a : ℕ) × (authority w p ≡ Some a) × (frozen_by w a p ≡ None)
  unfolding causes
  made_has = held_free w p (authority w p) (not_refused_causes w (Event.Made p) h).1.1.0

module _ (w : World) (d : ℕ) (h : refusal w (Event.Gone d) ≡ None) where
  pub gone_dir : d ≢ 0
  unfolding causes
  gone_dir = nonzero d (not_refused _ _ (not_refused_causes w (Event.Gone d) h).0)
    where
      nonzero : (n : ℕ) → eqb n 0 ≡ false → n ≢ 0
      nonzero n e = grind arith

  pub gone_there : is_present w d ≡ true
  unfolding causes
  gone_there = not-false (is_present w d) (not_refused _ _ (not_refused_causes w (Event.Gone d) h).1.0)

  pub gone_closed : open_export w d ≡ None
  unfolding causes
  gone_closed = busy_none (open_export w d) (not_refused_causes w (Event.Gone d) h).1.1.1.0

  pub gone_idle : not_yet (running_on w (d ∷ [])) ≡ None
  unfolding causes
  gone_idle = (not_refused_causes w (Event.Gone d) h).1.1.1.1.0

  pub gone_has : (a : ℕ) × (authority w d ≡ Some a)
  unfolding causes
  gone_has = not_stopped w (authority w d) (not_refused_causes w (Event.Gone d) h).1.1.1.1.1.0

-- an export that may start

module _ (w : World) (from to : ℕ) (dirs : List ℕ) (h : refusal w (Start from to dirs) ≡ None) where
  pub start_present : list_all (is_present w) dirs ≡ true
  unfolding causes
  start_present = not-false (list_all (is_present w) dirs) (not_refused _ _ (not_refused_causes w (Start from to dirs) h).1.1.1.1.0)

  pub start_there : (d : ℕ) → is_among dirs d ≡ true → d < length w.parents
  start_there d i = there_near w d (all_there w dirs start_present d i)

  pub start_few : length w.orders < 65536
  unfolding causes
  start_few = leb-false 65536 (length w.orders) (not_refused _ _ (not_refused_causes w (Start from to dirs) h).1.1.1.1.1.1.1.0)
