-- Counts that every event keeps within the count of events.
use Rattle.std.proofs.Common.{◌≡◌, ℕ, zero, suc, ◌+◌, ◌<◌, ◌≤◌, Bool, true, false, ◌&&◌, cond, Vec, List, [], ◌∷◌, ◌++◌, length}
use Rattle.std.proofs.Common.{get_or, set, map, Option, Some, None, Ok, Err, Result, refl, sym, ap, ◌∙◌, subst, inl, inr, arith}
use Rattle.std.proofs.lemmas.Bool.{and_parts, cases_eq}
use Rattle.std.specs.List.{slice_get}
use Rattle.std.specs.Result.{OnOk}
use Rattle.std.proofs.lemmas.List.{length-set}
use Rattle.export_protocol.specs.declared.exporter.ExporterState.{ExporterState}
use Rattle.export_protocol.specs.declared.importer.ImporterState.{ImporterState}
use Rattle.export_protocol.specs.declared.message.Message.{Message}
use Rattle.export_protocol.specs.declared.message.Message.TheVariants.{Discover}
use Rattle.export_protocol.specs.declared.journal.JournalEntry.{JournalEntry}
use Rattle.export_protocol.specs.declared.event.Reply.{Reply}
use Rattle.export_protocol.specs.declared.step_error.StepError.{StepError}
use Rattle.export_machine.specs.declared.records.Records.{Records}
use Rattle.export_protocol.specs.Cluster.{World}
use Rattle.mds_types.specs.declared.order.Order.{Order}
use Rattle.export_protocol.specs.Authority.{no_order, order_in, exporter_of, importer_of, is_stopped, authority, open_export}
use Rattle.export_protocol.specs.declared.moves.Transition.{Transition}
use Rattle.export_protocol.specs.Step.{Outcome, refusal, happens, step, counted, comes, delivered, ignored, receiver, repeats, journaled_by}
use Rattle.export_protocol.specs.Step.{restarts, changed, move, moved, acts, about, exporter_moves, importer_moves, notes, replies}
use Rattle.export_protocol.specs.declared.event.Event.{Event}
use Rattle.export_protocol.specs.declared.event.Event.TheVariants.{Begin, End, Start, Deliver, Froze, Notify, Abort, Stop, Restart, Ask}
use Rattle.export_protocol.specs.View.{IsReached, IsAnswer}
use Rattle.export_machine.specs.Room.{IsRefusal, IsAsRoomy, KeepsRoom}
use Rattle.export_machine.specs.Columns.{has_spare}
use Rattle.export_machine.specs.Kept.{State, world_of, indexes_of, IsKept, IsIndexed, has_room}
use Rattle.export_machine.specs.Kept.{has_entry_places, has_list_places, places_of, has_dir_places, has_export_places, is_spare}
use Rattle.export_machine.specs.Kept.{entered_at, is_ready, is_ready_entry, is_ready_list, state_of}
use Rattle.export_protocol.proofs.Views.{push_same, push_other, length_push, map_at_length}
use Rattle.export_protocol.proofs.Frame.{Framed, delivered_frame, happens_fixed}
use Rattle.export_protocol.proofs.Reached.{reached_step}
use Rattle.export_protocol.proofs.Accepted.{room_left, made_few}
use Rattle.export_machine.proofs.Starting.{start_distinct}

-- at most one message more
pub record Sends (w v : World) : Type 0 where
  pub sent : length v.sent ≤ length w.sent + 1
  pub events : v.events ≡ w.events

none : (w v : World) → v.sent ≡ w.sent → v.events ≡ w.events → Sends w v
none w v s e = record { sent = rw s (omega arith); events = e }

one : (w v : World) (m : Message) → v.sent ≡ w.sent ++ m ∷ [] → v.events ≡ w.events → Sends w v
one w v m s e = record { sent = rw (s, length_push w.sent m) (omega arith); events = e }

-- a move sends at most once
moved_sends : (w : World) (x r : ℕ) (v : Transition) → Sends w (moved w x r v).world
moved_sends w x r v = ends (notes (importer_moves (exporter_moves w x v.exporter) x v.importer) r v.entry) v.sends
    (noted (importer_moves (exporter_moves w x v.exporter) x v.importer) v.entry (states v.exporter v.importer).0 (states v.exporter v.importer).1).0
    (noted (importer_moves (exporter_moves w x v.exporter) x v.importer) v.entry (states v.exporter v.importer).0 (states v.exporter v.importer).1).1
  where
    states : (e : Option ExporterState) (i : Option ImporterState) →
        ((importer_moves (exporter_moves w x e) x i).sent ≡ w.sent) × ((importer_moves (exporter_moves w x e) x i).events ≡ w.events)
    states e i = (grind arith, grind arith)

    noted : (u : World) (o : Option JournalEntry) → u.sent ≡ w.sent → u.events ≡ w.events → ((notes u r o).sent ≡ w.sent) × ((notes u r o).events ≡ w.events)
    noted u None s e = (s, e)
    noted u (Some n) s e = (s, e)

    ends : (u : World) (o : Option Message) → u.sent ≡ w.sent → u.events ≡ w.events → Sends w (replies u o).world
    ends u None s e = none w u s e
    ends u (Some m) s e = one w (replies u (Some m)).world m (ap (λ ms. ms ++ m ∷ []) s) e

module _ (w : World) where
  acts_sends : (m : Message) (o : Option Transition) → Sends w (acts w m o).world
  acts_sends m None = none w w refl refl
  acts_sends m (Some v) = moved_sends w (about m) (receiver w m) v

  comes_sends : (m : Message) → Sends w (comes w m).world
  comes_sends m = acts_sends m (move m (exporter_of w (about m)) (importer_of w (about m)))

  either_sends : (b : Bool) (o : Outcome) → Sends w o.world → Sends w (cond b (ignored w) o).world
  either_sends true o s = none w w refl refl
  either_sends false o s = s

  delivered_sends : (o : Option Message) → Sends w (delivered w o).world
  delivered_sends None = none w w refl refl
  delivered_sends (Some m) = either_sends (is_stopped w (receiver w m)) (comes w m) (comes_sends m)

-- what is kept of a world in addition to the invariant of exports
pub record Bounded (w : World) : Type 0 where
  pub distinct : (x : ℕ) → repeats (order_in w.orders x).dirs ≡ true → ⊥
  pub sent : length w.sent ≤ w.events
  pub tickets : length w.tickets ≤ w.events
  pub within : length w.parents ≤ w.limit

-- orders and parents stay
steady : (w v : World) → Bounded w → Sends w v → v.orders ≡ w.orders → length v.tickets ≤ length w.tickets + 1
    → length v.parents ≡ length w.parents → v.limit ≡ w.limit → Bounded (counted v)
steady w v b s o t p l = record {
  distinct = λ x h. b.distinct x (ap (λ (os : List Order). repeats (order_in os x).dirs) (sym o) ∙ h);
  sent = omega (arith, s.sent, s.events, b.sent);
  tickets = omega (arith, t, s.events, b.tickets);
  within = rw (p, l) b.within;
}

framed : (w v : World) → Bounded w → Sends w v → Framed w v → Bounded (counted v)
framed w v b s f = steady w v b s f.orders (rw f.tickets (omega arith)) (ap length f.parents) f.limit

module _ (w : World) (b : Bounded w) where
  made_bounded : (p : ℕ) → length w.parents < w.limit → (o : Option ℕ)
      → Bounded (counted (record (journaled_by w o (JournalEntry.Made (length w.parents))) {
        parents = w.parents ++ Some p ∷ [];
        named = w.named ++ o ∷ [];
      }))
  made_bounded p l None = record {
    distinct = b.distinct;
    sent = omega (arith, b.sent);
    tickets = omega (arith, b.tickets);
    within = rw (length_push w.parents (Some p)) (omega arith);
  }
  made_bounded p l (Some a) = record {
    distinct = b.distinct;
    sent = omega (arith, b.sent);
    tickets = omega (arith, b.tickets);
    within = rw (length_push w.parents (Some p)) (omega arith);
  }

  gone_bounded : (d : ℕ) (o : Option ℕ)
      → Bounded (counted (record (journaled_by w o (JournalEntry.Gone d)) { parents = set w.parents d None; named = set w.named d None }))
  gone_bounded d None = record {
    distinct = b.distinct;
    sent = omega (arith, b.sent);
    tickets = omega (arith, b.tickets);
    within = rw (length-set w.parents d None) b.within;
  }
  gone_bounded d (Some a) = record {
    distinct = b.distinct;
    sent = omega (arith, b.sent);
    tickets = omega (arith, b.tickets);
    within = rw (length-set w.parents d None) b.within;
  }

  restart_bounded : (r : ℕ) (c : Bool) → Bounded (counted (cond c (changed (restarts w r)) (ignored w)).world)
  restart_bounded r true = steady w (restarts w r) b (none w _ refl refl) refl (omega arith) refl refl
  restart_bounded r false = steady w w b (none w w refl refl) refl (omega arith) refl refl

  pub happens_bounded : (e : Event) → refusal w e ≡ None → Bounded (counted (happens w e).world)
  unfolding happens
  happens_bounded (Event.Made p) h = made_bounded p (made_few w p h) (authority w p)
  happens_bounded (Event.Gone d) h = gone_bounded d (authority w d)
  happens_bounded (Begin r d) h = steady w _ b (none w _ refl refl) refl
      (rw (length_push w.tickets (Some (record { rank = r; dir = d }))) (omega arith)) refl refl
  happens_bounded (End t) h = steady w _ b (none w _ refl refl) refl (rw (length-set w.tickets t None) (omega arith)) refl refl
  happens_bounded (Start f t ds) h = record {
    distinct = λ x k. elim (cases_eq x (length w.orders)) [
      | inl e ↦ absurd (new (ap (λ (y : ℕ). repeats (get_or (w.orders ++ record { from = f; to = t; dirs = ds } ∷ []) y no_order).dirs) (sym e) ∙ k))
      | inr n ↦ b.distinct x (ap (λ (o : Order). repeats o.dirs) (sym (push_other w.orders (record { from = f; to = t; dirs = ds }) no_order x n)) ∙ k)
    ];
    sent = rw (length_push w.sent (Discover (length w.orders))) (omega (arith, b.sent));
    tickets = omega (arith, b.tickets);
    within = b.within;
  }
    where
      new : repeats (get_or (w.orders ++ record { from = f; to = t; dirs = ds } ∷ []) (length w.orders) no_order).dirs ≡ true → ⊥
      new k = differ (sym (ap (λ (o : Order). repeats o.dirs) (push_same w.orders (record { from = f; to = t; dirs = ds }) no_order)) ∙ k)
          (start_distinct w f t ds h)
        where
          differ : repeats ds ≡ true → repeats ds ≡ false → ⊥
          differ i j = cc
  happens_bounded (Deliver k) h = framed w _ b (delivered_sends w (slice_get w.sent k)) (delivered_frame w (slice_get w.sent k))
  happens_bounded (Froze x) h = steady w _ b (one w _ _ refl refl) refl (omega arith) refl refl
  happens_bounded (Notify x) h = steady w _ b (one w _ _ refl refl) refl (omega arith) refl refl
  happens_bounded (Abort x) h = steady w _ b (one w _ _ refl refl) refl (omega arith) refl refl
  happens_bounded (Stop r) h = steady w _ b (none w _ refl refl) refl (rw (map_at_length _ w.tickets) (omega arith)) refl refl
  happens_bounded (Restart r) h = restart_bounded r (is_stopped w r)
  happens_bounded (Ask x) h = steady w _ b (one w _ _ refl refl) refl (omega arith) refl refl

module _ (w : World) where
  journaled_events : (o : Option ℕ) (e : JournalEntry) → (journaled_by w o e).events ≡ w.events
  journaled_events None e = refl
  journaled_events (Some r) e = refl

  restart_events : (r : ℕ) (c : Bool) → (cond c (changed (restarts w r)) (ignored w)).world.events ≡ w.events
  restart_events r true = refl
  restart_events r false = refl

  pub happens_events : (e : Event) → (happens w e).world.events ≡ w.events
  unfolding happens
  happens_events (Event.Made p) = journaled_events (authority w p) (JournalEntry.Made (length w.parents))
  happens_events (Event.Gone d) = journaled_events (authority w d) (JournalEntry.Gone d)
  happens_events (Begin r d) = refl
  happens_events (End t) = refl
  happens_events (Start f t ds) = refl
  happens_events (Deliver k) = (delivered_sends w (slice_get w.sent k)).events
  happens_events (Froze x) = refl
  happens_events (Notify x) = refl
  happens_events (Abort x) = refl
  happens_events (Stop r) = refl
  happens_events (Restart r) = restart_events r (is_stopped w r)
  happens_events (Ask x) = refl

-- answers

pub answer_accepted : (w : World) (e : Event) → refusal w e ≡ None → step w e ≡ (Ok (happens w e).reply, counted (happens w e).world)
unfolding step
answer_accepted w e h = rw h refl

pub answer_refused : (w : World) (e : Event) (r : StepError) → refusal w e ≡ Some r → step w e ≡ (Err r, w)
unfolding step
answer_refused w e r h = rw h refl

-- a refusal, or out of memory
pub answer_refusal : (w v : World) (e : Event) (error : StepError) → IsRefusal w e error → v ≡ w → IsAnswer w e (Err error) v
answer_refusal w v e error (inl r) same = (inl (answer_refused w e error r), same)
answer_refusal w v e error (inr m) same = (inr (m.1, m.0), same)

-- after an accepted event
module _ (old new : Records) (e : Event) (reply : Reply) (kept : IsKept old) (accepted : refusal (world_of old) e ≡ None)
    (effect : happens (world_of old) e ≡ record { reply = reply; world = world_of new }) (indexed : IsIndexed (world_of new) (indexes_of new)) where
  happened : (happens (world_of old) e).world ≡ world_of new
  happened = ap (λ (o : Outcome). o.world) effect

  replied : (happens (world_of old) e).reply ≡ reply
  replied = ap (λ (o : Outcome). o.reply) effect

  pub stepped : step (world_of old) e ≡ (Ok reply, counted (world_of new))
  stepped = answer_accepted (world_of old) e accepted ∙ rw (happened, replied) refl

  bounded : Bounded (counted (world_of new))
  bounded = subst (λ (v : World). Bounded (counted v)) happened
      (happens_bounded (world_of old) (record { distinct = kept.distinct; sent = kept.sent; tickets = kept.tickets; within = kept.within }) e accepted)

  events_same : new.events ≡ old.events
  events_same = ap (λ (v : World). v.events) (sym happened) ∙ happens_events (world_of old) e

  counted_indexed : IsIndexed (counted (world_of new)) (indexes_of new)
  unfolding authority open_export
  counted_indexed = record {
    owners = indexed.owners;
    opened = indexed.opened;
    running = indexed.running;
    children = indexed.children;
    owner_places = indexed.owner_places;
    opened_places = indexed.opened_places;
    running_places = indexed.running_places;
    children_places = indexed.children_places;
    unmarked = indexed.unmarked;
    requests = indexed.requests;
    listed = indexed.listed;
    dropped_places = indexed.dropped_places;
  }

  pub kept_step : IsKept (record new { events = new.events + 1 })
  kept_step = record {
    reached = subst IsReached (ap (λ (p : Result Reply StepError × World). p.1) stepped) (reached_step (world_of old) kept.reached e);
    indexed = counted_indexed;
    distinct = bounded.distinct;
    sent = bounded.sent;
    tickets = bounded.tickets;
    counted = (let room : old.events < 1048576 = room_left (world_of old) e accepted in let same : new.events ≡ old.events = events_same in omega arith);
    within = bounded.within;
    few_dirs = rw (ap (λ (v : World). v.limit) (sym happened) ∙ (happens_fixed (world_of old) e).limit) kept.few_dirs;
    few_ranks = rw (ap (λ (v : World). v.ranks) (sym happened) ∙ (happens_fixed (world_of old) e).ranks) kept.few_ranks;
  }

-- memory

pub on_ok : {A E : Type 0} {P Q : Type 0} (r : Result A E) → (P → Q) → OnOk r P → OnOk r Q
on_ok (Ok a) f h = f h
on_ok (Err e) f h = h

-- what is kept speaks only of the lists
pub kept_same : (old new : Records) → world_of new ≡ world_of old → indexes_of new ≡ indexes_of old → IsKept old → IsKept new
kept_same old new w i k = record {
  reached = rw w k.reached;
  indexed = rw (w, i) k.indexed;
  distinct = λ x h. k.distinct x (ap (λ (v : World). repeats (order_in v.orders x).dirs) (sym w) ∙ h);
  sent = bound (λ (v : World). length v.sent) (λ (v : World). v.events) k.sent;
  tickets = bound (λ (v : World). length v.tickets) (λ (v : World). v.events) k.tickets;
  counted = bound (λ (v : World). v.events) (λ (v : World). 1048576) k.counted;
  within = bound (λ (v : World). length v.parents) (λ (v : World). v.limit) k.within;
  few_dirs = bound (λ (v : World). v.limit) (λ (v : World). 65536) k.few_dirs;
  few_ranks = bound (λ (v : World). v.ranks) (λ (v : World). 64) k.few_ranks;
}
  where
    bound : (f g : World → ℕ) → f (world_of old) ≤ g (world_of old) → f (world_of new) ≤ g (world_of new)
    bound f g h = (let a : f (world_of new) ≡ f (world_of old) = ap f w in let b : g (world_of new) ≡ g (world_of old) = ap g w in omega arith)

-- what is kept, of the world that a contract sees
pub reached_as : (r : Records) (s : State) → IsKept r → state_of r ≡ s → IsReached s.world
reached_as r s k v = subst (λ (t : State). IsReached t.world) v k.reached

pub accepted_as : (r : Records) {s : State} {e f : Event} → state_of r ≡ s → e ≡ f → refusal s.world e ≡ None → refusal (world_of r) f ≡ None
accepted_as r v i h = rw (← v, i) at h

-- the owner that is found is the authority
pub owned : (r : Records) (d : ℕ) {o q : Option ℕ} → IsKept r → o ≡ get_or r.dirs.owners d None → o ≡ q → authority (world_of r) d ≡ q
owned r d k e f = sym (k.indexed.owners d) ∙ (sym e ∙ f)

pub room_parts : (r : Records) (e : Event) → has_room r e ≡ true → (has_entry_places r (entered_at (world_of r) e) ≡ true) × (has_list_places r e ≡ true)
unfolding has_room
room_parts r e h = and_parts _ _ h

-- the room that a contract sees is the lists' own
places_are : {T A : Type 0} (js : List (Vec T A)) (r : ℕ) → get_or (map (λ j. has_spare j) js) r true ≡ is_spare (slice_get js r)
places_are [] zero = refl
places_are [] (suc r) = refl
places_are (j ∷ js) zero = refl
places_are (j ∷ js) (suc r) = places_are js r

both_places : {S T A : Type 0} (js : List (Vec S A)) (ls : List (Vec T A)) (r : ℕ)
    → get_or (places_of js ls) r true ≡ (is_spare (slice_get js r) && is_spare (slice_get ls r))
both_places [] ls r = places_are ls r
both_places (j ∷ js) [] zero = refl
both_places {T = T} (j ∷ js) [] (suc r) = both_places {T = T} js [] r
both_places (j ∷ js) (l ∷ ls) zero = refl
both_places (j ∷ js) (l ∷ ls) (suc r) = both_places js ls r

pub ready_is : (r : Records) (e : Event) → is_ready (state_of r) e ≡ has_room r e
unfolding is_ready has_room
ready_is r e = both (is_ready_entry (state_of r).room (entered_at (world_of r) e)) (has_entry_places r (entered_at (world_of r) e))
    (is_ready_list (state_of r).room e) (has_list_places r e) (entry (entered_at (world_of r) e)) (lists e)
  where
    both : (a b c d : Bool) → a ≡ b → c ≡ d → (a && c) ≡ (b && d)
    both a b c d h k = rw (h, k) refl

    entry : (o : Option ℕ) → is_ready_entry (state_of r).room o ≡ has_entry_places r o
    entry None = refl
    entry (Some k) = both_places r.journals.items r.open_at.items k

    lists : (f : Event) → is_ready_list (state_of r).room f ≡ has_list_places r f
    lists (Event.Made p) = refl
    lists (Event.Gone d) = refl
    lists (Begin k d) = ap (λ b. has_spare r.tickets && b) (places_are r.tickets_at.items k)
    lists (End t) = refl
    lists (Start f t ds) = ap (λ b. r.exports.spare && has_spare r.sent && b) (places_are r.open_at.items f)
    lists (Deliver k) = refl
    lists (Froze x) = refl
    lists (Notify x) = refl
    lists (Abort x) = refl
    lists (Stop k) = refl
    lists (Restart k) = refl
    lists (Ask x) = refl

-- room that is kept list by list is kept for each event

and_keeps : (a b c d : Bool) → (a ≡ true → c ≡ true) → (b ≡ true → d ≡ true) → (a && b) ≡ true → (c && d) ≡ true
and_keeps a b c d h k i = (let p = and_parts a b i in rw (h p.0, k p.1) refl)

module _ (old new : Records) (roomy : IsAsRoomy old new) (world : world_of new ≡ world_of old) where
  dir_places : has_dir_places old ≡ true → has_dir_places new ≡ true
  dir_places = and_keeps _ _ _ _ roomy.dirs roomy.marks

  export_places : (rank : ℕ) → has_export_places old rank ≡ true → has_export_places new rank ≡ true
  export_places rank = and_keeps _ _ _ _ (and_keeps _ _ _ _ roomy.exports roomy.sent) (roomy.open_at rank)

  pub lists_kept : (e : Event) → has_list_places old e ≡ true → has_list_places new e ≡ true
  lists_kept (Event.Made p) h = dir_places h
  lists_kept (Event.Gone d) h = refl
  lists_kept (Begin r d) h = and_keeps _ _ _ _ roomy.tickets (roomy.tickets_at r) h
  lists_kept (End t) h = refl
  lists_kept (Start f t ds) h = export_places f h
  lists_kept (Deliver k) h = roomy.sent h
  lists_kept (Froze x) h = roomy.sent h
  lists_kept (Notify x) h = roomy.sent h
  lists_kept (Abort x) h = roomy.sent h
  lists_kept (Stop r) h = refl
  lists_kept (Restart r) h = refl
  lists_kept (Ask x) h = roomy.sent h

  pub places_kept : (o : Option ℕ) → has_entry_places old o ≡ true → has_entry_places new o ≡ true
  places_kept None h = refl
  places_kept (Some rank) h = and_keeps _ _ _ _ (roomy.journals rank) (roomy.open_at rank) h

  room_kept : (e : Event) → has_room old e ≡ true → has_room new e ≡ true
  unfolding has_room
  room_kept e h =
      rw world (and_keeps _ _ _ _ (places_kept (entered_at (world_of old) e)) (lists_kept e) h)

  pub keeps_room : KeepsRoom (state_of old) (state_of new)
  keeps_room e h = ready_is new e ∙ room_kept e (sym (ready_is old e) ∙ h)

pub grown_room : (old mid new : Records) (e : Event) (rank : Option ℕ) → rank ≡ entered_at (world_of old) e → world_of new ≡ world_of old → IsAsRoomy mid new →
    has_entry_places mid rank ≡ true → has_list_places new e ≡ true → has_room new e ≡ true
unfolding has_room
grown_room old mid new e rank r w roomy p l = rw (l, w, ← r, kept rank p) refl
  where
    kept : (o : Option ℕ) → has_entry_places mid o ≡ true → has_entry_places new o ≡ true
    kept None h = refl
    kept (Some k) h = and_keeps _ _ _ _ (roomy.journals k) (roomy.open_at k) h
