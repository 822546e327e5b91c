-- What an event leaves of the journals, the map and the tree.
use Rattle.std.proofs.Common.{◌≡◌, ◌≢◌, ℕ, ◌<◌, ◌≤◌, Bool, true, false, eqb, cond, List, [], ◌∷◌, ◌++◌}
use Rattle.std.proofs.Common.{length, get_or, set, Option, Some, None, refl, sym, ap, ◌∙◌, inl, inr, arith}
use Rattle.std.specs.List.{slice_get}
use Rattle.std.proofs.lemmas.Bool.{cases_eq, cases_lt}
use Rattle.std.proofs.lemmas.List.{get_or-set_other, get_or_past}
use Rattle.export_protocol.specs.declared.exporter.ExporterState.{ExporterState}
use Rattle.export_protocol.specs.declared.importer.ImporterState.{ImporterState}
use Rattle.export_protocol.specs.declared.journal.JournalEntry.{JournalEntry}
use Rattle.export_protocol.specs.declared.message.Message.{Message}
use Rattle.export_protocol.specs.declared.step_error.StepError.{StepError}
use Rattle.export_protocol.specs.declared.exporter.ExporterState.TheVariants.{Logged, Done}
use Rattle.export_protocol.specs.Cluster.{World}
use Rattle.export_protocol.specs.Authority.{is_inside, from_of, to_of, exporter_of, importer_of, journal_of, named_of, authority, is_stopped}
use Rattle.export_protocol.specs.declared.moves.Transition.{Transition}
use Rattle.export_protocol.specs.Step.{step, refusal, happens, journals, journaled_by, exporter_to, names_importer}
use Rattle.export_protocol.specs.Step.{receiver, comes, delivered, ignored, changed, restarts, move}
use Rattle.export_protocol.specs.Step.{moved, acts, about, exporter_moves, importer_moves, notes, replies}
use Rattle.export_protocol.specs.declared.event.Event.{Event}
use Rattle.export_protocol.specs.declared.event.Event.TheVariants.{Deliver, Notify, Restart}
use Rattle.export_protocol.specs.View.{IsReached}
use Rattle.export_protocol.specs.Entries.{Entry, IsRecorded, entered, entered_by, named_by, parents_after}
use Rattle.export_protocol.specs.Entries.{accepted_entry, delivered_entry, comes_entry, move_entry, noted, entry}
use Rattle.export_protocol.proofs.Views.{journal_at, journal_other, push_same, push_other, map_at_get, map_at_past}
use Rattle.export_protocol.proofs.Lookups.{itself}
use Rattle.export_protocol.proofs.Frame.{delivered_frame, happens_fixed}
use Rattle.export_protocol.proofs.Events.{set_none}
use Rattle.export_protocol.proofs.Found.{orders_by}
use Rattle.export_protocol.proofs.Accepted.{as_rank, exporter_rank, receiver_rank, numbers_by, notify_order, notify_state, made_has, gone_has}
use Rattle.export_protocol.proofs.Found.{notify_there}

-- the entries that messages make: none makes, removes or names a directory

abbrev pub is_plain : JournalEntry → Bool
is_plain (JournalEntry.Made d) = false
is_plain (JournalEntry.Gone d) = false
is_plain (JournalEntry.Notified x) = false
is_plain _ = true

abbrev pub is_quiet : Option Entry → Bool
is_quiet None = true
is_quiet (Some e) = is_plain e.entry

pub quiet_move : (r : ℕ) (m : Message) (e : ExporterState) (i : ImporterState) → is_quiet (move_entry r (move m e i)) ≡ true
quiet_move r m e i = grind arith

apart : (m n : ℕ) → m ≢ n → eqb m n ≡ false
apart m n h = grind arith

-- journals

module _ (w : World) (a : ℕ) (e : JournalEntry) (near : a < length w.journals) where
  pub written : (r : ℕ) → journal_of (journals w a e) r ≡ entered r (Some (record { rank = a; entry = e })) (journal_of w r)
  written r = elim (cases_eq r a) [
    | inl i ↦ rw (i, journal_at w a e near, itself a) refl
    | inr n ↦ journal_other w a e near r n ∙ rw (apart a r (λ k. n (sym k))) refl
  ]

module _ (w : World) (r : ℕ) where
  -- at most the entry came
  abbrev pub Grows : World → Option Entry → Type 0
  Grows v o = journal_of v r ≡ entered r o (journal_of w r)

  -- any move
  moved_grows : (x a : ℕ) (v : Transition) → a < length w.journals → Grows (moved w x a v).world (noted a v.entry)
  moved_grows x a v near = replied (notes (importer_moves (exporter_moves w x v.exporter) x v.importer) a v.entry) v.sends (noted a v.entry)
      (noting (importer_moves (exporter_moves w x v.exporter) x v.importer) v.entry (states v.exporter v.importer))
    where
      states : (e : Option ExporterState) (i : Option ImporterState) → (importer_moves (exporter_moves w x e) x i).journals ≡ w.journals
      states e i = grind arith

      noting : (u : World) (o : Option JournalEntry) → u.journals ≡ w.journals → Grows (notes u a o) (noted a o)
      noting u None j = ap (λ (js : List (List JournalEntry)). get_or js r []) j
      noting u (Some e) j = written u a e (rw j near) r ∙ ap
          (λ (js : List (List JournalEntry)). entered r (Some (record { rank = a; entry = e })) (get_or js r [])) j

      replied : (u : World) (m : Option Message) (o : Option Entry) → Grows u o → Grows (replies u m).world o
      replied u None o h = h
      replied u (Some m) o h = h

  acts_grows : (m : Message) (o : Option Transition) → receiver w m < length w.journals → Grows (acts w m o).world (move_entry (receiver w m) o)
  acts_grows m None near = refl
  acts_grows m (Some v) near = moved_grows (about m) (receiver w m) v near

  comes_grows : (m : Message) → receiver w m < length w.journals → Grows (comes w m).world (comes_entry w m)
  comes_grows m near = acts_grows m (move m (exporter_of w (about m)) (importer_of w (about m))) near

  either_grows : (b : Bool) (m : Message) → Grows (comes w m).world (comes_entry w m) →
      Grows (cond b (ignored w) (comes w m)).world (cond b None (comes_entry w m))
  either_grows true m h = refl
  either_grows false m h = h

  delivered_grows : (o : Option Message) → ((m : Message) → o ≡ Some m → receiver w m < length w.journals) → Grows (delivered w o).world (delivered_entry w o)
  delivered_grows None near = refl
  delivered_grows (Some m) near = either_grows (is_stopped w (receiver w m)) m (comes_grows m (near m refl))

  by_grows : (o : Option ℕ) (e : JournalEntry) → ((a : ℕ) → o ≡ Some a → a < length w.journals) → Grows (journaled_by w o e) (entered_by o e)
  by_grows None e near = refl
  by_grows (Some a) e near = written w a e (near a refl) r

  restart_grows : (k : ℕ) (b : Bool) → Grows (cond b (changed (restarts w k)) (ignored w)).world None
  restart_grows k true = refl
  restart_grows k false = refl

-- a message names no directory
module _ (w : World) where
  pub delivered_named : (d : ℕ) (o : Option Message) → named_of w d ≡ named_by w d (delivered_entry w o)
  delivered_named d None = refl
  delivered_named d (Some m) = either (is_stopped w (receiver w m)) (row m)
    where
      either : (b : Bool) → named_of w d ≡ named_by w d (comes_entry w m) → named_of w d ≡ named_by w d (cond b None (comes_entry w m))
      either true h = refl
      either false h = h

      plain : (k : ℕ) (e : JournalEntry) → is_plain e ≡ true → named_of w d ≡ named_by w d (Some (record { rank = k; entry = e }))
      plain k e h = grind arith

      by_entry : (o : Option Entry) → is_quiet o ≡ true → named_of w d ≡ named_by w d o
      by_entry None h = refl
      by_entry (Some e) h = plain e.rank e.entry h

      row : (n : Message) → named_of w d ≡ named_by w d (comes_entry w n)
      row n = by_entry (comes_entry w n) (quiet_move (receiver w n) n (exporter_of w (about n)) (importer_of w (about n)))

module _ (w : World) (reached : IsReached w) where
  receiver_near : (k : ℕ) (m : Message) → slice_get w.sent k ≡ Some m → receiver w m < length w.journals
  receiver_near k m h = receiver_rank w reached m (orders_by w reached (about m) (length w.orders) (λ safe. safe.tables.known k m h))

  happens_grows : (r : ℕ) (e : Event) → refusal w e ≡ None → Grows w r (happens w e).world (accepted_entry w e)
  unfolding happens
  happens_grows r (Event.Made p) h = by_grows w r (authority w p) (JournalEntry.Made (length w.parents)) (λ a. as_rank w reached p a)
  happens_grows r (Event.Gone d) h = by_grows w r (authority w d) (JournalEntry.Gone d) (λ a. as_rank w reached d a)
  happens_grows r (Deliver k) h = delivered_grows w r (slice_get w.sent k) (receiver_near k)
  happens_grows r (Notify x) h = written (exporter_to w x Done) (from_of w x) (JournalEntry.Notified x) (exporter_rank w reached x (notify_order w x h)) r
  happens_grows r (Restart k) h = restart_grows w r k (is_stopped w k)
  happens_grows r _ h = refl

  -- the map

  made_named : (p d : ℕ) → (o : Option ℕ) → ((a : ℕ) → o ≡ Some a → length w.parents ≡ length w.named) → o ≢ None →
      get_or (w.named ++ o ∷ []) d None ≡ named_by w d (entered_by o (JournalEntry.Made (length w.parents)))
  made_named p d None same some = absurd (some refl)
  made_named p d (Some a) same some = elim (cases_eq d (length w.parents)) [
    | inl i ↦ rw (i, itself (length w.parents), same a refl) (push_same w.named (Some a) None)
    | inr n ↦ push_other w.named (Some a) None d (λ e. n (e ∙ sym (same a refl))) ∙ rw (apart (length w.parents) d (λ k. n (sym k))) refl
  ]

  gone_named : (c d : ℕ) (o : Option ℕ) → o ≢ None → get_or (set w.named c None) d None ≡ named_by w d (entered_by o (JournalEntry.Gone c))
  gone_named c d None some = absurd (some refl)
  gone_named c d (Some a) some = elim (cases_eq d c) [
    | inl i ↦ rw (i, itself c, set_none w.named c) refl
    | inr n ↦ get_or-set_other w.named c d None None n ∙ rw (apart c d (λ k. n (sym k))) refl
  ]

  notified_named : (x d : ℕ) → exporter_of w x ≡ Logged →
      named_of (names_importer w x) d ≡ (cond (is_inside w x d) (Some (to_of w x)) (named_of w d))
  notified_named x d s = elim (cases_lt d (length w.named)) [
    | inl near ↦ map_at_get (λ c rank. cond (is_inside w x c) (Some (to_of w x)) rank) w.named d None None near
    | inr far ↦
        (let o : is_inside w x d ≡ false = outside (is_inside w x d) refl far in
        map_at_past (λ c rank. cond (is_inside w x c) (Some (to_of w x)) rank) w.named d None far ∙ rw o (sym (get_or_past w.named d None far)))
  ]
    where
      outside : (b : Bool) → is_inside w x d ≡ b → length w.named ≤ d → b ≡ false
      outside false e l = refl
      outside true e l = (let near : d < length w.named = notify_there w reached x s d e in absurd (omega arith))

  restart_named : (k d : ℕ) (b : Bool) → named_of (cond b (changed (restarts w k)) (ignored w)).world d ≡ named_of w d
  restart_named k d true = refl
  restart_named k d false = refl

  some_rank : (o : Option ℕ) → ((a : ℕ) × (o ≡ Some a)) → o ≢ None
  some_rank o a n = cc (a.1, n)

  happens_named : (d : ℕ) (e : Event) → refusal w e ≡ None → named_of (happens w e).world d ≡ named_by w d (accepted_entry w e)
  unfolding happens
  happens_named d (Event.Made p) h =
      made_named p d (authority w p) (λ a i. numbers_by w reached (length w.parents) (length w.named) (λ safe. safe.numbered))
      (some_rank (authority w p) ((made_has w p h).0, (made_has w p h).1))
  happens_named d (Event.Gone c) h = gone_named c d (authority w c) (some_rank (authority w c) (gone_has w c h))
  happens_named d (Deliver k) h = ap (λ (ns : List (Option ℕ)). get_or ns d None) (delivered_frame w (slice_get w.sent k)).named
      ∙ delivered_named w d (slice_get w.sent k)
  happens_named d (Notify x) h = notified_named x d (notify_state w x h)
  happens_named d (Restart k) h = restart_named k d (is_stopped w k)
  happens_named d _ h = refl

  -- the tree

  happens_parents : (e : Event) → (happens w e).world.parents ≡ parents_after w e
  unfolding happens
  happens_parents (Deliver k) = (delivered_frame w (slice_get w.sent k)).parents
  happens_parents (Restart k) = go (is_stopped w k)
    where
      go : (b : Bool) → (cond b (changed (restarts w k)) (ignored w)).world.parents ≡ w.parents
      go true = refl
      go false = refl
  happens_parents (Event.Made p) = refl
  happens_parents _ = refl

module _ (w : World) (reached : IsReached w) (e : Event) where
  pub is_recorded : IsRecorded w e
  unfolding step entry
  is_recorded = go (refusal w e) refl
    where
      go : (o : Option StepError) → refusal w e ≡ o → IsRecorded w e
      go (Some f) i = record {
        journals = λ r. rw i refl;
        map = λ d. rw i refl;
        parents = λ h. absurd (cc);
        limit = rw i refl;
        ranks = rw i refl;
      }
      go None i = record {
        journals = λ r. rw i (happens_grows w reached r e i);
        map = λ d. rw i (happens_named w reached d e i);
        parents = λ h. rw i (happens_parents w reached e);
        limit = rw i (happens_fixed w e).limit;
        ranks = rw i (happens_fixed w e).ranks;
      }
