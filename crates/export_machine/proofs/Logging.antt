-- Which event logs an export.
use Rattle.std.proofs.Common.{◌≡◌, ℕ, false, Option, Some, None, refl, sym}
use Rattle.std.specs.List.{slice_get}
use Rattle.export_protocol.specs.declared.message.Message.{Message}
use Rattle.export_protocol.specs.declared.step_error.StepError.{StepError}
use Rattle.export_protocol.specs.declared.event.Event.{Event}
use Rattle.export_protocol.specs.declared.journal.JournalEntry.{JournalEntry}
use Rattle.export_protocol.specs.Cluster.{World}
use Rattle.export_protocol.specs.Authority.{authority}
use Rattle.export_protocol.specs.Step.{refusal}
use Rattle.export_protocol.specs.declared.event.Event.TheVariants.{Deliver}
use Rattle.export_protocol.specs.Entries.{Entry, entry, unless_refused, accepted_entry, delivered_entry, entered_by, is_log, logs_export}

module _ (w : World) where
  by_not : (o : Option ℕ) (e : JournalEntry) → is_log (Some (record { rank = 0; entry = e })) ≡ false → is_log (entered_by o e) ≡ false
  by_not None e h = refl
  by_not (Some r) e h = h

  unless_not : (r : Option StepError) (o : Option Entry) → is_log o ≡ false → false ≡ is_log (unless_refused r o)
  unless_not None o h = sym h
  unless_not (Some f) o h = refl

  pub delivered_logs : (k : ℕ) (m : Message) → refusal w (Deliver k) ≡ None → slice_get w.sent k ≡ Some m
      → logs_export w (Deliver k) ≡ is_log (delivered_entry w (Some m))
  unfolding logs_export entry
  delivered_logs k m h e = rw (h, e) refl

  pub other_event : (e : Event) → ((k : ℕ) → e ≡ Event.Deliver k → ⊥) → false ≡ logs_export w (e)
  unfolding logs_export entry
  other_event e n = unless_not (refusal w (e)) (accepted_entry w (e)) (go e n)
    where
      go : (f : Event) → ((k : ℕ) → f ≡ Event.Deliver k → ⊥) → is_log (accepted_entry w (f)) ≡ false
      go (Event.Deliver k) l = absurd (l k refl)
      go (Event.Made p) l = by_not (authority w p) (JournalEntry.Made _) refl
      go (Event.Gone d) l = by_not (authority w d) (JournalEntry.Gone d) refl
      go _ l = refl
