-- A message that comes changes only states, journals and messages.
use Rattle.std.proofs.Common.{◌≡◌, ℕ, Bool, true, false, cond, length, Option, Some, None, refl, ◌∙◌}
use Rattle.std.specs.List.{slice_get}
use Rattle.export_protocol.specs.declared.journal.JournalEntry.{JournalEntry}
use Rattle.export_protocol.specs.Step.{happens, journaled_by, changed, restarts}
use Rattle.export_protocol.specs.declared.event.Event.{Event}
use Rattle.export_protocol.specs.declared.event.Event.TheVariants.{Deliver, Restart}
use Rattle.export_protocol.specs.declared.exporter.ExporterState.{ExporterState}
use Rattle.export_protocol.specs.declared.importer.ImporterState.{ImporterState}
use Rattle.export_protocol.specs.declared.message.Message.{Message}
use Rattle.export_protocol.specs.Cluster.{World}
use Rattle.export_protocol.specs.Authority.{exporter_of, importer_of, is_stopped, authority}
use Rattle.export_protocol.specs.declared.moves.Transition.{Transition}
use Rattle.export_protocol.specs.Step.{Outcome, move, about, exporter_moves, importer_moves, notes, replies, moved, acts, comes, receiver, delivered, ignored}

-- a message that comes while the export is in this state at its exporter, or at its importer

abbrev pub finds_exporter : World → Message → ExporterState → Outcome
finds_exporter w m state = acts w m (move m state (importer_of w (about m)))

abbrev pub finds_importer : World → Message → ImporterState → Outcome
finds_importer w m state = acts w m (move m (exporter_of w (about m)) state)

-- nothing else changed
pub record Framed (w v : World) : Type 0 where
  pub tickets : v.tickets ≡ w.tickets
  pub parents : v.parents ≡ w.parents
  pub stopped : v.stopped ≡ w.stopped
  pub named : v.named ≡ w.named
  pub orders : v.orders ≡ w.orders
  pub ranks : v.ranks ≡ w.ranks
  pub limit : v.limit ≡ w.limit

pub unframed : (w : World) → Framed w w
unframed w = record { tickets = refl; parents = refl; stopped = refl; named = refl; orders = refl; ranks = refl; limit = refl }

both : (u v w : World) → Framed u v → Framed v w → Framed u w
both u v w f g = record {
  tickets = g.tickets ∙ f.tickets;
  parents = g.parents ∙ f.parents;
  stopped = g.stopped ∙ f.stopped;
  named = g.named ∙ f.named;
  orders = g.orders ∙ f.orders;
  ranks = g.ranks ∙ f.ranks;
  limit = g.limit ∙ f.limit;
}

exporter_frame : (w : World) (x : ℕ) (o : Option ExporterState) → Framed w (exporter_moves w x o)
exporter_frame w x None = unframed w
exporter_frame w x (Some s) = record { tickets = refl; parents = refl; stopped = refl; named = refl; orders = refl; ranks = refl; limit = refl }

importer_frame : (w : World) (x : ℕ) (o : Option ImporterState) → Framed w (importer_moves w x o)
importer_frame w x None = unframed w
importer_frame w x (Some s) = record { tickets = refl; parents = refl; stopped = refl; named = refl; orders = refl; ranks = refl; limit = refl }

notes_frame : (w : World) (r : ℕ) (o : Option JournalEntry) → Framed w (notes w r o)
notes_frame w r None = unframed w
notes_frame w r (Some e) = record { tickets = refl; parents = refl; stopped = refl; named = refl; orders = refl; ranks = refl; limit = refl }

replies_frame : (w : World) (o : Option Message) → Framed w (replies w o).world
replies_frame w None = unframed w
replies_frame w (Some m) = record { tickets = refl; parents = refl; stopped = refl; named = refl; orders = refl; ranks = refl; limit = refl }

-- any move
moved_frame : (w : World) (x r : ℕ) (v : Transition) → Framed w (moved w x r v).world
moved_frame w x r v =
    both w (exporter_moves w x v.exporter) (moved w x r v).world (exporter_frame w x v.exporter)
    (both (exporter_moves w x v.exporter) (importer_moves (exporter_moves w x v.exporter) x v.importer) (moved w x r v).world
    (importer_frame (exporter_moves w x v.exporter) x v.importer)
    (both (importer_moves (exporter_moves w x v.exporter) x v.importer)
    (notes (importer_moves (exporter_moves w x v.exporter) x v.importer) r v.entry) (moved w x r v).world
    (notes_frame (importer_moves (exporter_moves w x v.exporter) x v.importer) r v.entry)
    (replies_frame (notes (importer_moves (exporter_moves w x v.exporter) x v.importer) r v.entry) v.sends)))

module _ (w : World) where
  acts_frame : (m : Message) (o : Option Transition) → Framed w (acts w m o).world
  acts_frame m None = unframed w
  acts_frame m (Some v) = moved_frame w (about m) (receiver w m) v

  comes_frame : (m : Message) → Framed w (comes w m).world
  comes_frame m = acts_frame m (move m (exporter_of w (about m)) (importer_of w (about m)))

  pub either_frame : (b : Bool) (o p : Outcome) → Framed w o.world → Framed w p.world → Framed w (cond b o p).world
  either_frame true o p h k = h
  either_frame false o p h k = k

  pub delivered_frame : (o : Option Message) → Framed w (delivered w o).world
  delivered_frame None = unframed w
  delivered_frame (Some m) = either_frame (is_stopped w (receiver w m)) (ignored w) (comes w m) (unframed w) (comes_frame m)

-- what never changes

pub record Fixed (w v : World) : Type 0 where
  pub limit : v.limit ≡ w.limit
  pub ranks : v.ranks ≡ w.ranks

fixed : (w : World) → Fixed w w
fixed w = record { limit = refl; ranks = refl }

by_limit : (w : World) (o : Option ℕ) (e : JournalEntry) → (journaled_by w o e).limit ≡ w.limit
by_limit w None e = refl
by_limit w (Some a) e = refl

by_ranks : (w : World) (o : Option ℕ) (e : JournalEntry) → (journaled_by w o e).ranks ≡ w.ranks
by_ranks w None e = refl
by_ranks w (Some a) e = refl

pub happens_fixed : (w : World) (e : Event) → Fixed w (happens w e).world
unfolding happens
happens_fixed w (Deliver k) = (let f : Framed w (delivered w (slice_get w.sent k)).world = delivered_frame w (slice_get w.sent k) in
    record { limit = f.limit; ranks = f.ranks })
happens_fixed w (Restart k) = go (is_stopped w k)
  where
    go : (b : Bool) → Fixed w (cond b (changed (restarts w k)) (ignored w)).world
    go true = record { limit = refl; ranks = refl }
    go false = fixed w
happens_fixed w (Event.Made p) = record {
  limit = by_limit w (authority w p) (JournalEntry.Made (length w.parents));
  ranks = by_ranks w (authority w p) (JournalEntry.Made (length w.parents));
}
happens_fixed w (Event.Gone d) = record { limit = by_limit w (authority w d) (JournalEntry.Gone d); ranks = by_ranks w (authority w d) (JournalEntry.Gone d) }
happens_fixed w _ = record { limit = refl; ranks = refl }
