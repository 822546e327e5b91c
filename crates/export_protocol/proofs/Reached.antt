-- What holds of a world that some list of events leads to.
use Rattle.std.proofs.Common.{◌≡◌, ◌≢◌, ℕ, Bool, true, false, ◌&&◌, not, eqb, List, [], length, None}
use Rattle.std.proofs.Common.{refl, sym, ap, ◌∙◌, subst, inl, inr, ◌⊎◌, ◌≤◌, ◌∷◌, ◌++◌, Some}
use Rattle.std.proofs.lemmas.Bool.{and_parts, cases_Bool, eqb-true, cases_eq, not-true}
use Rattle.export_protocol.specs.declared.exporter.ExporterState.{ExporterState}
use Rattle.export_protocol.specs.declared.importer.ImporterState.{ImporterState}
use Rattle.export_protocol.specs.declared.journal.JournalEntry.{JournalEntry}
use Rattle.export_protocol.specs.declared.exporter.ExporterState.TheVariants.{Discovering, Freezing, Preparing, Exporting, Logged, Done, Aborted}
use Rattle.export_protocol.specs.declared.importer.ImporterState.TheVariants.{Unknown, Discovered, Prepared, Started, Imported, Dropped}
use Rattle.export_protocol.specs.Cluster.{World}
use Rattle.export_protocol.specs.Authority.{from_of, has, authority, is_inside, named_of, owns}
use Rattle.export_protocol.specs.Authority.{IsAuthority, is_authority, serves, any_below, first_below, is_held_in}
use Rattle.export_protocol.specs.View.{IsReached}
use Rattle.export_protocol.proofs.Safe.{Safe}
use Rattle.std.proofs.Math.Logic.{∥∥₁_elim, ∥∥₁_map}
use Rattle.export_protocol.specs.Step.{step, run, start}
use Rattle.export_protocol.specs.declared.event.Event.{Event}
use Rattle.export_protocol.specs.Promises.{IsTheAuthority, OneAuthority, ServedByAuthority, RequestsAtAuthority, IsBetweenLogAndNotify, MapNamed}
use Rattle.export_protocol.proofs.Lookups.{itself, holds_authority, authority_is, one_authority, first_some, first_none, inside_near}
use Rattle.export_protocol.proofs.Theorem.{run_keeps, start_safe, safe_named}
use Rattle.export_protocol.proofs.Authorities.{tests_authority, found_or_not}
use Rattle.export_protocol.proofs.Walks.{authority_there}

run_more : (es : List Event) (w : World) (e : Event) → run w (es ++ e ∷ []) ≡ (step (run w es) e).1
run_more [] w e = refl
run_more (f ∷ es) w e = run_more es (step w f).1 e

-- the start leads to itself
pub started : (limit ranks : ℕ) → 1 ≤ ranks → IsReached (start limit ranks)
started limit ranks some = ∣ (limit, ranks, [], some, refl) ∣₁

-- a step leads to one more
pub reached_step : (w : World) → IsReached w → (e : Event) → IsReached (step w e).1
reached_step w h e = ∥∥₁_map h (λ r. (r.0, r.1, r.2 ++ e ∷ [], r.3, run_more r.2 (start r.0 r.1) e ∙ ap (λ (v : World). (step v e).1) r.4))

pub by_safe : (w : World) → IsReached w → (Safe w → ⊥) → ⊥
by_safe w h k = ∥∥₁_elim h (λ x y. absurd x) (λ r. k (subst Safe r.4 (run_keeps r.2 (start r.0 r.1) (start_safe r.0 r.1 r.3))))

module _ (w : World) (reached : IsReached w) where
  pub the_one : (r d : ℕ) → IsAuthority w r d → IsTheAuthority w r d
  the_one r d a = (a, λ s b. elim (cases_eq s r) [ inl e ↦ e | inr n ↦ absurd (by_safe w reached (λ safe. n (one_authority w safe s r d b a))) ])

  pub reached_authority : OneAuthority w
  reached_authority d p = elim (found_or_not (authority w d)) [
    | inr f ↦ (f.0, the_one f.0 d (authority_is w d f.0 f.1).1)
    | inl n ↦ absurd (by_safe w reached (λ safe. cc (n, (authority_there w safe d p).1)))
  ]

  pub reached_served : ServedByAuthority w
  unfolding serves
  reached_served r d h = the_one r d (inl (and_parts (owns w r d) (not (any_below (length w.orders) (is_held_in w r d))) h).0)

  pub reached_requests : RequestsAtAuthority w
  reached_requests t q h = elim (cases_Bool (owns w q.rank q.dir)) [
    | inl o ↦ the_one q.rank q.dir (inl o)
    | inr f ↦ absurd (by_safe w reached (λ safe. cc (safe.running.stands t q h, f)))
  ]

  is_between : ℕ → ℕ → ℕ → Bool
  is_between r d x = is_inside w x d && (eqb (from_of w x) r && (has w r (JournalEntry.Exported x) && not (has w r (JournalEntry.Notified x))))

  found_between : (r d x : ℕ) → is_between r d x ≡ true → IsBetweenLogAndNotify w r d
  unfolding is_between
  found_between r d x h =
      let a = and_parts (is_inside w x d) (eqb (from_of w x) r && (has w r (JournalEntry.Exported x) && not (has w r (JournalEntry.Notified x)))) h in
      let b = and_parts (eqb (from_of w x) r) (has w r (JournalEntry.Exported x) && not (has w r (JournalEntry.Notified x))) a.1 in
      let c = and_parts (has w r (JournalEntry.Exported x)) (not (has w r (JournalEntry.Notified x))) b.1 in
      (x, a.0, eqb-true (from_of w x) r b.0, c.0, not-true (has w r (JournalEntry.Notified x)) c.1)

  tests_between : (r d : ℕ) (b : IsBetweenLogAndNotify w r d) → is_between r d b.0 ≡ true
  unfolding is_between
  tests_between r d b = rw (b.1, b.2, b.3, b.4, itself r) refl

  pub reached_named : MapNamed w
  reached_named d p = elim (found_or_not (named_of w d)) [
    | inl n ↦ absurd (by_safe w reached (λ safe. cc (n, (safe_named w safe d p).1)))
    | inr f ↦ (
      f.0,
      f.1,
      elim (cases_Bool (is_authority w f.0 d)) [
        | inl a ↦ inl (holds_authority w f.0 d a)
        | inr unknown ↦ inr (elim (found_or_not (first_below (length w.orders) (is_between f.0 d))) [
          | inr g ↦ found_between f.0 d g.0 (first_some (length w.orders) (is_between f.0 d) g.0 g.1).1
          | inl n ↦ absurd (by_safe w reached (λ safe. neither f.0 f.1 unknown n (safe_named w safe d p)))
        ])
      ],
    )
  ]
    where
      same : (a b : ℕ) → Some a ≡ Some b → a ≡ b
      same a b e = cc

      neither : (r : ℕ) → named_of w d ≡ Some r → is_authority w r d ≡ false → first_below (length w.orders) (is_between r d) ≡ None →
          (s : ℕ) × (named_of w d ≡ Some s) × (IsAuthority w s d ⊎ IsBetweenLogAndNotify w s d) → ⊥
      neither r e unknown n m = go (m.2)
        where
          here : m.0 ≡ r
          here = same m.0 r (sym m.1 ∙ e)

          go : IsAuthority w m.0 d ⊎ IsBetweenLogAndNotify w m.0 d → ⊥
          go (inl a) = cc (tests_authority w m.0 d a, rw (← here) at unknown)
          go (inr b) =
              let t : is_between m.0 d b.0 ≡ true = tests_between m.0 d b in
              cc (rw here at t, first_none (length w.orders) (is_between r d) n b.0 (inside_near w b.0 d b.1))

-- states by the invariant

pub same_exporter : (a b : ExporterState) → (a ≡ b) ⊎ (a ≢ b)
same_exporter Discovering Discovering = inl refl
same_exporter Freezing Freezing = inl refl
same_exporter Preparing Preparing = inl refl
same_exporter Exporting Exporting = inl refl
same_exporter Logged Logged = inl refl
same_exporter Done Done = inl refl
same_exporter Aborted Aborted = inl refl
same_exporter a b = inr (λ e. cc)

pub same_importer : (a b : ImporterState) → (a ≡ b) ⊎ (a ≢ b)
same_importer Unknown Unknown = inl refl
same_importer Discovered Discovered = inl refl
same_importer Prepared Prepared = inl refl
same_importer Started Started = inl refl
same_importer Imported Imported = inl refl
same_importer Dropped Dropped = inl refl
same_importer a b = inr (λ e. cc)

pub exporters_by : (w : World) → IsReached w → (a b : ExporterState) → (Safe w → a ≡ b) → a ≡ b
exporters_by w r a b f = elim (same_exporter a b) [ inl e ↦ e | inr n ↦ absurd (by_safe w r (λ safe. n (f safe))) ]

pub importers_by : (w : World) → IsReached w → (a b : ImporterState) → (Safe w → a ≡ b) → a ≡ b
importers_by w r a b f = elim (same_importer a b) [ inl e ↦ e | inr n ↦ absurd (by_safe w r (λ safe. n (f safe))) ]
