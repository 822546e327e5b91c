-- The other events that change owners or exports: what a table of owners has to follow there.
use Rattle.std.proofs.Common.{◌≡◌, ◌≢◌, ℕ, ◌<◌, true, false, List, [], ◌∷◌, ◌++◌, length, set, Some, None, refl, sym, ap, ◌∙◌, inl, inr, arith}
use Rattle.std.proofs.lemmas.Bool.{cases_Bool, cases_eq}
use Rattle.export_protocol.specs.declared.journal.JournalEntry.{JournalEntry}
use Rattle.export_protocol.specs.declared.event.Request.{Request}
use Rattle.export_protocol.specs.declared.exporter.ExporterState.TheVariants.{Done}
use Rattle.export_protocol.specs.declared.importer.ImporterState.TheVariants.{Started, Imported}
use Rattle.export_protocol.specs.Cluster.{World}
use Rattle.export_protocol.specs.Authority.{is_among, is_inside, to_of, exporter_of, importer_of, owns, request_of, IsAuthority, authority}
use Rattle.export_protocol.specs.Step.{importer_to, journals}
use Rattle.export_protocol.proofs.Owning.{is_moving, is_over}
use Rattle.export_protocol.proofs.Safe.{Safe, phase_of, imported_safe, import_outside, import_won, import_near, importer_phases}
use Rattle.export_protocol.proofs.Lookups.{takes_over, inside_near}
use Rattle.export_protocol.proofs.Events.{made_safe, made_won, made_rest, gone_safe, gone_rest, set_none, with_export}
use Rattle.export_protocol.proofs.Events.{start_safe, start_owns, start_insides, start_tos, start_phases, start_phase}
use Rattle.export_protocol.proofs.Theorem.{safe_gone}
use Rattle.export_protocol.proofs.Authorities.{authority_found, no_authority}
use Rattle.export_protocol.proofs.Walks.{quiet_authority, authority_near}

-- At `Finish` each directory keeps its authority.
module _ (w : World) (safe : Safe w) (x : ℕ) (was : importer_of w x ≡ Started) (done : exporter_of w x ≡ Done) where
  abbrev imported : World
  imported = journals (importer_to w x Imported) (to_of w x) (JournalEntry.Imported x)

  pub finish_authority : (d : ℕ) → authority imported d ≡ authority w d
  finish_authority d = elim (cases_Bool (is_inside w x d)) [
    | inl i ↦
        (let moves : is_moving (phase_of w x) ≡ true = rw (done, was) refl in
        let now : IsAuthority w (to_of w x) d = inr (x, takes_over w safe x moves, i) in
        let safe' : Safe imported = imported_safe w safe x was done in
        let then : IsAuthority imported (to_of w x) d = inl (import_won w safe x was done d i) in
        authority_found imported safe' (to_of w x) d then (authority_near imported safe' (to_of w x) d then)
        ∙ sym (authority_found w safe (to_of w x) d now (authority_near w safe (to_of w x) d now)))
    | inr o ↦
        (let same : (y : ℕ) → is_inside w y d ≡ true → phase_of imported y ≡ phase_of w y =
        λ y j. importer_phases w safe x Imported (import_near w safe x was done) y (λ e. other y e j o) in
        quiet_authority w imported safe (imported_safe w safe x was done) refl d (λ r. import_outside w safe x was done r d o)
        (λ y j m. (j, rw (same y j) m, refl)) (λ y j m. (j, rw (same y j) at m)))
  ]
    where
      other : (y : ℕ) → y ≡ x → is_inside w y d ≡ true → is_inside w x d ≡ false → ⊥
      other y e j o = cc (ap (λ z. is_inside w z d) e)

-- A directory that is made has its parent's authority, the others keep theirs.
module _ (w : World) (safe : Safe w) (a p : ℕ) (near : a < length w.journals) where
  abbrev made : World
  made = record (journals w a (JournalEntry.Made (length w.parents))) { parents = w.parents ++ Some p ∷ []; named = w.named ++ Some a ∷ [] }

  pub made_authority : authority made (length w.parents) ≡ Some a
  made_authority =
      let safe' : Safe made = made_safe w safe a p near in
      let b : IsAuthority made a (length w.parents) = inl (made_won w safe a p near) in
      authority_found made safe' a (length w.parents) b (authority_near made safe' a (length w.parents) b)

  pub made_others_authority : (d : ℕ) → d ≢ length w.parents → authority made d ≡ authority w d
  made_others_authority d n = quiet_authority w made safe (made_safe w safe a p near) refl d (λ r. made_rest w safe a p near r d n)
      (λ y j m. (j, m, refl)) (λ y j m. (j, m))

-- A directory that is gone has none, the others keep theirs.
module _ (w : World) (safe : Safe w) (a c : ℕ) (near : a < length w.journals) (owned : owns w a c ≡ true)
    (free : (x : ℕ) → is_inside w x c ≡ true → is_over (phase_of w x) ≡ true)
    (ended : (t : ℕ) (q : Request) → request_of w t ≡ Some q → q.dir ≢ c) where
  abbrev without_it : World
  without_it = record (journals w a (JournalEntry.Gone c)) { parents = set w.parents c None; named = set w.named c None }

  pub gone_authority : authority without_it c ≡ None
  gone_authority =
      let safe' : Safe without_it = gone_safe w safe a c near owned free ended in
      no_authority without_it safe' c (safe_gone without_it safe' c (rw (set_none w.parents c) refl)).1

  pub gone_others_authority : (d : ℕ) → d ≢ c → authority without_it d ≡ authority w d
  gone_others_authority d n = quiet_authority w without_it safe (gone_safe w safe a c near owned free ended) refl d
      (λ r. gone_rest w safe a c near owned free ended r d n) (λ y j m. (j, m, refl)) (λ y j m. (j, m))

-- When an export begins each directory keeps its authority.
module _ (w : World) (safe : Safe w) (from to : ℕ) (dirs : List ℕ) (from_near : from < length w.journals) (to_near : to < length w.journals)
    (owned : (d : ℕ) → is_among dirs d ≡ true → owns w from d ≡ true)
    (free : (x d : ℕ) → is_among dirs d ≡ true → is_inside w x d ≡ true → is_over (phase_of w x) ≡ true) where
  pub start_authority : (d : ℕ) → authority (with_export w from to dirs) d ≡ authority w d
  start_authority d = quiet_authority w (with_export w from to dirs) safe (start_safe w safe from to dirs from_near to_near owned free) refl d
      (λ r. start_owns w safe from to dirs from_near to_near owned free r d)
      (λ y j m.
      (let n : y ≢ length w.orders = λ e. absurd (old y e (inside_near w y d j)) in (
        start_insides w safe from to dirs from_near to_near owned free y d n ∙ j,
        rw (start_phases w safe from to dirs from_near to_near owned free y n) m,
        start_tos w safe from to dirs from_near to_near owned free y n,
      )))
      (λ y j m. elim (cases_eq y (length w.orders)) [
        | inl e ↦ absurd (cc (ap (λ z. phase_of (with_export w from to dirs) z) e, start_phase w safe from to dirs from_near to_near owned free, m))
        | inr n ↦ (
          sym (start_insides w safe from to dirs from_near to_near owned free y d n) ∙ j,
          rw (start_phases w safe from to dirs from_near to_near owned free y n) at m,
        )
      ])
    where
      old : (y : ℕ) → y ≡ length w.orders → y < length w.orders → ⊥
      old y e l = omega arith
