-- The nearest owner is the authority, and what a log entry changes of the owners.
use Rattle.std.proofs.Common.{◌≡◌, ◌≢◌, ℕ, zero, suc, ◌<◌, ◌≤◌, Bool, true, false, ◌||◌, not, eqb, cond, List}
use Rattle.std.proofs.Common.{[], length, get_or, Option, Some, None, refl, sym, ap, ◌∙◌, subst, inl, inr, arith}
use Rattle.std.specs.Option.{is_some}
use Rattle.export_protocol.specs.declared.journal.JournalEntry.{JournalEntry}
use Rattle.export_protocol.specs.declared.exporter.ExporterState.TheVariants.{Exporting, Logged}
use Rattle.export_protocol.specs.declared.importer.ImporterState.TheVariants.{Started}
use Rattle.export_protocol.specs.Cluster.{World}
use Rattle.export_protocol.specs.Authority.{is_inside, from_of, to_of, exporter_of, importer_of, is_present}
use Rattle.export_protocol.specs.Authority.{owns, is_taking_over, IsAuthority, authority, or_else}
use Rattle.export_protocol.specs.Step.{exporter_to, journals}
use Rattle.export_protocol.specs.Roots.{parent_of, same_rank, is_apart, AreOwners, above, nearest}
use Rattle.export_protocol.proofs.Safe.{Safe, phase_of, log_safe, log_outside, log_near, exporter_phases, exporter_at}
use Rattle.export_protocol.proofs.Lookups.{inside_near, taking_over, takes_over}
use Rattle.export_protocol.specs.Step.{run, start}
use Rattle.export_protocol.specs.declared.event.Event.{Event}
use Rattle.export_protocol.specs.Promises.{NoneAtStopped, NearestOwns}
use Rattle.export_protocol.proofs.Theorem.{safe_one_authority, safe_gone, run_keeps, start_safe}
use Rattle.export_protocol.proofs.Authorities.{authority_found, no_authority, authority_stays}
use Rattle.export_protocol.proofs.Owning.{is_moving}
use Rattle.export_protocol.proofs.Owning.Phase.{Moving}
use Rattle.export_protocol.proofs.Tidy.{Tidy, run_tidy, start_tidy}
use Rattle.std.proofs.lemmas.List.{get_or_past}
use Rattle.std.proofs.lemmas.Bool.{cases_lt, eqb-true}

same_is : (a b : Option ℕ) → same_rank a b ≡ true → a ≡ b
same_is None None h = refl
same_is None (Some r) h = absurd (cc)
same_is (Some r) None h = absurd (cc)
same_is (Some r) (Some s) h = ap Some (eqb-true r s h)

module _ (w : World) (safe : Safe w) where
  -- an authority is one of the ranks
  pub authority_near : (r d : ℕ) → IsAuthority w r d → r < w.ranks
  authority_near r d (inl o) = elim (cases_lt r (length w.journals)) [
    | inl m ↦ rw (← safe.all_ranks) m
    | inr m ↦ absurd (cc (rw (get_or_past w.journals r [] m) at o))
  ]
  authority_near r d (inr t) = rw (← safe.all_ranks, (taking_over w safe r t.0 t.1).0) (safe.ranked t.0 (inside_near w t.0 d t.2)).1

  pub authority_there : (d : ℕ) → is_present w d ≡ true → (r : ℕ) × (authority w d ≡ Some r)
  authority_there d p =
      let a = safe_one_authority w safe d p in
      (a.0, authority_found w safe a.0 d a.1.0 (authority_near a.0 d a.1.0))

  -- the walk finds the authority
  pub nearest_is : Tidy w → (owners : List (Option ℕ)) → AreOwners w owners → (n d : ℕ) → d < n → nearest w.parents owners n d ≡ authority w d
  nearest_is tidy owners are zero d l = absurd (omega arith)
  nearest_is tidy owners are (suc n) d l = go (parent_of w d) refl (are d) (nearest_is tidy owners are n)
    where
      gone : parent_of w d ≡ None → authority w d ≡ None
      gone e = no_authority w safe d (safe_gone w safe d (ap is_some e)).1

      found : (o : Option ℕ) (r : ℕ) (p : Option ℕ) → o ≡ Some r → or_else o p ≡ o
      found o r p e = rw e refl

      pick : (p : ℕ) (b : Bool) → parent_of w d ≡ Some p → ((eqb d 0) || not (same_rank (authority w d) (authority w p))) ≡ b →
          get_or owners d None ≡ cond b (authority w d) None → ((c : ℕ) → c < n → nearest w.parents owners n c ≡ authority w c) →
          or_else (get_or owners d None) (nearest w.parents owners n p) ≡ authority w d
      pick p true e t h ih =
          let a : (r : ℕ) × (authority w d ≡ Some r) = authority_there d (ap is_some e) in
          rw h (found (authority w d) a.0 (nearest w.parents owners n p) a.1)
      pick p false e t h ih =
          let f : (eqb d 0 ≡ false) × (same_rank (authority w d) (authority w p) ≡ true) = parts (eqb d 0) (same_rank (authority w d) (authority w p)) t in
          let below : p < d = tidy.smaller d p e (nonzero d f.0) in
          rw h (ih p (omega arith) ∙ sym (same_is (authority w d) (authority w p) f.1))
        where
          parts : (a b : Bool) → (a || not b) ≡ false → (a ≡ false) × (b ≡ true)
          parts a b k = (grind arith, grind arith)

          nonzero : (m : ℕ) → eqb m 0 ≡ false → m ≢ 0
          nonzero m k = grind arith

      go : (o : Option ℕ) → parent_of w d ≡ o → get_or owners d None ≡ cond (is_apart w d o) (authority w d) None →
          ((c : ℕ) → c < n → nearest w.parents owners n c ≡ authority w c) →
          or_else (get_or owners d None) (above o (nearest w.parents owners n)) ≡ authority w d
      go None e h ih = rw (h, gone e) refl
      go (Some p) e h ih = pick p ((eqb d 0) || not (same_rank (authority w d) (authority w p))) e refl h ih

-- owners and moves stay, so authorities do
pub quiet_authority : (w v : World) → Safe w → Safe v → v.ranks ≡ w.ranks → (d : ℕ) →
    ((r : ℕ) → owns v r d ≡ owns w r d) →
    ((x : ℕ) → is_inside w x d ≡ true → is_moving (phase_of w x) ≡ true
    → (is_inside v x d ≡ true) × (is_moving (phase_of v x) ≡ true) × (to_of v x ≡ to_of w x)) →
    ((x : ℕ) → is_inside v x d ≡ true → is_moving (phase_of v x) ≡ true → (is_inside w x d ≡ true) × (is_moving (phase_of w x) ≡ true)) →
    authority v d ≡ authority w d
quiet_authority w v safe_w safe_v same d owners on back = authority_stays w v safe_w safe_v same d there again
  where
    there : (r : ℕ) → IsAuthority w r d → IsAuthority v r d
    there r (inl o) = inl (owners r ∙ o)
    there r (inr t) =
        let a : (r ≡ to_of w t.0) × (is_moving (phase_of w t.0) ≡ true) = taking_over w safe_w r t.0 t.1 in
        let b : (is_inside v t.0 d ≡ true) × (is_moving (phase_of v t.0) ≡ true) × (to_of v t.0 ≡ to_of w t.0) = on t.0 t.2 a.1 in
        inr (t.0, subst (λ s. is_taking_over v s t.0 ≡ true) (b.2 ∙ sym a.0) (takes_over v safe_v t.0 b.1), b.0)

    again : (r : ℕ) → IsAuthority v r d → (s : ℕ) × IsAuthority w s d
    again r (inl o) = (r, inl (sym (owners r) ∙ o))
    again r (inr t) =
        let a : (r ≡ to_of v t.0) × (is_moving (phase_of v t.0) ≡ true) = taking_over v safe_v r t.0 t.1 in
        let b : (is_inside w t.0 d ≡ true) × (is_moving (phase_of w t.0) ≡ true) = back t.0 t.2 a.1 in
        (to_of w t.0, inr (t.0, takes_over w safe_w t.0 b.1, b.0))

-- After the log entry the importer is the authority of the export's directories, and the others keep theirs.
module _ (w : World) (safe : Safe w) (x : ℕ) (was : exporter_of w x ≡ Exporting) (started : importer_of w x ≡ Started) where
  abbrev after : World
  after = journals (exporter_to w x Logged) (from_of w x) (JournalEntry.Exported x)

  logged_moving : phase_of after x ≡ Moving
  logged_moving = rw (exporter_at w safe x Logged (log_near w safe x was started)) refl

  pub logged_inside : (d : ℕ) → is_inside w x d ≡ true → authority after d ≡ Some (to_of w x)
  logged_inside d i =
      let safe' : Safe after = log_safe w safe x was started in
      let a : IsAuthority after (to_of w x) d = inr (x, takes_over after safe' x (rw logged_moving refl), i) in
      authority_found after safe' (to_of w x) d a (authority_near after safe' (to_of w x) d a)

  pub logged_outside : (d : ℕ) → is_inside w x d ≡ false → authority after d ≡ authority w d
  logged_outside d i =
      quiet_authority w after safe (log_safe w safe x was started) refl d (λ r. log_outside w safe x was started r d i)
      (λ y j m. (j, rw (same_phase y j) m, refl))
      (λ y j m. (j, rw (same_phase y j) at m))
    where
      same_phase : (y : ℕ) → is_inside w y d ≡ true → phase_of after y ≡ phase_of w y
      same_phase y j = exporter_phases w safe x Logged (log_near w safe x was started) y (λ e. cc (rw e at j, i))

pub promised_ended : (limit ranks : ℕ) (events : List Event) → NoneAtStopped (run (start limit ranks) events)
promised_ended limit ranks events = (run_tidy events (start limit ranks) (start_tidy limit ranks)).awake

pub promised_nearest : (limit ranks : ℕ) → 1 ≤ ranks → (events : List Event) → NearestOwns (run (start limit ranks) events)
promised_nearest limit ranks some_rank events owners are d =
    nearest_is (run (start limit ranks) events) (run_keeps events (start limit ranks) (start_safe limit ranks some_rank))
    (run_tidy events (start limit ranks) (start_tidy limit ranks)) owners are (suc d) d (omega arith)
