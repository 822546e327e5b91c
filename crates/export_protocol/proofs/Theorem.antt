-- Each step keeps the invariant, so every list of events does, and the invariant gives what is promised.
use Rattle.std.proofs.Common.{◌≡◌, ◌≢◌, ℕ, zero, suc, ◌<◌, ◌≤◌, Bool, true, false, ◌&&◌, not, eqb, leb, cond, List, []}
use Rattle.std.proofs.Common.{◌∷◌, length, get_or, set, Option, Some, None, refl, sym, ap, ◌∙◌, inl, inr, ◌⊎◌, arith, replicate}
use Rattle.std.proofs.lemmas.Bool.{and_parts, cases_Bool, cases_eq}
use Rattle.std.specs.Option.{is_some}
use Rattle.std.specs.List.{slice_get}
use Rattle.export_protocol.specs.declared.exporter.ExporterState.{ExporterState}
use Rattle.export_protocol.specs.declared.importer.ImporterState.{ImporterState}
use Rattle.export_protocol.specs.declared.journal.JournalEntry.{JournalEntry}
use Rattle.export_protocol.specs.declared.event.Request.{Request}
use Rattle.export_protocol.specs.Cluster.{World}
use Rattle.export_protocol.specs.Authority.{is_inside, from_of, to_of, exporter_of, importer_of, named_of, is_present, request_of, has}
use Rattle.export_protocol.specs.Authority.{is_same, owns, IsAuthority, serves, any_below, is_held_in, authority, is_stopped}
use Rattle.export_protocol.specs.declared.event.Event.{Event}
use Rattle.export_protocol.specs.declared.step_error.StepError.{StepError}
use Rattle.export_protocol.specs.Step.{causes, refusal, happens, step, answered, first, when, run}
use Rattle.export_protocol.specs.Step.{start, history_limit, counted, ignored, changed, journaled_by, restarts}
use Rattle.export_protocol.specs.declared.event.Event.TheVariants.{Begin, End, Start, Deliver, Froze, Notify, Abort, Stop, Restart, Ask}
use Rattle.export_protocol.proofs.Views.{push_other, not_past}
use Rattle.export_protocol.specs.Promises.{IsTheAuthority, OneAuthority, ServedByAuthority, RequestsAtAuthority}
use Rattle.export_protocol.specs.Promises.{IsBetweenLogAndNotify, MapNamed, NoneForGone, KeepsAuthority}
use Rattle.export_protocol.proofs.Owning.{Phase, is_moving}
use Rattle.export_protocol.proofs.Owning.Phase.{Early, Held, Moving, Told, Over}
use Rattle.export_protocol.proofs.Tables.{is_committed, is_done}
use Rattle.export_protocol.proofs.Safe.{Safe, phase_by, phase_of}
use Rattle.export_protocol.proofs.Lookups.{or_else_none, itself, one_authority, some_authority, takes_over, taking_over, moving_open}
use Rattle.export_protocol.proofs.Events.{NoneOf, none_of, froze_keeps, notify_keeps, abort_keeps, ask_keeps}
use Rattle.export_protocol.proofs.Events.{delivered_keeps, end_keeps, begin_keeps, made_keeps, gone_keeps, start_keeps}
use Rattle.export_protocol.proofs.Frame.{delivered_frame}
use Rattle.export_protocol.proofs.Stops.{stop_keeps, restart_keeps}
use Rattle.std.proofs.lemmas.List.{get_or-set_same, get_or-set_other, length-set}

module _ (w : World) (safe : Safe w) where
  pub happens_keeps : (e : Event) → NoneOf (causes w e) → Safe (happens w e).world
  happens_keeps (Event.Made p) h = made_keeps w safe p h
  happens_keeps (Event.Gone d) h = gone_keeps w safe d h
  happens_keeps (Begin r d) h = begin_keeps w safe r d h
  happens_keeps (End t) h = end_keeps w safe t
  happens_keeps (Start f t ds) h = start_keeps w safe f t ds h
  happens_keeps (Deliver k) h = delivered_keeps w safe k
  happens_keeps (Froze x) h = froze_keeps w safe x h
  happens_keeps (Notify x) h = notify_keeps w safe x h
  happens_keeps (Abort x) h = abort_keeps w safe x h
  happens_keeps (Stop r) h = stop_keeps w safe r
  happens_keeps (Restart r) h = restart_keeps w safe r
  happens_keeps (Ask x) h = ask_keeps w safe x h

  counted_safe : Safe (counted w)
  counted_safe = record {
    tables = safe.tables;
    owning = safe.owning;
    running = safe.running;
    present = safe.present;
    numbered = safe.numbered;
    exporting = safe.exporting;
    importing = safe.importing;
    ranked = safe.ranked;
    all_ranks = safe.all_ranks;
  }

pub not_refused_causes : (w : World) (e : Event) → refusal w e ≡ None → NoneOf (causes w e)
unfolding refusal
not_refused_causes w e h = none_of (causes w e) (or_else_none (when (leb history_limit w.events) StepError.HistoryFull) (first (causes w e)) h).1

pub step_keeps : (w : World) → Safe w → (e : Event) → Safe (step w e).1
unfolding step
step_keeps w safe e = go (refusal w e) refl
  where
    go : (o : Option StepError) → refusal w e ≡ o → Safe (answered w (happens w e) o).1
    go None h = counted_safe (happens w e).world (happens_keeps w safe e (not_refused_causes w e h))
    go (Some r) h = safe

pub run_keeps : (es : List Event) (w : World) → Safe w → Safe (run w es)
run_keeps [] w safe = safe
run_keeps (e ∷ es) w safe = run_keeps es (step w e).1 (step_keeps w safe e)

module _ (w : World) (safe : Safe w) where
  the_authority : (r d : ℕ) → IsAuthority w r d → IsTheAuthority w r d
  the_authority r d a = (a, λ s b. one_authority w safe s r d b a)

  named_there : (d : ℕ) → is_present w d ≡ true → (r : ℕ) × (named_of w d ≡ Some r)
  named_there d p = go (named_of w d) refl (sym (safe.present d) ∙ p)
    where
      go : (o : Option ℕ) → named_of w d ≡ o → is_some o ≡ true → (r : ℕ) × (named_of w d ≡ Some r)
      go None e h = absurd (cc)
      go (Some r) e h = (r, e)

  pub safe_one_authority : OneAuthority w
  safe_one_authority d p =
      let n : (r : ℕ) × (named_of w d ≡ Some r) = named_there d p in
      let s : (r : ℕ) × IsAuthority w r d = some_authority w safe d n.0 n.1 in
      (s.0, the_authority s.0 d s.1)

  pub safe_served : ServedByAuthority w
  unfolding serves
  safe_served r d h = the_authority r d (inl (and_parts (owns w r d) (not (any_below (length w.orders) (is_held_in w r d))) h).0)

  pub safe_requests : RequestsAtAuthority w
  safe_requests t q h = the_authority q.rank q.dir (inl (safe.running.stands t q h))

  pub safe_named : MapNamed w
  safe_named d p =
      let n : (r : ℕ) × (named_of w d ≡ Some r) = named_there d p in (
        n.0,
        n.1,
        elim (cases_Bool (owns w n.0 d)) [
          | inl o ↦ inl (inl o)
          | inr f ↦ (let m : (x : ℕ) × (is_inside w x d ≡ true) × (is_moving (phase_of w x) ≡ true) = safe.owning.named_owns n.0 d n.1 f in
              where_moving m.0 n.0 d m.1 m.2 n.1)
        ],
      )
    where
      same_rank : (a b : ℕ) → Some a ≡ Some b → b ≡ a
      same_rank a b e = cc

      logged_alone : (e : ExporterState) (i : ImporterState) → phase_by e i ≡ Moving → (is_committed e ≡ true) × (is_done e ≡ false)
      logged_alone e i h = (grind arith, grind arith)

      two : (q : Phase) → is_moving q ≡ true → (q ≡ Moving) ⊎ (q ≡ Told)
      two Moving h = inl refl
      two Told h = inr refl
      two Early h = absurd (cc)
      two Held h = absurd (cc)
      two Over h = absurd (cc)

      where_moving : (x r d : ℕ) → is_inside w x d ≡ true → is_moving (phase_of w x) ≡ true → named_of w d ≡ Some r
          → IsAuthority w r d ⊎ IsBetweenLogAndNotify w r d
      where_moving x r d i m n = elim (two (phase_of w x) m) [
        | inl e ↦
            (let placed : named_of w d ≡ Some (from_of w x) = rw e at (safe.owning.placed x d i (moving_open (phase_of w x) m)) in
            let f : r ≡ from_of w x = same_rank (from_of w x) r (sym placed ∙ n) in
            let l : (is_committed (exporter_of w x) ≡ true) × (is_done (exporter_of w x) ≡ false) = logged_alone (exporter_of w x) (importer_of w x) e in
            inr (
              x,
              i,
              sym f,
              rw (f, safe.tables.exported (from_of w x) x, itself (from_of w x), l.0) refl,
              rw (f, safe.tables.notified (from_of w x) x, itself (from_of w x), l.1) refl,
            ))
        | inr e ↦
            (let placed : named_of w d ≡ Some (to_of w x) = rw e at (safe.owning.placed x d i (moving_open (phase_of w x) m)) in
            let f : r ≡ to_of w x = same_rank (to_of w x) r (sym placed ∙ n) in
            inl (inr (x, rw f (takes_over w safe x m), i)))
      ]

  pub safe_gone : NoneForGone w
  safe_gone d h =
      let n : named_of w d ≡ None = nowhere (named_of w d) (sym (safe.present d) ∙ h) in
      (n, λ r a. nobody r n a)
    where
      nowhere : (o : Option ℕ) → is_some o ≡ false → o ≡ None
      nowhere None k = refl
      nowhere (Some r) k = absurd (cc)

      nobody : (r : ℕ) → named_of w d ≡ None → IsAuthority w r d → ⊥
      nobody r n (inl o) = cc (safe.owning.owner_named r d o, n)
      nobody r n (inr t) = cc (safe.owning.placed t.0 d t.2 (moving_open (phase_of w t.0) (taking_over w safe r t.0 t.1).1), n)

-- the start

pub replicate_get : {A : Type 0} (n : ℕ) (a : A) (k : ℕ) → get_or (replicate n a) k a ≡ a
replicate_get zero a k = refl
replicate_get (suc n) a zero = refl
replicate_get (suc n) a (suc k) = replicate_get n a k

replicate_length : {A : Type 0} (n : ℕ) (a : A) → length (replicate n a) ≡ n
replicate_length zero a = refl
replicate_length (suc n) a = ap suc (replicate_length n a)

module _ (limit ranks : ℕ) (some_rank : 1 ≤ ranks) where
  start_journals : (r : ℕ) → r ≢ 0 → get_or (set (replicate ranks []) 0 (JournalEntry.Made 0 ∷ [])) r [] ≡ []
  start_journals r n = get_or-set_other (replicate ranks []) 0 r (JournalEntry.Made 0 ∷ []) [] n ∙ replicate_get ranks [] r

  start_journal : get_or (set (replicate ranks []) 0 (JournalEntry.Made 0 ∷ [])) 0 [] ≡ JournalEntry.Made 0 ∷ []
  start_journal = get_or-set_same (replicate ranks []) 0 (JournalEntry.Made 0 ∷ []) [] (rw (replicate_length {A = List JournalEntry} ranks []) some_rank)

  start_flag : (r : ℕ) (e : JournalEntry) → is_same (JournalEntry.Made 0) e ≡ false → has (start limit ranks) r e ≡ false
  unfolding start
  start_flag r e h = elim (cases_eq r 0) [
    | inl i ↦ rw (i, start_journal, h) refl
    | inr n ↦ rw (start_journals r n) refl
  ]

  start_owner : (r d : ℕ) → owns (start limit ranks) r d ≡ true → (r ≡ 0) × (d ≡ 0)
  unfolding start
  start_owner r d = elim (cases_eq r 0) as (λ v. owns (start limit ranks) r d ≡ true → (r ≡ 0) × (d ≡ 0)) [
    | inl i ↦ (λ h. (i, root d (rw (i, start_journal) at h)))
    | inr n ↦ (λ h. absurd (cc (rw (start_journals r n) at h)))
  ]
    where
      root : (c : ℕ) → cond (eqb 0 c) true false ≡ true → c ≡ 0
      root c h = grind arith

  start_owns : owns (start limit ranks) 0 0 ≡ true
  unfolding start
  start_owns = rw start_journal refl

  start_named : (d r : ℕ) → named_of (start limit ranks) d ≡ Some r → (d ≡ 0) × (r ≡ 0)
  unfolding start
  start_named zero r h = (refl, same r h)
    where
      same : (b : ℕ) → Some 0 ≡ Some b → b ≡ 0
      same b e = cc
  start_named (suc d) r h = absurd (cc)

  start_there : (d : ℕ) → is_present (start limit ranks) d ≡ is_some (named_of (start limit ranks) d)
  unfolding start
  start_there zero = refl
  start_there (suc d) = refl

  no_flag : (r x : ℕ) (b : Bool) → b ≡ false → (eqb r x && b) ≡ false
  no_flag r x b h = grind arith

  importing_none : (a b c : Bool) → a ≡ false → (a && not b && not c) ≡ false
  importing_none a b c h = grind arith

  pub start_safe : Safe (start limit ranks)
  unfolding start
  start_safe = record {
    tables = record {
      paired = λ x. refl;
      exported = λ r x. start_flag r (JournalEntry.Exported x) refl ∙ sym (no_flag r 0 false refl);
      notified = λ r x. start_flag r (JournalEntry.Notified x) refl ∙ sym (no_flag r 0 false refl);
      imported = λ r x. start_flag r (JournalEntry.Imported x) refl ∙ sym (no_flag r 0 false refl);
      importing = λ r x. importing_none (has (start limit ranks) r (JournalEntry.Started x))
          (has (start limit ranks) r (JournalEntry.Imported x)) (has (start limit ranks) r (JournalEntry.Dropped x))
          (start_flag r (JournalEntry.Started x) refl) ∙ sym (no_flag r 0 false refl);
      dropped = λ r x h. absurd (cc (start_flag r (JournalEntry.Dropped x) refl, h));
      known = λ k m h. absurd (cc);
      finish = λ k x h. absurd (cc);
      cancel = λ k x h. absurd (cc);
      acked = λ k x h. absurd (cc);
    };
    owning = record {
      owner_named = λ r d h. rw ((start_owner r d h).0, (start_owner r d h).1) refl;
      named_owns = λ r d h f. absurd (cc (rw ((start_named d r h).0, (start_named d r h).1) at f, start_owns));
      moving = λ x r d i m. absurd (cc);
      placed = λ x d i o. absurd (cc);
      one_export = λ x y d i j o p. absurd (cc);
    };
    running = record { stands = λ t q h. absurd (cc); early = λ t q x h i o. absurd (cc) };
    present = start_there;
    numbered = refl;
    exporting = refl;
    importing = refl;
    ranked = λ x h. absurd (omega arith);
    all_ranks = length-set (replicate ranks []) 0 (JournalEntry.Made 0 ∷ []) ∙ replicate_length ranks [];
  }

-- A running request goes on, or the owners stay.

module _ (w : World) where
  journaled_tickets : (o : Option ℕ) (e : JournalEntry) → (journaled_by w o e).tickets ≡ w.tickets
  journaled_tickets None e = refl
  journaled_tickets (Some r) e = refl

  restart_tickets : (b : Bool) (r : ℕ) → (cond b (changed (restarts w r)) (ignored w)).world.tickets ≡ w.tickets
  restart_tickets true r = refl
  restart_tickets false r = refl

  -- the ticket is kept, or the owners are
  still : (e : Event) (t : ℕ) (q : Request) → request_of w t ≡ Some q →
      (request_of (happens w e).world t ≡ Some q) ⊎ ((r d : ℕ) → owns (happens w e).world r d ≡ owns w r d)
  unfolding happens
  still (Event.Made p) t q h = inl (ap (λ ts. get_or ts t None) (journaled_tickets (authority w p) (JournalEntry.Made (length w.parents))) ∙ h)
  still (Event.Gone d) t q h = inl (ap (λ ts. get_or ts t None) (journaled_tickets (authority w d) (JournalEntry.Gone d)) ∙ h)
  still (Begin r d) t q h =
      let near : t < length w.tickets = not_past w.tickets t None (Some q) h (λ e. cc) in
      inl (push_other w.tickets (Some (record { rank = r; dir = d })) None t (λ e. omega_ne t (length w.tickets) e near) ∙ h)
    where
      omega_ne : (m n : ℕ) → m ≡ n → m < n → ⊥
      omega_ne m n e l = omega arith
  still (End u) t q h = inr (λ r d. refl)
  still (Start f g ds) t q h = inl h
  still (Deliver k) t q h = inl (ap (λ ts. get_or ts t None) (delivered_frame w (slice_get w.sent k)).tickets ∙ h)
  still (Froze x) t q h = inl h
  still (Notify x) t q h = inl h
  still (Abort x) t q h = inl h
  still (Stop r) t q h = inr (λ s d. refl)
  still (Restart r) t q h = inl (ap (λ ts. get_or ts t None) (restart_tickets (is_stopped w r) r) ∙ h)
  still (Ask x) t q h = inl h

pub owner_kept : (w : World) → Safe w → (e : Event) (t : ℕ) (q : Request) → request_of w t ≡ Some q → owns (step w e).1 q.rank q.dir ≡ true
unfolding step
owner_kept w safe e t q h = go (refusal w e) refl
  where
    go : (o : Option StepError) → refusal w e ≡ o → owns (answered w (happens w e) o).1 q.rank q.dir ≡ true
    go (Some r) i = safe.running.stands t q h
    go None i = elim (still w e t q h) [
      | inl k ↦ (happens_keeps w safe e (not_refused_causes w e i)).running.stands t q k
      | inr k ↦ k q.rank q.dir ∙ safe.running.stands t q h
    ]

pub safe_kept : (w : World) → Safe w → (e : Event) → KeepsAuthority w e
safe_kept w safe e t q h r =
    let now : IsAuthority w q.rank q.dir = inl (safe.running.stands t q h) in
    let then : IsAuthority (step w e).1 q.rank q.dir = inl (owner_kept w safe e t q h) in (
      λ a. rw (one_authority w safe r q.rank q.dir a now) then,
      λ a. rw (one_authority (step w e).1 (step_keeps w safe e) r q.rank q.dir a then) now,
    )

-- the promises

module _ (limit ranks : ℕ) (some_rank : 1 ≤ ranks) (events : List Event) where
  reached : Safe (run (start limit ranks) events)
  reached = run_keeps events (start limit ranks) (start_safe limit ranks some_rank)

  pub promised_authority : OneAuthority (run (start limit ranks) events)
  promised_authority = safe_one_authority _ reached

  pub promised_served : ServedByAuthority (run (start limit ranks) events)
  promised_served = safe_served _ reached

  pub promised_requests : RequestsAtAuthority (run (start limit ranks) events)
  promised_requests = safe_requests _ reached

  pub promised_kept : (e : Event) → KeepsAuthority (run (start limit ranks) events) e
  promised_kept e = safe_kept _ reached e

  pub promised_named : MapNamed (run (start limit ranks) events)
  promised_named = safe_named _ reached

  pub promised_gone : NoneForGone (run (start limit ranks) events)
  promised_gone = safe_gone _ reached
