-- Events are accepted by what one rank knows.
use Rattle.std.proofs.Common.{◌≡◌, ◌≢◌, ◌↔◌, ℕ, suc, ◌<◌, Bool, true, false, ◌&&◌, not, eqb, leb, List}
use Rattle.std.proofs.Common.{[], ◌∷◌, length, get_or, Option, Some, None, refl, sym, ap, ◌∙◌, inl, inr, arith}
use Rattle.std.specs.List.{list_all}
use Rattle.std.proofs.lemmas.Bool.{cases_Bool, and_from, and_parts, leb-false, not-false}
use Rattle.std.proofs.lemmas.List.Recursion.{is_count_by}
use Rattle.export_protocol.specs.declared.exporter.ExporterState.{ExporterState}
use Rattle.export_protocol.specs.declared.importer.ImporterState.{ImporterState}
use Rattle.export_protocol.specs.declared.exporter.ExporterState.TheVariants.{Freezing}
use Rattle.export_protocol.specs.declared.event.Request.{Request}
use Rattle.export_protocol.specs.declared.step_error.StepError.{StepError}
use Rattle.export_protocol.specs.Cluster.{World}
use Rattle.export_protocol.specs.Authority.{is_among, is_inside, from_of, to_of, exporter_of, importer_of, order_in, named_of, is_present}
use Rattle.export_protocol.specs.Authority.{request_of, owns, serves, is_stopped, authority, open_export, frozen_by, IsAuthority, runs_on}
use Rattle.export_protocol.specs.Step.{refusal, causes, first, when, held_at, busy, not_served, authority_stopped}
use Rattle.export_protocol.specs.Step.{not_yet, late, running_on, is_freezing, is_before_log, is_connected, cannot_leave, history_limit}
use Rattle.export_protocol.specs.declared.event.Event.{Event}
use Rattle.export_protocol.specs.declared.event.Event.TheVariants.{Begin, Start, Froze}
use Rattle.export_protocol.specs.View.{IsReached}
use Rattle.export_protocol.specs.Local.{IsLocal, MayBegin, MayMake, MayRemove, MayStart, MayFreeze, is_leaving, is_free}
use Rattle.export_protocol.proofs.Owning.{is_moving, is_over, place}
use Rattle.export_protocol.proofs.Safe.{Safe, phase_by, phase_of}
use Rattle.export_protocol.proofs.Lookups.{itself, any_some, any_here, inside_near, authority_is, no_open, free_owner, or_else_none}
use Rattle.export_protocol.proofs.Authorities.{authority_found, found_or_not}
use Rattle.export_protocol.proofs.Walks.{authority_near}
use Rattle.export_protocol.proofs.Events.{NoneOf, not_refused, served, is_here, all_there, there_near, no_requests, number_of, least_none, busy_none}
use Rattle.export_protocol.proofs.Theorem.{not_refused_causes}
use Rattle.export_protocol.proofs.Reached.{reached_served, reached_requests}
use Rattle.export_protocol.proofs.Runs.{reached_found, reached_absent}
use Rattle.export_protocol.proofs.Found.{options_by, tests_by, open_is, place_early, found_serving, found_not_serving}
use Rattle.export_protocol.proofs.Lookups.{before_over}
use Rattle.export_protocol.proofs.Lists.{no_fault}
use Rattle.export_protocol.proofs.Accepted.{numbers_by, room_left, made_has, made_few, gone_dir, gone_closed, gone_idle, gone_has, froze_order, froze_state}
use Rattle.export_protocol.proofs.Accepted.{start_few, start_present}

-- causes that don't apply

unmet : (b : Bool) (r : StepError) → b ≡ false → when b r ≡ None
unmet b r h = rw h refl

met : (b : Bool) (r : StepError) → b ≡ true → when (not b) r ≡ None
met b r h = rw h refl

pass : (o : Option StepError) (os : List (Option StepError)) → o ≡ None → first os ≡ None → first (o ∷ os) ≡ None
pass o os h k = rw h k

above : (m n : ℕ) → n < m → leb m n ≡ false
above m n h = grind arith

apart : (m n : ℕ) → m ≢ n → eqb m n ≡ false
apart m n h = grind arith

unlike : (m n : ℕ) → eqb m n ≡ false → m ≢ n
unlike m n h = grind arith

none_stands : (os : List (Option StepError)) → NoneOf os → first os ≡ None
none_stands [] h = refl
none_stands (o ∷ os) h = pass o os h.0 (none_stands os h.1)

accepted : (w : World) (e : Event) → w.events < history_limit → NoneOf (causes w e) → refusal w e ≡ None
unfolding refusal
accepted w e few h =
    pass (when (leb history_limit w.events) StepError.HistoryFull) (causes w e)
    (unmet (leb history_limit w.events) StepError.HistoryFull (above history_limit w.events few)) (none_stands (causes w e) h)

-- requests

uncounted : (dirs : List ℕ) (ts : List (Option Request)) → ((t : ℕ) (q : Request) → get_or ts t None ≡ Some q → is_among dirs q.dir ≡ false)
    → number_of (runs_on dirs) ts ≡ 0
uncounted dirs [] h = refl
uncounted dirs (None ∷ ts) h = uncounted dirs ts (λ t q e. h (suc t) q e)
uncounted dirs (Some q ∷ ts) h = rw (h 0 q refl) (uncounted dirs ts (λ t p e. h (suc t) p e))

unrequested : (w : World) (dirs : List ℕ) → ((t : ℕ) (q : Request) → request_of w t ≡ Some q → is_among dirs q.dir ≡ false) → not_yet (running_on w dirs) ≡ None
unrequested w dirs h = rw (sym (is_count_by (number_of (runs_on dirs)) (runs_on dirs) refl (λ x xs. refl) w.tickets) ∙ uncounted dirs w.tickets h) refl

same_some : (a b : ℕ) → Some a ≡ Some b → a ≡ b
same_some a b e = cc

-- exports before the log entry

before_is : (e : ExporterState) (i : ImporterState) → is_over (phase_by e i) ≡ false → is_moving (phase_by e i) ≡ false → is_before_log e ≡ true
before_is e i h k = grind arith

module _ (w : World) (safe : Safe w) where
  leaves : (r d : ℕ) → is_leaving w r d ≡ true → (x : ℕ) × (is_before_log (exporter_of w x) ≡ true) × (is_inside w x d ≡ true)
  leaves r d h =
      let s = any_some (length w.orders) (λ x. eqb (from_of w x) r && is_before_log (exporter_of w x) && is_inside w x d) h in
      let a : ((eqb (from_of w s.0) r && is_before_log (exporter_of w s.0)) ≡ true) × (is_inside w s.0 d ≡ true) =
      and_parts (eqb (from_of w s.0) r && is_before_log (exporter_of w s.0)) (is_inside w s.0 d) s.2 in
      (s.0, (and_parts (eqb (from_of w s.0) r) (is_before_log (exporter_of w s.0)) a.0).1, a.1)

  -- who has authority over a directory that no open export has is free to give it away
  free_is : (r d : ℕ) → open_export w d ≡ None → IsAuthority w r d → is_free w r d ≡ true
  free_is r d o a = elim (cases_Bool (is_leaving w r d)) [
    | inl l ↦
        (let s : (x : ℕ) × (is_before_log (exporter_of w x) ≡ true) × (is_inside w x d ≡ true) = leaves r d l in
        absurd (cc (before_over (exporter_of w s.0) (importer_of w s.0) s.1, no_open w safe d o s.0 s.2)))
    | inr n ↦ and_from (owns w r d) (not (is_leaving w r d)) (free_owner w safe r d a (no_open w safe d o)) (rw n refl)
  ]

  free_owns : (r d : ℕ) → is_free w r d ≡ true → authority w d ≡ Some r
  free_owns r d f =
      let a : IsAuthority w r d = inl (and_parts (owns w r d) (not (is_leaving w r d)) f).0 in
      authority_found w safe r d a (authority_near w safe r d a)

  -- and the other way round
  free_open : (r d : ℕ) → is_free w r d ≡ true → open_export w d ≡ None
  free_open r d f = elim (found_or_not (open_export w d)) [
    | inl n ↦ n
    | inr g ↦ absurd (shut g.0 (open_is w safe d g.0 g.1))
  ]
    where
      owned : owns w r d ≡ true
      owned = (and_parts (owns w r d) (not (is_leaving w r d)) f).0

      stays : is_leaving w r d ≡ false
      stays = flip (is_leaving w r d) (and_parts (owns w r d) (not (is_leaving w r d)) f).1
        where
          flip : (b : Bool) → not b ≡ true → b ≡ false
          flip b h = grind arith

      shut : (x : ℕ) → (is_inside w x d ≡ true) × (is_over (phase_of w x) ≡ false) → ⊥
      shut x i = elim (cases_Bool (is_moving (phase_of w x))) [
        | inl m ↦ cc (safe.owning.moving x r d i.0 m, owned)
        | inr m ↦
            (let placed : named_of w d ≡ Some (place (from_of w x) (to_of w x) (phase_of w x)) = safe.owning.placed x d i.0 i.1 in
            let f : from_of w x ≡ r = same_some (from_of w x) r
            (ap Some (sym (place_early (phase_of w x) (from_of w x) (to_of w x) m))
            ∙ (sym placed ∙ safe.owning.owner_named r d owned)) in
            let here : is_leaving w r d ≡ true =
            any_here (length w.orders) (λ y. eqb (from_of w y) r && is_before_log (exporter_of w y) && is_inside w y d) x (inside_near w x d i.0)
            (rw (f, itself r, before_is (exporter_of w x) (importer_of w x) i.1 m, i.0) refl) in
            cc (here, stays))
      ]

  -- a request on a directory of an export that freezes runs at the exporter
  freezing_rank : (x t : ℕ) (q : Request) → exporter_of w x ≡ Freezing → request_of w t ≡ Some q → is_inside w x q.dir ≡ true → q.rank ≡ from_of w x
  freezing_rank x t q s h i =
      let placed : named_of w q.dir ≡ Some (from_of w x) = rw s at (safe.owning.placed x q.dir i (rw s refl)) in
      same_some q.rank (from_of w x) (sym (safe.owning.owner_named q.rank q.dir (safe.running.stands t q h)) ∙ placed)

module _ (w : World) (reached : IsReached w) where
  -- serving, by what decides it

  serves_is : (r d : ℕ) → serves w r d ≡ true → (authority w d ≡ Some r) × (frozen_by w r d ≡ None)
  serves_is r d s = (
    (reached_found w reached r d).1 (reached_served w reached r d s),
    elim (found_or_not (frozen_by w r d)) [
      | inl n ↦ n
      | inr f ↦ absurd (cc (found_not_serving w reached r d f.0 f.1, s))
    ],
  )

  there : (r d : ℕ) → authority w d ≡ Some r → is_present w d ≡ true
  there r d a = elim (cases_Bool (is_present w d)) [ inl p ↦ p | inr n ↦ absurd (cc ((reached_absent w reached d).1 n, a)) ]

  near : (r d : ℕ) → authority w d ≡ Some r → r < w.ranks
  near r d a = (authority_is w d r a).0

  free_authority : (r d : ℕ) → is_free w r d ≡ true → authority w d ≡ Some r
  free_authority r d f = options_by w reached (authority w d) (Some r) (λ safe. free_owns w safe r d f)

  free_closed : (r d : ℕ) → is_free w r d ≡ true → open_export w d ≡ None
  free_closed r d f = options_by w reached (open_export w d) None (λ safe. free_open w safe r d f)

  closed_free : (r d : ℕ) → open_export w d ≡ None → authority w d ≡ Some r → is_free w r d ≡ true
  closed_free r d o a = tests_by w reached (is_free w r d) true (λ safe. free_is w safe r d o (authority_is w d r a).1)

  runs_at : (r : ℕ) → authority_stopped w (Some r) ≡ None → is_stopped w r ≡ false
  runs_at r h = not_refused (is_stopped w r) (StepError.Stopped r) h

  -- Begin

  begins : (r d : ℕ) → (refusal w (Begin r d) ≡ None) ↔ MayBegin w r d
  unfolding causes
  begins r d = (to, from)
    where
      to : refusal w (Begin r d) ≡ None → MayBegin w r d
      to h =
          let c = not_refused_causes w (Begin r d) h in
          let s : (authority w d ≡ Some r) × (frozen_by w r d ≡ None) = served w r d (authority w d) c.1.1.1.0 in
          record { few = room_left w (Begin r d) h; up = (near r d s.0, not_refused _ _ c.1.0); serves = sym (found_serving w reached r d s.0 s.1) }

      from : MayBegin w r d → refusal w (Begin r d) ≡ None
      from m =
          let s : (authority w d ≡ Some r) × (frozen_by w r d ≡ None) = serves_is r d m.serves in
          let n : not_served w r d (authority w d) ≡ None = rw (s.0, itself r, s.1) refl in
          accepted w (Begin r d) m.few (
            unmet _ StepError.NoRank (above w.ranks r m.up.0),
            (unmet _ (StepError.Stopped r) m.up.1, (met _ StepError.NoDir (there r d s.0), (n, tt))),
          )

  -- Made

  makes : (p : ℕ) → (refusal w (Event.Made p) ≡ None) ↔ ((r : ℕ) × MayMake w p r)
  unfolding causes
  makes p = (to, from)
    where
      to : refusal w (Event.Made p) ≡ None → (r : ℕ) × MayMake w p r
      to h =
          let a : (a : ℕ) × (authority w p ≡ Some a) × (frozen_by w a p ≡ None) = made_has w p h in
          let c : authority_stopped w (Some a.0) ≡ None = rw a.1 at (not_refused_causes w (Event.Made p) h).1.1.1.0 in (
            a.0,
            record {
              few = room_left w (Event.Made p) h;
              numbers = made_few w p h;
              up = (near a.0 p a.1, runs_at a.0 c);
              serves = sym (found_serving w reached a.0 p a.1 a.2);
            },
          )

      from : ((r : ℕ) × MayMake w p r) → refusal w (Event.Made p) ≡ None
      from m =
          let s : (authority w p ≡ Some m.0) × (frozen_by w m.0 p ≡ None) = serves_is m.0 p m.1.serves in
          let k : held_at w p (authority w p) ≡ None = rw (s.0, s.1) refl in
          let n : authority_stopped w (authority w p) ≡ None = rw s.0 (unmet (is_stopped w m.0) (StepError.Stopped m.0) m.1.up.1) in
          accepted w (Event.Made p) m.1.few (
            met _ StepError.NoDir (there m.0 p s.0),
            (unmet _ StepError.TreeFull (above w.limit (length w.parents) m.1.numbers), (k, (n, tt))),
          )

  -- Gone

  removes : (d : ℕ) → (refusal w (Event.Gone d) ≡ None) ↔ ((r : ℕ) × MayRemove w d r)
  unfolding causes
  removes d = (to, from)
    where
      to : refusal w (Event.Gone d) ≡ None → (r : ℕ) × MayRemove w d r
      to h =
          let a : (a : ℕ) × (authority w d ≡ Some a) = gone_has w d h in
          let c : authority_stopped w (Some a.0) ≡ None = rw a.1 at (not_refused_causes w (Event.Gone d) h).1.1.1.1.1.0 in (
            a.0,
            record {
              few = room_left w (Event.Gone d) h;
              below = gone_dir w d h;
              empty = not_refused _ _ (not_refused_causes w (Event.Gone d) h).1.1.0;
              up = (near a.0 d a.1, runs_at a.0 c);
              free = closed_free a.0 d (gone_closed w d h) a.1;
              idle = λ t q e r. no_requests w (d ∷ []) (gone_idle w d h) t q e;
            },
          )

      from : ((r : ℕ) × MayRemove w d r) → refusal w (Event.Gone d) ≡ None
      from m =
          let a : authority w d ≡ Some m.0 = free_authority m.0 d m.1.free in
          let b : busy (open_export w d) ≡ None = rw (free_closed m.0 d m.1.free) refl in
          let n : authority_stopped w (authority w d) ≡ None = rw a (unmet (is_stopped w m.0) (StepError.Stopped m.0) m.1.up.1) in
          accepted w (Event.Gone d) m.1.few (
            unmet _ StepError.IsRoot (apart d 0 m.1.below),
            (
              met _ StepError.NoDir (there m.0 d a),
              (unmet _ StepError.NotEmpty m.1.empty, (b, (unrequested w (d ∷ []) (idle a), (n, tt)))),
            ),
          )
        where
          idle : authority w d ≡ Some m.0 → (t : ℕ) (q : Request) → request_of w t ≡ Some q → is_among (d ∷ []) q.dir ≡ false
          idle a t q e = elim (cases_Bool (is_among (d ∷ []) q.dir)) [
            | inr n ↦ n
            | inl i ↦
                (let s : q.dir ≡ d = only d q.dir i in
                let r : q.rank ≡ m.0 = same_some q.rank m.0
                (sym ((reached_found w reached q.rank q.dir).1 (reached_requests w reached t q e)) ∙ (ap (authority w) s ∙ a)) in
                m.1.idle t q e r)
          ]
            where
              only : (b c : ℕ) → is_among (b ∷ []) c ≡ true → c ≡ b
              only b c h = grind arith

  -- Start

  leave : (from d : ℕ) → is_free w from d ≡ true → cannot_leave w from d ≡ None
  leave from d f = rw (free_closed from d f, free_authority from d f, itself from) refl

  left : (from d : ℕ) → cannot_leave w from d ≡ None → is_free w from d ≡ true
  left from d h =
      let o : open_export w d ≡ None = busy_none (open_export w d) (or_else_none _ _ h).0 in
      closed_free from d o (is_here from (authority w d) (or_else_none _ _ (or_else_none _ _ h).1).0)

  starts : (from to : ℕ) (dirs : List ℕ) → (refusal w (Start from to dirs) ≡ None) ↔ MayStart w from to dirs
  unfolding causes
  starts from to dirs = (there_to, back)
    where
      there_to : refusal w (Start from to dirs) ≡ None → MayStart w from to dirs
      there_to h =
          let c = not_refused_causes w (Start from to dirs) h in
          let present : list_all (is_present w) dirs ≡ true = start_present w from to dirs h in
          record {
            few = room_left w (Start from to dirs) h;
            numbers = start_few w from to dirs h;
            there = present;
            connected = not-false (is_connected w dirs) (not_refused _ _ c.1.1.1.1.1.0);
            other = unlike from to (not_refused _ _ c.1.1.1.0);
            is_rank = leb-false w.ranks to (not_refused _ _ c.1.0);
            up = (leb-false w.ranks from (not_refused _ _ c.0), not_refused _ _ c.1.1.0);
            free = λ d i. left from d (least_none w from dirs (length w.parents) c.1.1.1.1.1.1.0 d (there_near w d (all_there w dirs present d i)) i);
          }

      back : MayStart w from to dirs → refusal w (Start from to dirs) ≡ None
      back m = accepted w (Start from to dirs) m.few (
        unmet _ StepError.NoRank (above w.ranks from m.up.0),
        (
          unmet _ StepError.NoRank (above w.ranks to m.is_rank),
          (
            unmet _ (StepError.Stopped from) m.up.1,
            (
              unmet _ StepError.SameRank (apart from to m.other),
              (
                met _ StepError.NoDir m.there,
                (
                  met _ StepError.NotConnected m.connected,
                  (
                    no_fault w from dirs (length w.parents) (λ d l i. leave from d (m.free d i)),
                    (unmet _ StepError.ExportsFull (above 65536 (length w.orders) m.numbers), tt),
                  ),
                ),
              ),
            ),
          ),
        ),
      )

  -- Froze

  freezes : (x : ℕ) → (refusal w (Froze x) ≡ None) ↔ MayFreeze w x
  unfolding causes
  freezes x = (to, from)
    where
      to : refusal w (Froze x) ≡ None → MayFreeze w x
      to h =
          let c = not_refused_causes w (Froze x) h in
          record {
            few = room_left w (Froze x) h;
            started = froze_order w x h;
            up = not_refused _ _ c.1.0;
            freezing = froze_state w x h;
            idle = λ t q e r. no_requests w (order_in w.orders x).dirs c.1.1.1.0 t q e;
          }

      from : MayFreeze w x → refusal w (Froze x) ≡ None
      from m =
          let l : late (is_freezing (exporter_of w x)) (exporter_of w x) ≡ None = rw m.freezing refl in
          accepted w (Froze x) m.few (
            unmet _ StepError.NoExport (above (length w.orders) x m.started),
            (unmet _ (StepError.Stopped (from_of w x)) m.up, (l, (unrequested w (order_in w.orders x).dirs idle, tt))),
          )
        where
          idle : (t : ℕ) (q : Request) → request_of w t ≡ Some q → is_among (order_in w.orders x).dirs q.dir ≡ false
          idle t q e = elim (cases_Bool (is_among (order_in w.orders x).dirs q.dir)) [
            | inr n ↦ n
            | inl i ↦ m.idle t q e (numbers_by w reached q.rank (from_of w x) (λ safe. freezing_rank w safe x t q m.freezing e i))
          ]

  pub is_local : IsLocal w
  is_local = record { begins = begins; makes = makes; removes = removes; starts = starts; freezes = freezes }
