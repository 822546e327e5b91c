-- The map and the tree follow the cluster's events.
use Rattle.std.proofs.Common.{◌≡◌, ℕ, zero, suc, ◌+◌, ◌<◌, arith, Bool, true, false, not, ◌||◌, ◌==◌, if◌then◌else◌, nat_le}
use Rattle.std.proofs.Common.{List, [], ◌∷◌, ◌++◌, length, Option, Some, None, refl, sym, ap, ◌∙◌, append-nil, slice_get, slice_index_or}
use Rattle.std.proofs.lemmas.Bool.{ne_eqb}
use Rattle.std.proofs.lemmas.Bool.Decides.{nat_tests}
use Rattle.authority_map.proofs.CellLemmas.{rank_after-none, rank_after-snoc}
use Rattle.authority_map.specs.Operations.{Operation, SetTo, Clear, names, entry_after, rank_after}
use Rattle.export_protocol.specs.Authority.{is_among, is_present, open_export, order_in, authority, named_of, from_of, to_of, exporter_of}
use Rattle.export_protocol.specs.Cluster.{World}
use Rattle.export_protocol.specs.declared.event.Event.{Event}
use Rattle.export_protocol.specs.declared.event.Event.TheVariants.{Made, Gone, Begin, End, Start, Deliver, Froze, Notify, Abort, Stop, Restart, Ask}
use Rattle.export_protocol.specs.declared.journal.JournalEntry.{JournalEntry}
use Rattle.export_protocol.specs.declared.step_error.StepError.{StepError}
use Rattle.heat_ledger.specs.Rows.{raised}
use Rattle.export_protocol.specs.Entries.{is_log, logs_export, unless_refused, Entry, accepted_entry, delivered_entry}
use Rattle.export_protocol.specs.Entries.{entered_by, entry, named_after, named_by, IsRecorded, parents_after}
use Rattle.export_protocol.proofs.Entries.{delivered_named}
use Rattle.export_protocol.specs.Step as machine
use Rattle.export_protocol.specs.Step.{authority_stopped, history_limit, when, is_root, no_dir, any_at, is_child, no_export}
use Rattle.export_protocol.specs.Step.{late, is_logged, busy, not_yet, running_on, no_rank, rank_stopped, not_served}
use Rattle.export_protocol.specs.declared.step_error.StepError.TheVariants.{HistoryFull, IsRoot, NotEmpty, NoDir, NoExport}
use Rattle.mds_board.specs.declared.change.Change.TheVariants.{Step}
use Rattle.mds_board.specs.declared.change.Answer.TheVariants as answer
use Rattle.mds_board.specs.State.{State, after_event, happens, map_change, marked_if, next, set_for}
use Rattle.mds_board.specs.Steps.{Present, is_inner}
use Rattle.mds_board.specs.Steps.{stepped as stepped_to}

names_among : (dirs : List ℕ) (d : ℕ) → names dirs d ≡ is_among dirs d
names_among [] d = refl
names_among (x ∷ xs) d = ap (λ b. (x == d) || b) (names_among xs d)

or_false : (b : Bool) → (b || false) ≡ b
or_false true = refl
or_false false = refl

-- causes that an accepted event doesn't have

seventh : (a b c d e f g : Option StepError) → machine.first (a ∷ b ∷ c ∷ d ∷ e ∷ f ∷ g ∷ []) ≡ None → g ≡ None
seventh None None None None None None None h = refl
seventh None None None None None None (Some x) h = absurd (cc)
seventh None None None None None (Some x) g h = absurd (cc)
seventh None None None None (Some x) f g h = absurd (cc)
seventh None None None (Some x) e f g h = absurd (cc)
seventh None None (Some x) d e f g h = absurd (cc)
seventh None (Some x) c d e f g h = absurd (cc)
seventh (Some x) b c d e f g h = absurd (cc)

fourth : (a b c d e : Option StepError) → machine.first (a ∷ b ∷ c ∷ d ∷ e ∷ []) ≡ None → d ≡ None
fourth None None None None e h = refl
fourth None None None (Some x) e h = absurd (cc)
fourth None None (Some x) d e h = absurd (cc)
fourth None (Some x) c d e h = absurd (cc)
fourth (Some x) b c d e h = absurd (cc)

-- a request that may begin has its directory
pub begins_there : (w : World) (r d : ℕ) → machine.refusal w (Begin r d) ≡ None → is_present w d ≡ true
unfolding machine.refusal machine.causes
begins_there w r d h =
    on (is_present w d) refl
    (fourth (when (nat_le history_limit w.events) HistoryFull) (no_rank w r) (rank_stopped w r) (no_dir w d) (not_served w r d (authority w d)) h)
  where
    on : (b : Bool) → is_present w d ≡ b → when (not b) NoDir ≡ None → is_present w d ≡ true
    on true is h = is
    on false is h = absurd (cc)

-- a directory that may go has an authority
gone_held : (w : World) (d : ℕ) → machine.refusal w (Gone d) ≡ None → (r : ℕ) × (authority w d ≡ Some r)
unfolding machine.refusal machine.causes
gone_held w d h =
    on (authority w d) refl
    (seventh (when (nat_le history_limit w.events) HistoryFull) (when (is_root d) IsRoot) (no_dir w d) (when (any_at (is_child d) w.parents) NotEmpty)
    (busy (open_export w d)) (not_yet (running_on w (d ∷ []))) (authority_stopped w (authority w d)) h)
  where
    on : (o : Option ℕ) → authority w d ≡ o → authority_stopped w o ≡ None → (r : ℕ) × (authority w d ≡ Some r)
    on None is h = absurd (cc)
    on (Some r) is h = (r, is)

module _ (w : World) (ops : List Operation) (d : ℕ) (now : rank_after ops d ≡ named_of w d) where
  -- an event that is none of the map's
  same : (e : Option Entry) → named_by w d e ≡ named_of w d → rank_after (ops ++ []) d ≡ named_by w d e
  same e h = ap (λ os. rank_after os d) (append-nil ops) ∙ (now ∙ sym h)

  made : (p : ℕ) (o : Option ℕ) → rank_after (ops ++ set_for (length w.parents ∷ []) o) d ≡ named_by w d (entered_by o (JournalEntry.Made (length w.parents)))
  made p None = same None refl
  made p (Some r) =
      rank_after-snoc ops (SetTo (length w.parents ∷ []) r) d
      ∙ (ap (λ b. if b then Some r else rank_after ops d) (or_false (length w.parents == d))
      ∙ ap (λ (x : Option ℕ). if length w.parents == d then Some r else x) now)

  gone : (g r : ℕ) → rank_after (ops ++ Clear g ∷ []) d ≡ named_by w d (entered_by (Some r) (JournalEntry.Gone g))
  gone g r = rank_after-snoc ops (Clear g) d ∙ ap (λ (x : Option ℕ). if g == d then None else x) now

  notified : (x : ℕ) → rank_after (ops ++ SetTo (order_in w.orders x).dirs (to_of w x) ∷ []) d ≡ named_after w d (from_of w x) (JournalEntry.Notified x)
  notified x =
      rank_after-snoc ops (SetTo (order_in w.orders x).dirs (to_of w x)) d
      ∙ (ap (λ b. if b then Some (to_of w x) else rank_after ops d) (names_among (order_in w.orders x).dirs d)
      ∙ ap (λ (o : Option ℕ). if is_among (order_in w.orders x).dirs d then Some (to_of w x) else o) now)

  -- the operation that an accepted event makes leaves what its journal entry says
  follows : (e : Event) → machine.refusal w e ≡ None → rank_after (ops ++ map_change w e) d ≡ named_by w d (accepted_entry w e)
  follows (Made p) h = made p (authority w p)
  follows (Gone g) h =
      let held = gone_held w g h in
      gone g held.0 ∙ ap (λ o. named_by w d (entered_by o (JournalEntry.Gone g))) (sym held.1)
  follows (Begin r g) h = same None refl
  follows (End t) h = same None refl
  follows (Start from to dirs) h = same None refl
  follows (Deliver m) h = same (delivered_entry w (slice_get w.sent m)) (sym (delivered_named w d (slice_get w.sent m)))
  follows (Froze x) h = same None refl
  follows (Notify x) h = notified x
  follows (Abort x) h = same None refl
  follows (Stop r) h = same None refl
  follows (Restart r) h = same None refl
  follows (Ask x) h = same None refl

-- the world after an accepted event
pub stepped : (w : World) (e : Event) → machine.refusal w e ≡ None → (machine.step w e).1 ≡ after_event w e
unfolding machine.step
stepped w e h = rw h refl

written : (w : World) (e : Event) → machine.refusal w e ≡ None → entry w e ≡ accepted_entry w e
unfolding entry
written w e h = rw h refl

-- where the map named for each directory what the cluster does, it does after the event
pub map_follows : (w : World) (ops : List Operation) (e : Event) → IsRecorded w e → machine.refusal w e ≡ None
    → ((d : ℕ) → rank_after ops d ≡ named_of w d) → (d : ℕ) → rank_after (ops ++ map_change w e) d ≡ named_of (after_event w e) d
map_follows w ops e is h now d =
    follows w ops d (now d) e h
    ∙ (ap (λ o. named_by w d o) (sym (written w e h))
    ∙ (sym (is.map d) ∙ ap (λ v. named_of v d) (stepped w e h)))

pub parents_follow : (w : World) (e : Event) → IsRecorded w e → machine.refusal w e ≡ None → (after_event w e).parents ≡ parents_after w e
parents_follow w e is h = ap (λ (v : World). v.parents) (sym (stepped w e h)) ∙ is.parents h

pub limit_stays : (w : World) (e : Event) → IsRecorded w e → machine.refusal w e ≡ None → (after_event w e).limit ≡ w.limit
limit_stays w e is h = ap (λ (v : World). v.limit) (sym (stepped w e h)) ∙ is.limit

pub ranks_stay : (w : World) (e : Event) → IsRecorded w e → machine.refusal w e ≡ None → (after_event w e).ranks ≡ w.ranks
ranks_stay w e is h = ap (λ (v : World). v.ranks) (sym (stepped w e h)) ∙ is.ranks

-- what these events leave of the rest

unlogged : (w : World) (r d : ℕ) → logs_export w (Begin r d) ≡ false
unfolding logs_export entry
unlogged w r d = on (machine.refusal w (Begin r d))
  where
    on : (o : Option StepError) → is_log (unless_refused o None) ≡ false
    on None = refl
    on (Some e) = refl

pub after_begin : (s : State) (r d : ℕ) → next s (Step (Begin r d))
    ≡ record s { cluster = after_event s.cluster (Begin r d); begun = raised s.begun d; events = s.events + 1 }
unfolding happens
after_begin s r d = rw (append-nil s.map, unlogged s.cluster r d) refl

pub begin_present : (old new : Present) (r d : ℕ)
    → new ≡ record old {
      state = record old.state {
        cluster = after_event old.state.cluster (Begin r d);
        begun = raised old.state.begun d;
        events = old.state.events + 1;
      };
    }
    → new ≡ stepped_to old (Step (Begin r d))
begin_present old new r d h = h ∙ ap (λ (s : State). record old { state = s }) (sym (after_begin old.state r d))

-- any other event that neither makes nor removes a directory begins no request
pub after_step : (s : State) (e : Event) → is_inner e ≡ true
    → next s (Step e) ≡ record s {
      cluster = after_event s.cluster e;
      map = s.map ++ map_change s.cluster e;
      opened = marked_if (logs_export s.cluster e) s.opened s.events;
      events = s.events + 1;
    }
unfolding happens
after_step s (Made p) h = absurd (cc)
after_step s (Gone d) h = absurd (cc)
after_step s (Begin r d) h = absurd (cc)
after_step s (End t) h = refl
after_step s (Start from to dirs) h = refl
after_step s (Deliver m) h = refl
after_step s (Froze x) h = refl
after_step s (Notify x) h = refl
after_step s (Abort x) h = refl
after_step s (Stop r) h = refl
after_step s (Restart r) h = refl
after_step s (Ask x) h = refl

pub step_present : (old new : Present) (e : Event) → is_inner e ≡ true
    → new ≡ record old {
      state = record old.state {
        cluster = after_event old.state.cluster e;
        map = old.state.map ++ map_change old.state.cluster e;
        opened = marked_if (logs_export old.state.cluster e) old.state.opened old.state.events;
        events = old.state.events + 1;
      };
    }
    → new ≡ stepped_to old (Step e)
step_present old new e inner h = h ∙ ap (λ (s : State). record old { state = s }) (sym (after_step old.state e inner))

pub step_reply : (s : State) (e : Event) → (happens s (Step e)).reply ≡ answer.Reply (machine.happens s.cluster e).reply
unfolding happens
step_reply s e = refl

pub inner_parents : (w : World) (e : Event) → is_inner e ≡ true → parents_after w e ≡ w.parents
inner_parents w (Made p) h = absurd (cc)
inner_parents w (Gone d) h = absurd (cc)
inner_parents w (Begin r d) h = absurd (cc)
inner_parents w (End t) h = refl
inner_parents w (Start from to dirs) h = refl
inner_parents w (Deliver m) h = refl
inner_parents w (Froze x) h = refl
inner_parents w (Notify x) h = refl
inner_parents w (Abort x) h = refl
inner_parents w (Stop r) h = refl
inner_parents w (Restart r) h = refl
inner_parents w (Ask x) h = refl

-- a notification that may come is of an export that was started
pub notifies : (w : World) (x : ℕ) → machine.refusal w (Notify x) ≡ None → x < length w.orders
unfolding machine.refusal machine.causes
notifies w x h =
    on (nat_le (length w.orders) x) refl
    (second (when (nat_le history_limit w.events) HistoryFull) (no_export w x)
    (rank_stopped w (from_of w x) ∷ late (is_logged (exporter_of w x)) (exporter_of w x) ∷ []) h)
  where
    second : (a b : Option StepError) (cs : List (Option StepError)) → machine.first (a ∷ b ∷ cs) ≡ None → b ≡ None
    second None None cs h = refl
    second None (Some e) cs h = absurd (cc)
    second (Some e) b cs h = absurd (cc)

    on : (b : Bool) → nat_le (length w.orders) x ≡ b → when b NoExport ≡ None → x < length w.orders
    on true is h = absurd (cc)
    on false is h = grind (arith, nat_tests)

-- only the root has a rank
pub first_mapped : (limit ranks d : ℕ) → rank_after (SetTo (0 ∷ []) 0 ∷ []) d ≡ named_of (machine.start limit ranks) d
unfolding machine.start
first_mapped limit ranks d = rank_after-snoc [] (SetTo (0 ∷ []) 0) d ∙ (ap (λ (x : Option ℕ). entry_after d x (SetTo (0 ∷ []) 0)) (rank_after-none d) ∙ on d)
  where
    on : (d : ℕ) → entry_after d None (SetTo (0 ∷ []) 0) ≡ slice_index_or (Some 0 ∷ []) d None
    on zero = refl
    on (suc d) = rw (ne_eqb 0 (suc d) (λ h. cc)) refl
