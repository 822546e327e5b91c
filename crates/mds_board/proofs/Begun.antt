-- Requests that began are counted.
use Rattle.std.proofs.Common.{◌≡◌, ◌≢◌, ℕ, zero, suc, ◌+◌, ◌<◌, ◌≤◌, ◌==◌, arith, Bool, true, false, if◌then◌else◌, nat_le}
use Rattle.std.proofs.Common.{List, [], ◌∷◌, length, length-append, filter, replicate, Option, Some, None, refl, sym, ap, ◌∙◌, subst}
use Rattle.std.proofs.lemmas.Bool.Decides.{nat_tests}
use Rattle.std.proofs.lemmas.List.{length-replicate, length-set}
use Rattle.heat_ledger.specs.Rows.{at, raised}
use Rattle.heat_ledger.proofs.RowLemmas.{at_raised_same, at_raised_other, length-raised}
use Rattle.export_protocol.specs.Authority.{authority}
use Rattle.export_protocol.specs.Cluster.{World as Cluster}
use Rattle.export_protocol.specs.Entries.{parents_after}
use Rattle.export_protocol.specs.View.{IsReached}
use Rattle.export_protocol.specs.Step as machine
use Rattle.export_protocol.specs.Step.{authority_stopped, held_at, history_limit, no_dir, when}
use Rattle.export_protocol.specs.declared.event.Event.{Event}
use Rattle.export_protocol.specs.declared.event.Event.TheVariants.{Made, Gone, Begin, End, Start, Deliver, Froze, Notify, Abort, Stop, Restart, Ask}
use Rattle.export_protocol.specs.declared.step_error.StepError.{StepError}
use Rattle.export_protocol.specs.declared.step_error.StepError.TheVariants.{HistoryFull, TreeFull}
use Rattle.export_protocol.proofs.Entries.{is_recorded}
use Rattle.export_protocol.proofs.Reached.{reached_step, started}
use Rattle.mds_board.specs.declared.change.Change.{Change}
use Rattle.mds_board.specs.declared.change.Change.TheVariants.{Make, Remove, Mask, Deposit, Tick, Step, Open, Adopt}
use Rattle.mds_board.specs.declared.change.Change.TheVariants as change
use Rattle.mds_board.specs.State.{State, start, refusal, happens, next, after_event, begun_with}
use Rattle.mds_board.proofs.Accepted.{may_make, may_remove, may_step}
use Rattle.mds_board.proofs.Fitting.{near}
use Rattle.mds_board.proofs.Mapping.{begins_there, limit_stays, parents_follow, stepped}
use Rattle.mds_board.specs.declared.entry.Entry.{Entry}
use Rattle.mds_board.specs.History.{IsReplay}
use Rattle.mds_board.specs.Promises.{begins, begin_count}

-- the directories of a cluster that events led to have numbers below the limit
record IsWithin (limit : ℕ) (w : Cluster) : Type 0 where
  reached : IsReached w
  same : w.limit ≡ limit
  few : length w.parents ≤ limit

third : (a b c d e : Option StepError) → machine.first (a ∷ b ∷ c ∷ d ∷ e ∷ []) ≡ None → c ≡ None
third None None None d e h = refl
third None None (Some x) d e h = absurd (cc)
third None (Some x) c d e h = absurd (cc)
third (Some x) b c d e h = absurd (cc)

-- a directory that may be made has a number below the limit
made_below : (w : Cluster) (p : ℕ) → machine.refusal w (Made p) ≡ None → length w.parents < w.limit
unfolding machine.refusal machine.causes
made_below w p h =
    on (nat_le w.limit (length w.parents)) refl
    (third (when (nat_le history_limit w.events) HistoryFull) (no_dir w p) (when (nat_le w.limit (length w.parents)) TreeFull)
    (held_at w p (authority w p)) (authority_stopped w (authority w p)) h)
  where
    on : (b : Bool) → nat_le w.limit (length w.parents) ≡ b → when b TreeFull ≡ None → length w.parents < w.limit
    on true is h = absurd (cc)
    on false is h = grind (arith, nat_tests)

few_after : (limit : ℕ) (w : Cluster) (e : Event) → IsWithin limit w → machine.refusal w e ≡ None → length (parents_after w e) ≤ limit
few_after limit w (Made p) h ok = let l = made_below w p ok in omega (arith, length-append w.parents (Some p ∷ []), l, h.same)
few_after limit w (Gone d) h ok = let l = length-set w.parents d None in omega (arith, l, h.few)
few_after limit w (Begin r d) h ok = h.few
few_after limit w (End t) h ok = h.few
few_after limit w (Start from to dirs) h ok = h.few
few_after limit w (Deliver m) h ok = h.few
few_after limit w (Froze x) h ok = h.few
few_after limit w (Notify x) h ok = h.few
few_after limit w (Abort x) h ok = h.few
few_after limit w (Stop r) h ok = h.few
few_after limit w (Restart r) h ok = h.few
few_after limit w (Ask x) h ok = h.few

within_after : (limit : ℕ) (w : Cluster) (e : Event) → IsWithin limit w → machine.refusal w e ≡ None → IsWithin limit (after_event w e)
within_after limit w e h ok =
    let written = is_recorded w h.reached e in
    let parents = parents_follow w e written ok in
    record {
      reached = subst IsReached (stepped w e ok) (reached_step w h.reached e);
      same = limit_stays w e written ok ∙ h.same;
      few = subst (λ (ps : List (Option ℕ)). length ps ≤ limit) (sym parents) (few_after limit w e h ok);
    }

-- each directory has a count of the requests that began on it
record IsCounted (limit : ℕ) (s : State) : Type 0 where
  within : IsWithin limit s.cluster
  counts : length s.begun ≡ limit

counts_stay : (s : State) (e : Event) → length (begun_with s.begun e) ≡ length s.begun
counts_stay s (Made p) = refl
counts_stay s (Gone d) = refl
counts_stay s (Begin r d) = length-raised s.begun d
counts_stay s (End t) = refl
counts_stay s (Start from to dirs) = refl
counts_stay s (Deliver m) = refl
counts_stay s (Froze x) = refl
counts_stay s (Notify x) = refl
counts_stay s (Abort x) = refl
counts_stay s (Stop r) = refl
counts_stay s (Restart r) = refl
counts_stay s (Ask x) = refl

counted_next : (limit : ℕ) (s : State) (c : Change) → IsCounted limit s → refusal s c ≡ None → IsCounted limit (next s c)
unfolding happens
counted_next limit s (Make parent name inodes) h ok =
    record { within = within_after limit s.cluster (Made parent) h.within (may_make s parent name inodes ok).1; counts = h.counts }
counted_next limit s (Remove d) h ok =
    record { within = within_after limit s.cluster (Gone d) h.within (may_remove s d ok).1; counts = h.counts }
counted_next limit s (change.Pin d value) h ok = record { within = h.within; counts = h.counts }
counted_next limit s (Mask bits) h ok = record { within = h.within; counts = h.counts }
counted_next limit s (change.Weights read write) h ok = record { within = h.within; counts = h.counts }
counted_next limit s (Deposit hits) h ok = record { within = h.within; counts = h.counts }
counted_next limit s Tick h ok = record { within = h.within; counts = h.counts }
counted_next limit s (Step e) h ok =
    record { within = within_after limit s.cluster e h.within (may_step s e ok); counts = counts_stay s e ∙ h.counts }
counted_next limit s Open h ok = record { within = h.within; counts = h.counts }
counted_next limit s (Adopt plan) h ok = record { within = h.within; counts = h.counts }

counted_first : (limit active : ℕ) → 1 ≤ limit → 1 ≤ active → IsCounted limit (start limit active)
unfolding machine.start
counted_first limit active room some =
    record {
      within = record { reached = started limit active some; same = refl; few = room };
      counts = length-replicate limit 0;
    }

-- one, where it is so
abbrev one : Bool → ℕ
one true = 1
one false = 0

raised_at : (begun : List ℕ) (dir d : ℕ) → dir < length begun → at (raised begun dir) d ≡ at begun d + one (dir == d)
raised_at begun dir d inside = on (dir == d) refl
  where
    on : (b : Bool) → (dir == d) ≡ b → at (raised begun dir) d ≡ at begun d + one b
    on true is =
        let same : dir ≡ d = grind (arith, nat_tests, is) in
        subst (λ (k : ℕ). at (raised begun dir) k ≡ at begun k + 1) same (at_raised_same begun dir inside)
    on false is =
        let other : d ≢ dir = grind (arith, nat_tests, is) in
        let rest = at_raised_other begun dir d other in
        omega (arith, rest)

none_more : (count : ℕ) → count ≡ count + 0
none_more count = omega arith

begun_next : (limit : ℕ) (s : State) (c : Change) → IsCounted limit s → refusal s c ≡ None → (d : ℕ)
    → at (next s c).begun d ≡ at s.begun d + one (begins d c)
unfolding happens
begun_next limit s (Make parent name inodes) h ok d = none_more (at s.begun d)
begun_next limit s (Remove g) h ok d = none_more (at s.begun d)
begun_next limit s (change.Pin g value) h ok d = none_more (at s.begun d)
begun_next limit s (Mask bits) h ok d = none_more (at s.begun d)
begun_next limit s (change.Weights read write) h ok d = none_more (at s.begun d)
begun_next limit s (Deposit hits) h ok d = none_more (at s.begun d)
begun_next limit s Tick h ok d = none_more (at s.begun d)
begun_next limit s (Step (Begin r g)) h ok d =
    let there = near s.cluster g (begins_there s.cluster r g (may_step s (Begin r g) ok)) in
    let inside : g < length s.begun = omega (arith, there, h.within.few, h.counts) in
    raised_at s.begun g d inside
begun_next limit s (Step (Made p)) h ok d = none_more (at s.begun d)
begun_next limit s (Step (Gone g)) h ok d = none_more (at s.begun d)
begun_next limit s (Step (End t)) h ok d = none_more (at s.begun d)
begun_next limit s (Step (Start from to dirs)) h ok d = none_more (at s.begun d)
begun_next limit s (Step (Deliver m)) h ok d = none_more (at s.begun d)
begun_next limit s (Step (Froze x)) h ok d = none_more (at s.begun d)
begun_next limit s (Step (Notify x)) h ok d = none_more (at s.begun d)
begun_next limit s (Step (Abort x)) h ok d = none_more (at s.begun d)
begun_next limit s (Step (Stop r)) h ok d = none_more (at s.begun d)
begun_next limit s (Step (Restart r)) h ok d = none_more (at s.begun d)
begun_next limit s (Step (Ask x)) h ok d = none_more (at s.begun d)
begun_next limit s Open h ok d = none_more (at s.begun d)
begun_next limit s (Adopt plan) h ok d = none_more (at s.begun d)

-- one more entry at the head
begun_more : (d : ℕ) (e : Entry) (es : List Entry) → begin_count d (e ∷ es) ≡ one (begins d e.change) + begin_count d es
begun_more d e es = on (begins d e.change)
  where
    on : (b : Bool) → length (if b then e ∷ filter (λ (f : Entry). begins d f.change) es else filter (λ (f : Entry). begins d f.change) es)
        ≡ one b + begin_count d es
    on true = omega arith
    on false = omega arith

begun_ran : (limit : ℕ) (s : State) (history : List Entry) (t : State) → IsCounted limit s → IsReplay s history t → (d : ℕ)
    → at t.begun d ≡ at s.begun d + begin_count d history
begun_ran limit s [] t h r d = let same = ap (λ (u : State). at u.begun d) r in omega (arith, same)
begun_ran limit s (e ∷ es) t h r d =
    let rest = begun_ran limit (next s e.change) es t (counted_next limit s e.change h r.0) r.3 d in
    let first = begun_next limit s e.change h r.0 d in
    let more = begun_more d e es in
    omega (arith, rest, first, more)

none_at_first : (limit d : ℕ) → at (replicate limit 0) d ≡ 0
none_at_first zero d = refl
none_at_first (suc limit) zero = refl
none_at_first (suc limit) (suc d) = none_at_first limit d

-- What a board counts as begun are the requests that began in its history.
pub begun_in : (limit active : ℕ) (history : List Entry) (t : State) → 1 ≤ limit → 1 ≤ active → IsReplay (start limit active) history t → (d : ℕ)
    → at t.begun d ≡ begin_count d history
begun_in limit active history t room some r d =
    let found = begun_ran limit (start limit active) history t (counted_first limit active room some) r d in
    let none = none_at_first limit d in
    omega (arith, found, none)
