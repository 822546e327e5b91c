-- Errors that no cause of the definition is: out of memory and, for connected lists, 26.
use Rattle.std.proofs.Common.{◌≡◌, ◌≢◌, ℕ, zero, suc, Bool, true, false, not, eqb, leb, cond, List, [], ◌∷◌, length, Option, Some, None}
use Rattle.export_protocol.specs.declared.step_error.StepError.{StepError}
use Rattle.export_protocol.specs.declared.step_error.StepError.TheVariants.{Memory, NotConnected}
use Rattle.export_protocol.specs.Cluster.{World}
use Rattle.export_protocol.specs.Authority.{authority, open_export, frozen_by, is_among, or_else}
use Rattle.export_protocol.specs.Step.{refusal, causes, first, when, busy, held, held_at}
use Rattle.export_protocol.specs.Step.{elsewhere, authority_stopped, not_served, cannot_leave, least_fault, is_connected, history_limit}
use Rattle.export_protocol.specs.declared.event.Event.{Event}
use Rattle.export_protocol.specs.declared.event.Event.TheVariants.{Begin, End, Start, Deliver, Froze, Notify, Abort, Stop, Restart, Ask}

-- the cause isn't this error
abbrev pub IsOther : StepError → Option StepError → Type 0
IsOther error o = o ≢ Some error

abbrev pub AreOther : StepError → List (Option StepError) → Type 0
AreOther error [] = Unit {0}
AreOther error (o ∷ os) = IsOther error o × AreOther error os

either_other : (error : StepError) (o p : Option StepError) → IsOther error o → IsOther error p → IsOther error (or_else o p)
either_other error None p h k = k
either_other error (Some e) p h k = h

first_other : (error : StepError) (os : List (Option StepError)) → AreOther error os → IsOther error (first os)
first_other error [] h = λ e. cc
first_other error (o ∷ os) h = either_other error o (first os) h.0 (first_other error os h.1)

when_other : (error : StepError) (b : Bool) (r : StepError) → r ≢ error → IsOther error (when b r)
when_other error true r n = λ e. n (cc)
when_other error false r n = λ e. cc

-- why a directory can't leave
module _ (error : StepError) (no_dir : StepError.NoDir ≢ error) (other_busy : (x : ℕ) → StepError.Busy x ≢ error)
    (other_rank : (r : ℕ) → StepError.Elsewhere r ≢ error) (w : World) where
  busy_other : (o : Option ℕ) → IsOther error (busy o)
  busy_other None = λ e. cc
  busy_other (Some x) = λ e. other_busy x (cc)

  elsewhere_other : (r : ℕ) (o : Option ℕ) → IsOther error (elsewhere r o)
  elsewhere_other r None = λ e. no_dir (cc)
  elsewhere_other r (Some a) = when_other error (not (eqb a r)) (StepError.Elsewhere a) (other_rank a)

  leave_other : (from d : ℕ) → IsOther error (cannot_leave w from d)
  leave_other from d = first_other error (busy (open_export w d) ∷ elsewhere from (authority w d) ∷ [])
      (busy_other (open_export w d), (elsewhere_other from (authority w d), tt))

  least_other : (from : ℕ) (dirs : List ℕ) (n : ℕ) → IsOther error (least_fault w from dirs n)
  least_other from dirs zero = λ e. cc
  least_other from dirs (suc n) = either_other error (least_fault w from dirs n) (cond (is_among dirs n) (cannot_leave w from n) None)
      (least_other from dirs n) (go (is_among dirs n))
    where
      go : (b : Bool) → IsOther error (cond b (cannot_leave w from n) None)
      go true = leave_other from n
      go false = λ e. cc

-- out of memory

abbrev pub IsNamed : Option StepError → Type 0
IsNamed = IsOther Memory

abbrev pub AreNamed : List (Option StepError) → Type 0
AreNamed = AreOther Memory

when_named : (b : Bool) (r : StepError) → r ≢ Memory → IsNamed (when b r)
when_named = when_other Memory

held_named : (o : Option ℕ) → IsNamed (held o)
held_named None = λ e. cc
held_named (Some x) = λ e. cc

busy_named : World → (o : Option ℕ) → IsNamed (busy o)
busy_named = busy_other Memory (λ e. cc) (λ x e. cc) (λ r e. cc)

module _ (w : World) where
  held_at_named : (d : ℕ) (o : Option ℕ) → IsNamed (held_at w d o)
  held_at_named d None = λ e. cc
  held_at_named d (Some r) = held_named (frozen_by w r d)

  stopped_named : (o : Option ℕ) → IsNamed (authority_stopped w o)
  stopped_named None = λ e. cc
  stopped_named (Some r) = when_named _ (StepError.Stopped r) (λ e. cc)

  served_named : (r d : ℕ) (o : Option ℕ) → IsNamed (not_served w r d o)
  served_named r d None = λ e. cc
  served_named r d (Some a) = go (eqb a r)
    where
      go : (b : Bool) → IsNamed (cond b (held (frozen_by w r d)) (Some (StepError.Elsewhere a)))
      go true = held_named (frozen_by w r d)
      go false = λ e. cc

  least_named : (from : ℕ) (dirs : List ℕ) (n : ℕ) → IsNamed (least_fault w from dirs n)
  least_named = least_other Memory (λ e. cc) (λ x e. cc) (λ r e. cc) w

  causes_named : (e : Event) → AreNamed (causes w e)
  unfolding causes
  causes_named (Event.Made p) = (
    when_named _ StepError.NoDir (λ e. cc),
    (when_named _ StepError.TreeFull (λ e. cc), (held_at_named p (authority w p), (stopped_named (authority w p), tt))),
  )
  causes_named (Event.Gone d) = (
    when_named _ StepError.IsRoot (λ e. cc),
    (
      when_named _ StepError.NoDir (λ e. cc),
      (
        when_named _ StepError.NotEmpty (λ e. cc),
        (busy_named w (open_export w d), (when_named _ _ (λ e. cc), (stopped_named (authority w d), tt))),
      ),
    ),
  )
  causes_named (Begin r d) = (
    when_named _ StepError.NoRank (λ e. cc),
    (when_named _ (StepError.Stopped r) (λ e. cc), (when_named _ StepError.NoDir (λ e. cc), (served_named r d (authority w d), tt))),
  )
  causes_named (End t) = (when_named _ StepError.NoTicket (λ e. cc), tt)
  causes_named (Start from to dirs) = (
    when_named _ StepError.NoRank (λ e. cc),
    (
      when_named _ StepError.NoRank (λ e. cc),
      (
        when_named _ (StepError.Stopped from) (λ e. cc),
        (
          when_named _ StepError.SameRank (λ e. cc),
          (
            when_named _ StepError.NoDir (λ e. cc),
            (
              when_named _ StepError.NotConnected (λ e. cc),
              (least_named from dirs (length w.parents), (when_named _ StepError.ExportsFull (λ e. cc), tt)),
            ),
          ),
        ),
      ),
    ),
  )
  causes_named (Deliver k) = (when_named _ StepError.NoMessage (λ e. cc), tt)
  causes_named (Froze x) = (when_named _ StepError.NoExport (λ e. cc), (when_named _ _ (λ e. cc), (when_named _ _ (λ e. cc), (when_named _ _ (λ e. cc), tt))))
  causes_named (Notify x) = (when_named _ StepError.NoExport (λ e. cc), (when_named _ _ (λ e. cc), (when_named _ _ (λ e. cc), tt)))
  causes_named (Abort x) = (when_named _ StepError.NoExport (λ e. cc), (when_named _ _ (λ e. cc), (when_named _ _ (λ e. cc), tt)))
  causes_named (Stop r) = (when_named _ StepError.NoRank (λ e. cc), (when_named _ (StepError.Stopped r) (λ e. cc), tt))
  causes_named (Restart r) = (when_named _ StepError.NoRank (λ e. cc), tt)
  causes_named (Ask x) = (when_named _ StepError.NoExport (λ e. cc), (when_named _ _ (λ e. cc), (when_named _ _ (λ e. cc), tt)))

  pub never_memory : (e : Event) → refusal w e ≢ Some Memory
  unfolding refusal
  never_memory e = first_other Memory (when (leb history_limit w.events) StepError.HistoryFull ∷ causes w e)
      (when_named (leb history_limit w.events) StepError.HistoryFull (λ k. cc), causes_named e)

  -- a connected list is refused only for other causes
  pub never_unconnected : (from to : ℕ) (dirs : List ℕ) → is_connected w dirs ≡ true → refusal w (Start from to dirs) ≢ Some NotConnected
  unfolding refusal causes
  never_unconnected from to dirs connected = first_other NotConnected
      (when (leb history_limit w.events) StepError.HistoryFull ∷ causes w (Start from to dirs)) (
        other _ StepError.HistoryFull (λ e. cc),
        (
          other _ StepError.NoRank (λ e. cc),
          (
            other _ StepError.NoRank (λ e. cc),
            (
              other _ (StepError.Stopped from) (λ e. cc),
              (
                other _ StepError.SameRank (λ e. cc),
                (
                  other _ StepError.NoDir (λ e. cc),
                  (
                    passed (is_connected w dirs) connected,
                    (
                      least_other NotConnected (λ e. cc) (λ x e. cc) (λ r e. cc) w from dirs (length w.parents),
                      (other _ StepError.ExportsFull (λ e. cc), tt),
                    ),
                  ),
                ),
              ),
            ),
          ),
        ),
      )
    where
      other : (b : Bool) (r : StepError) → r ≢ NotConnected → IsOther NotConnected (when b r)
      other = when_other NotConnected

      passed : (b : Bool) → b ≡ true → IsOther NotConnected (when (not b) NotConnected)
      passed true h = λ e. cc
      passed false h = absurd (cc)
