-- Parents have smaller numbers, and no request runs at a stopped rank.
use Rattle.std.proofs.Common.{◌≡◌, ◌≢◌, ℕ, zero, suc, ◌+◌, ◌-◌, ◌<◌, Bool, true, false, not, eqb, cond, List, []}
use Rattle.std.proofs.Common.{◌∷◌, ◌++◌, length, get_or, set, Some, None, refl, sym, ap, ◌∙◌, subst, inl, inr, arith, Option}
use Rattle.std.proofs.Math.Logic.{∥∥₁_elim}
use Rattle.std.proofs.lemmas.Bool.{cases_lt, cases_eq, eqb-false, not-false}
use Rattle.std.proofs.lemmas.List.{get_or-set_same, get_or-set_other, get_or_past, length-set}
use Rattle.export_protocol.specs.declared.journal.JournalEntry.{JournalEntry}
use Rattle.export_protocol.specs.declared.event.Request.{Request}
use Rattle.export_protocol.specs.Cluster.{World}
use Rattle.export_protocol.specs.Authority.{authority, request_of, is_present, is_stopped}
use Rattle.export_protocol.specs.Step.{start, causes, refusal, happens, step, answered, run, counted, journaled_by, changed, ignored, restarts, stops, ends_at}
use Rattle.export_protocol.specs.View.{IsReached}
use Rattle.export_protocol.proofs.Views.{push_same, push_other, map_at_get, map_at_past}
use Rattle.std.specs.List.{slice_get}
use Rattle.export_protocol.specs.declared.step_error.StepError.{StepError}
use Rattle.export_protocol.specs.declared.event.Event.{Event}
use Rattle.export_protocol.specs.declared.event.Event.TheVariants.{Begin, End, Start, Deliver, Froze, Notify, Abort, Stop, Restart, Ask}
use Rattle.export_protocol.proofs.Frame.{Framed, delivered_frame}
use Rattle.export_protocol.proofs.Events.{NoneOf, not_refused, there_near, set_none}
use Rattle.export_protocol.proofs.Theorem.{not_refused_causes}

pub record Tidy (w : World) : Type 0 where
  pub smaller : (d p : ℕ) → get_or w.parents d None ≡ Some p → d ≢ 0 → p < d
  pub lower : (d p : ℕ) → get_or w.parents d None ≡ Some p → p ≢ d → p < d
  pub awake : (t : ℕ) (q : Request) → request_of w t ≡ Some q → is_stopped w q.rank ≡ false

record Steady (w v : World) : Type 0 where
  parents : v.parents ≡ w.parents
  tickets : v.tickets ≡ w.tickets
  stopped : v.stopped ≡ w.stopped

steady_tidy : (w v : World) → Steady w v → Tidy w → Tidy v
steady_tidy w v s t = record {
  smaller = λ d p h n. t.smaller d p (sym (ap (λ ps. get_or ps d None) s.parents) ∙ h) n;
  lower = λ d p h n. t.lower d p (sym (ap (λ ps. get_or ps d None) s.parents) ∙ h) n;
  awake = λ k q h. ap (λ bs. get_or bs q.rank false) s.stopped ∙ t.awake k q (sym (ap (λ ts. get_or ts k None) s.tickets) ∙ h);
}

pub set_false : (bs : List Bool) (k : ℕ) → get_or (set bs k false) k false ≡ false
set_false bs k = elim (cases_lt k (length bs)) [
  | inl m ↦ get_or-set_same bs k false false m
  | inr m ↦ get_or_past (set bs k false) k false (rw (length-set bs k false) m)
]

pub ended_elsewhere : (rank : ℕ) (o : Option Request) (q : Request) → ends_at rank o ≡ Some q → (o ≡ Some q) × (q.rank ≢ rank)
ended_elsewhere rank None q h = absurd (cc)
ended_elsewhere rank (Some p) q h = go (eqb p.rank rank) refl h
  where
    same : (r s : Request) → Some r ≡ Some s → r ≡ s
    same r s i = cc

    go : (b : Bool) → eqb p.rank rank ≡ b → cond b None (Some p) ≡ Some q → (Some p ≡ Some q) × (q.rank ≢ rank)
    go true e k = absurd (cc)
    go false e k = (k, subst (λ (r : Request). r.rank ≢ rank) (same p q k) (eqb-false p.rank rank e))

module _ (w : World) (tidy : Tidy w) where
  made_tidy : (o : Option ℕ) (e : JournalEntry) (p : ℕ) (named : List (Option ℕ)) → p < length w.parents →
      Tidy (record (journaled_by w o e) { parents = w.parents ++ Some p ∷ []; named = named })
  made_tidy o e p named near = record { smaller = small; lower = low; awake = wakes o }
    where
      same : (a b : ℕ) → Some a ≡ Some b → a ≡ b
      same a b i = cc

      small : (d q : ℕ) → get_or (w.parents ++ Some p ∷ []) d None ≡ Some q → d ≢ 0 → q < d
      small d q h n = elim (cases_eq d (length w.parents)) [
        | inl i ↦ (let k : p ≡ q = same p q (sym (push_same w.parents (Some p) None) ∙ rw i at h) in omega arith)
        | inr m ↦ tidy.smaller d q (sym (push_other w.parents (Some p) None d m) ∙ h) n
      ]

      low : (d q : ℕ) → get_or (w.parents ++ Some p ∷ []) d None ≡ Some q → q ≢ d → q < d
      low d q h n = elim (cases_eq d (length w.parents)) [
        | inl i ↦ (let k : p ≡ q = same p q (sym (push_same w.parents (Some p) None) ∙ rw i at h) in omega arith)
        | inr m ↦ tidy.lower d q (sym (push_other w.parents (Some p) None d m) ∙ h) n
      ]

      wakes : (a : Option ℕ) (t : ℕ) (q : Request) → get_or (journaled_by w a e).tickets t None ≡ Some q
          → get_or (journaled_by w a e).stopped q.rank false ≡ false
      wakes None t q h = tidy.awake t q h
      wakes (Some r) t q h = tidy.awake t q h

  gone_tidy : (o : Option ℕ) (e : JournalEntry) (c : ℕ) (named : List (Option ℕ)) →
      Tidy (record (journaled_by w o e) { parents = set w.parents c None; named = named })
  gone_tidy o e c named = record { smaller = small; lower = low; awake = wakes o }
    where
      small : (d q : ℕ) → get_or (set w.parents c None) d None ≡ Some q → d ≢ 0 → q < d
      small d q h n = elim (cases_eq d c) [
        | inl i ↦ absurd (cc (set_none w.parents c, rw i at h))
        | inr m ↦ tidy.smaller d q (sym (get_or-set_other w.parents c d None None m) ∙ h) n
      ]

      low : (d q : ℕ) → get_or (set w.parents c None) d None ≡ Some q → q ≢ d → q < d
      low d q h n = elim (cases_eq d c) [
        | inl i ↦ absurd (cc (set_none w.parents c, rw i at h))
        | inr m ↦ tidy.lower d q (sym (get_or-set_other w.parents c d None None m) ∙ h) n
      ]

      wakes : (a : Option ℕ) (t : ℕ) (q : Request) → get_or (journaled_by w a e).tickets t None ≡ Some q
          → get_or (journaled_by w a e).stopped q.rank false ≡ false
      wakes None t q h = tidy.awake t q h
      wakes (Some r) t q h = tidy.awake t q h

  begin_tidy : (rank d : ℕ) → is_stopped w rank ≡ false → Tidy (record w { tickets = w.tickets ++ Some (record { rank = rank; dir = d }) ∷ [] })
  begin_tidy rank d up = record {
    smaller = tidy.smaller;
    lower = tidy.lower;
    awake = λ t q h. elim (cases_eq t (length w.tickets)) [
      | inl e ↦ subst (λ (r : Request). is_stopped w r.rank ≡ false)
          (same (record { rank = rank; dir = d }) q (sym (push_same w.tickets (Some (record { rank = rank; dir = d })) None) ∙ rw e at h))
          up
      | inr n ↦ tidy.awake t q (sym (push_other w.tickets (Some (record { rank = rank; dir = d })) None t n) ∙ h)
    ];
  }
    where
      same : (r s : Request) → Some r ≡ Some s → r ≡ s
      same r s i = cc

  end_tidy : (k : ℕ) → Tidy (record w { tickets = set w.tickets k None })
  end_tidy k = record {
    smaller = tidy.smaller;
    lower = tidy.lower;
    awake = λ t q h. elim (cases_eq t k) [
      | inl e ↦ absurd (cc (set_none w.tickets k, rw e at h))
      | inr n ↦ tidy.awake t q (sym (get_or-set_other w.tickets k t None None n) ∙ h)
    ];
  }

  stop_tidy : (rank : ℕ) → Tidy (stops w rank)
  stop_tidy rank = record {
    smaller = tidy.smaller;
    lower = tidy.lower;
    awake = λ t q h. elim (cases_lt t (length w.tickets)) [
      | inl near ↦
          (let e : (request_of w t ≡ Some q) × (q.rank ≢ rank) =
          ended_elsewhere rank (request_of w t) q (sym (map_at_get (λ u request. ends_at rank request) w.tickets t None None near)
          ∙ h) in
          get_or-set_other w.stopped rank q.rank true false e.1 ∙ tidy.awake t q e.0)
      | inr far ↦ absurd (cc (map_at_past (λ u request. ends_at rank request) w.tickets t None far, h))
    ];
  }

  restart_tidy : (rank : ℕ) (b : Bool) → Tidy (cond b (changed (restarts w rank)) (ignored w)).world
  restart_tidy rank false = tidy
  restart_tidy rank true = record {
    smaller = tidy.smaller;
    lower = tidy.lower;
    awake = λ t q h. elim (cases_eq q.rank rank) [
      | inl e ↦ rw e (set_false w.stopped rank)
      | inr n ↦ get_or-set_other w.stopped rank q.rank false false n ∙ tidy.awake t q h
    ];
  }

  happens_tidy : (e : Event) → NoneOf (causes w e) → Tidy (happens w e).world
  unfolding happens causes
  happens_tidy (Event.Made p) h =
      made_tidy (authority w p) (JournalEntry.Made (length w.parents)) p (w.named ++ authority w p ∷ [])
      (there_near w p (not-false (is_present w p) (not_refused (not (is_present w p)) StepError.NoDir h.0)))
  happens_tidy (Event.Gone d) h = gone_tidy (authority w d) (JournalEntry.Gone d) d (set w.named d None)
  happens_tidy (Begin r d) h = begin_tidy r d (not_refused (is_stopped w r) (StepError.Stopped r) h.1.0)
  happens_tidy (End t) h = end_tidy t
  happens_tidy (Start f t ds) h = steady_tidy w _ (record { parents = refl; tickets = refl; stopped = refl }) tidy
  happens_tidy (Deliver k) h =
      let f : Framed w (happens w (Deliver k)).world = delivered_frame w (slice_get w.sent k) in
      steady_tidy w _ (record { parents = f.parents; tickets = f.tickets; stopped = f.stopped }) tidy
  happens_tidy (Froze x) h = steady_tidy w _ (record { parents = refl; tickets = refl; stopped = refl }) tidy
  happens_tidy (Notify x) h = steady_tidy w _ (record { parents = refl; tickets = refl; stopped = refl }) tidy
  happens_tidy (Abort x) h = steady_tidy w _ (record { parents = refl; tickets = refl; stopped = refl }) tidy
  happens_tidy (Stop r) h = stop_tidy r
  happens_tidy (Restart r) h = restart_tidy r (is_stopped w r)
  happens_tidy (Ask x) h = steady_tidy w _ (record { parents = refl; tickets = refl; stopped = refl }) tidy

pub step_tidy : (w : World) → Tidy w → (e : Event) → Tidy (step w e).1
unfolding step
step_tidy w tidy e = go (refusal w e) refl
  where
    go : (o : Option StepError) → refusal w e ≡ o → Tidy (answered w (happens w e) o).1
    go None h = steady_tidy (happens w e).world (counted (happens w e).world) (record { parents = refl; tickets = refl; stopped = refl })
        (happens_tidy w tidy e (not_refused_causes w e h))
    go (Some r) h = tidy

pub run_tidy : (es : List Event) (w : World) → Tidy w → Tidy (run w es)
run_tidy [] w tidy = tidy
run_tidy (e ∷ es) w tidy = run_tidy es (step w e).1 (step_tidy w tidy e)

pub start_tidy : (limit ranks : ℕ) → Tidy (start limit ranks)
unfolding start
start_tidy limit ranks = record { smaller = small; lower = low; awake = λ t q h. absurd (cc) }
  where
    small : (d p : ℕ) → get_or (Some 0 ∷ []) d None ≡ Some p → d ≢ 0 → p < d
    small zero p h n = absurd (n refl)
    small (suc d) p h n = absurd (cc)

    low : (d p : ℕ) → get_or (Some 0 ∷ []) d None ≡ Some p → p ≢ d → p < d
    low zero p h n = absurd (n (same p h))
      where
        same : (q : ℕ) → Some 0 ≡ Some q → q ≡ 0
        same q e = cc
    low (suc d) p h n = absurd (cc)

pub by_tidy : (w : World) → IsReached w → (Tidy w → ⊥) → ⊥
by_tidy w h k = ∥∥₁_elim h (λ x y. absurd x) (λ r. k (subst Tidy r.4 (run_tidy r.2 (start r.0 r.1) (start_tidy r.0 r.1))))
