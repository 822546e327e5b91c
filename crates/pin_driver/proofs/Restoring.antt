-- A restorer and its exchanges, one answer after the other.
use Rattle.std.proofs.Common.{◌≡◌, ◌⊎◌, ℕ, suc, ◌-◌, ◌<◌, ◌≤◌, Bool, true, false, not, ◌&&◌, cond, Option}
use Rattle.std.proofs.Common.{Some, None, List, [], ◌∷◌, refl, sym, ap, ◌∙◌, subst, inl, inr, arith}
use Rattle.std.specs.Prelude.{slice_get, nat_le}
use Rattle.std.proofs.lemmas.Bool.{leb-true}
use Rattle.std.proofs.lemmas.Bool.Decides.{eqb_tells}
use Rattle.pin_driver.specs.Exchanges.{Exchange, trouble_after, IsClusterLast, Ascends, MayBeStored, first_asked}
use Rattle.pin_driver.specs.Exchanges.{last_stored, stored_mark, first_cluster, named_cluster, or_later}
use Rattle.pin_driver.specs.Notes.{with_place}
use Rattle.pin_driver.specs.declared.note.Note.TheVariants as kinds
use Rattle.pin_driver.specs.Restored.{IsRightBackQuestion, AreRightBackQuestions, IsRightReturn, IsRightBackEnd, IsBackText}
use Rattle.pin_driver.specs.Restored.{IsRestored, IsOurDirectory, IsFoundOurs, put_right, put_right_more}
use Rattle.pin_driver.specs.Restoring.{any_directory, doubtful_mark, no_mark, restorable_at, is_restorable, is_given, former_pin, restored_one}
use Rattle.pin_driver.specs.Restoring.{restorer_after, restorer_question, restorer_question_in, restorer_run, restorer_start}
use Rattle.pin_driver.specs.Restoring.{restorer_trouble, restorer_advanced, restorer_verdict, restorer_ended}
use Rattle.pin_driver.specs.Setting.{with_exchange}
use Rattle.pin_driver.specs.Troubles.{trouble, is_inode, is_same_pin}
use Rattle.pin_driver.specs.declared.answer.ClusterState.{ClusterState}
use Rattle.pin_driver.specs.declared.answer.FoundPin.{FoundPin}
use Rattle.pin_driver.specs.declared.answer.HostAnswer.{HostAnswer}
use Rattle.pin_driver.specs.declared.answer.HostAnswer.TheVariants as answers
use Rattle.pin_driver.specs.declared.plan.PlannedChange.{PlannedChange}
use Rattle.pin_driver.specs.declared.question.Ending.TheVariants.{Stopped}
use Rattle.pin_driver.specs.declared.question.Mark.{Mark}
use Rattle.pin_driver.specs.declared.question.Question.{Question}
use Rattle.pin_driver.specs.declared.question.Question.TheVariants as questions
use Rattle.pin_driver.specs.declared.question.Trouble.{Trouble}
use Rattle.pin_driver.specs.declared.restorer_state.RestorerPhase.{RestorerPhase}
use Rattle.pin_driver.specs.declared.restorer_state.RestorerPhase.TheVariants as phases
use Rattle.pin_driver.specs.declared.restorer_state.RestorerState.{RestorerState}
use Rattle.pin_driver.specs.declared.task.Task.{Task}
use Rattle.pin_driver.specs.declared.task.TheConstants.{REST_SECONDS}
use Rattle.pin_driver.proofs.Answers.{stored_answer, set_answer, cluster_answer, get_answer}
use Rattle.pin_driver.proofs.Places.{ascends_above}
use Rattle.pin_driver.proofs.KeptBack.{set_right, KeptBack, ToldBack, keeps_back, tells_back, told_back}
use Rattle.pin_driver.proofs.Plain.{same_inode, same_pin, both, either, or_nothing, stays}

-- a restorer that has not ended is where its exchanges leave it
pub record LiveBack (x : Task) (s : RestorerState) (h : List Exchange) : Type 0 where
  pub kept : KeptBack x h
  pub cluster : first_cluster h ≡ s.cluster
  pub order : Ascends s.left x.first.begun (put_right x h)
  pub left : s.left ≤ x.first.begun

pub record NotedBack (x : Task) (s : RestorerState) (h : List Exchange) : Type 0 where
  pub known : (c : ClusterState) × (s.cluster ≡ Some c)
  pub stored : last_stored h ≡ Some (doubtful_mark x.first)

pub record ToRestore (x : Task) (s : RestorerState) (h : List Exchange) : Type 0 where
  pub noted : NotedBack x s h
  pub more : 0 < s.left
  pub change : PlannedChange
  pub planned : slice_get x.plan.changes (s.left - 1) ≡ Some change
  pub checked : IsFoundOurs x (s.left - 1) change h

abbrev InBackPhase : RestorerPhase → Task → RestorerState → List Exchange → Type 0
InBackPhase phases.Resting x s h = LiveBack x s h × (s.cluster ≡ None)
InBackPhase phases.Opening x s h = LiveBack x s h × (s.cluster ≡ None)
InBackPhase phases.Noting x s h = LiveBack x s h × ((c : ClusterState) × (s.cluster ≡ Some c))
InBackPhase phases.Checking x s h = LiveBack x s h × NotedBack x s h
InBackPhase phases.Getting x s h = LiveBack x s h × NotedBack x s h × (0 < s.left) × IsClusterLast h
InBackPhase phases.Restoring x s h = LiveBack x s h × ToRestore x s h
InBackPhase phases.Closing x s h = LiveBack x s h × NotedBack x s h × (s.left ≡ 0)
InBackPhase (phases.Ended ending) x s h = ToldBack x h × IsRightBackEnd x ending h

abbrev IsBack : Task → RestorerState → List Exchange → Type 0
IsBack x s h = InBackPhase s.phase x s h

-- the place after the next one is where the list begins
one_more : (left to : ℕ) (places : List ℕ) → 0 < left → Ascends left to places → Ascends (suc (left - 1)) to places
one_more left to places more up = let same : left ≡ suc (left - 1) = omega (arith, more) in subst (λ (n : ℕ). Ascends n to places) same up

-- what is asked is right
asks_set : (x : Task) (s : RestorerState) (h : List Exchange) → LiveBack x s h → (to : ToRestore x s h) →
    IsRightReturn x (s.left - 1) (former_pin (slice_get x.plan.changes (s.left - 1))) to.change h
asks_set x s h live to =
    let up : Ascends (suc (s.left - 1)) x.first.begun (put_right x h) = one_more s.left x.first.begun (put_right x h) to.more live.order in
    record {
      planned = to.planned;
      pin_of_plan = ap former_pin to.planned;
      begun = omega (arith, to.more, live.left);
      order = up;
      falls = λ j w. omega (arith, ascends_above (suc (s.left - 1)) x.first.begun (put_right x h) up j (set_right x h live.kept.calm j w));
      stored = to.noted.stored;
      checked = to.checked;
      calm = live.kept.calm;
    }

asks_back : (p : RestorerPhase) (x : Task) (s : RestorerState) (h : List Exchange) → restorer_ended p ≡ false → InBackPhase p x s h →
    LiveBack x s h × IsRightBackQuestion x (restorer_question_in p x s) h
asks_back phases.Resting x s h e i = (i.0, tt)
asks_back phases.Opening x s h e i = (i.0, tt)
asks_back phases.Noting x s h e i = (i.0, record { one = inl refl; calm = i.0.kept.calm })
asks_back phases.Checking x s h e i = (i.0, tt)
asks_back phases.Getting x s h e i = (i.0, tt)
asks_back phases.Restoring x s h e i = (i.0, (i.1.change, asks_set x s h i.0 i.1))
asks_back phases.Closing x s h e i = (
  i.0,
  record { one = inr (refl, subst (λ (n : ℕ). Ascends n x.first.begun (put_right x h)) i.2 i.0.order); calm = i.0.kept.calm },
)
asks_back (phases.Ended ending) x s h e i = absurd cc

-- a trouble by the state is one by the exchanges
same_back : (p : RestorerPhase) (x : Task) (s : RestorerState) (h : List Exchange) (a : HostAnswer) → LiveBack x s h →
    trouble_after any_directory x h (record { asked = restorer_question_in p x s; answer = a })
    ≡ trouble any_directory s.cluster x.pace.longest_wait (restorer_question_in p x s) a
same_back phases.Resting x s h a live = refl
same_back phases.Opening x s h a live = ap (λ (c : Option ClusterState). trouble any_directory c x.pace.longest_wait questions.Cluster a) live.cluster
same_back phases.Noting x s h a live = refl
same_back phases.Checking x s h a live = ap (λ (c : Option ClusterState). trouble any_directory c x.pace.longest_wait questions.Cluster a) live.cluster
same_back phases.Getting x s h a live = refl
same_back phases.Restoring x s h a live = refl
same_back phases.Closing x s h a live = refl
same_back (phases.Ended ending) x s h a live = refl

-- the next exchange
abbrev next : Question → HostAnswer → List Exchange → List Exchange
next q a h = record { asked = q; answer = a } ∷ h

kept_back : (p : RestorerPhase) (x : Task) (s : RestorerState) (h : List Exchange) (a : HostAnswer) → restorer_ended p ≡ false →
    InBackPhase p x s h → trouble any_directory s.cluster x.pace.longest_wait (restorer_question_in p x s) a ≡ None →
    KeptBack x (next (restorer_question_in p x s) a h)
kept_back p x s h a e i none =
    let asked : LiveBack x s h × IsRightBackQuestion x (restorer_question_in p x s) h = asks_back p x s h e i in
    keeps_back x (restorer_question_in p x s) a h asked.0.kept (same_back p x s h a asked.0 ∙ none) asked.1

rests : (x : Task) (s : RestorerState) (h : List Exchange) (a : HostAnswer) → InBackPhase phases.Resting x s h →
    KeptBack x (next (questions.Wait REST_SECONDS) a h) →
    IsBack x (restorer_advanced phases.Resting x s a) (next (questions.Wait REST_SECONDS) a h)
rests x s h a i kept = (
  record { kept = kept; cluster = or_nothing (first_cluster h) ∙ i.0.cluster; order = i.0.order; left = i.0.left },
  i.1,
)

opens : (x : Task) (s : RestorerState) (h : List Exchange) (a : HostAnswer) → InBackPhase phases.Opening x s h →
    trouble any_directory s.cluster x.pace.longest_wait questions.Cluster a ≡ None → KeptBack x (next questions.Cluster a h) →
    IsBack x (restorer_advanced phases.Opening x s a) (next questions.Cluster a h)
opens x s h a i none kept =
    let found : (c : ClusterState) × (a ≡ answers.Cluster c) = cluster_answer s.cluster a none in (
      record {
        kept = kept;
        cluster = ap (λ (c : Option ClusterState). or_later c (named_cluster a)) (i.0.cluster ∙ i.1);
        order = i.0.order;
        left = i.0.left;
      },
      (found.0, ap named_cluster found.1),
    )

notes : (x : Task) (s : RestorerState) (h : List Exchange) (a : HostAnswer) → InBackPhase phases.Noting x s h →
    trouble any_directory s.cluster x.pace.longest_wait (questions.Store (doubtful_mark x.first)) a ≡ None →
    KeptBack x (next (questions.Store (doubtful_mark x.first)) a h) →
    IsBack x (restorer_advanced phases.Noting x s a) (next (questions.Store (doubtful_mark x.first)) a h)
notes x s h a i none kept = (
  record { kept = kept; cluster = or_nothing (first_cluster h) ∙ i.0.cluster; order = i.0.order; left = i.0.left },
  record {
    known = i.1;
    stored = ap (λ (b : HostAnswer). stored_mark (questions.Store (doubtful_mark x.first)) b (last_stored h)) (stored_answer a none);
  },
)

checks : (x : Task) (s : RestorerState) (h : List Exchange) (a : HostAnswer) → InBackPhase phases.Checking x s h →
    KeptBack x (next questions.Cluster a h) → IsBack x (restorer_advanced phases.Checking x s a) (next questions.Cluster a h)
checks x s h a i kept = elim (eqb_tells s.left 0) [
  | inl none ↦ rw none.0 (live phases.Closing, record { known = i.1.known; stored = i.1.stored }, none.1)
  | inr some ↦ rw some.0 (live phases.Getting, record { known = i.1.known; stored = i.1.stored }, omega (arith, some.1), refl)
]
  where
    live : (p : RestorerPhase) → LiveBack x (record s { phase = p }) (next questions.Cluster a h)
    live p = record {
      kept = kept;
      cluster = stays (named_cluster a) (first_cluster h) s.cluster i.0.cluster i.1.known;
      order = i.0.order;
      left = i.0.left;
    }

-- the change is put right
passes : (x : Task) (s : RestorerState) (h k : List Exchange) → LiveBack x s h → NotedBack x s h → 0 < s.left → KeptBack x k →
    first_cluster k ≡ first_cluster h → put_right x k ≡ (s.left - 1) ∷ put_right x h → last_stored k ≡ last_stored h →
    IsBack x (restored_one s) k
passes x s h k live noted more kept cluster places stored = (
  record {
    kept = kept;
    cluster = cluster ∙ live.cluster;
    order = rw places (refl, one_more s.left x.first.begun (put_right x h) more live.order);
    left = omega (arith, live.left);
  },
  record { known = noted.known; stored = stored ∙ noted.stored },
)

not_not : (b : Bool) → not (not b) ≡ true → b ≡ true
not_not true e = refl
not_not false e = absurd cc

given : (certain i : ℕ) (change : PlannedChange) (pin : Option ℕ) → is_given (not (nat_le certain i)) change pin ≡ true →
    (pin ≡ change.after) ⊎ ((certain ≤ i) × (pin ≡ change.before))
given certain i change pin e =
    elim (either (is_same_pin pin change.after) (not (not (nat_le certain i)) && is_same_pin pin change.before) e) [
      | inl new ↦ inl (same_pin pin change.after new)
      | inr old ↦
          let parts : (not (not (nat_le certain i)) ≡ true) × (is_same_pin pin change.before ≡ true) =
          both (not (not (nat_le certain i))) (is_same_pin pin change.before) old in
          inr (leb-true certain i (not_not (nat_le certain i) parts.0), same_pin pin change.before parts.1)
    ]

ours : (x : Task) (i : ℕ) (found : FoundPin) (change : Option PlannedChange) →
    is_restorable (not (nat_le x.first.certain i)) change found ≡ true → (c : PlannedChange) × (change ≡ Some c) × IsOurDirectory x i c found
ours x i found None e = absurd cc
ours x i found (Some c) e =
    let parts : (is_inode c.inode found.inode ≡ true) × (is_given (not (nat_le x.first.certain i)) c found.pin ≡ true) =
    both (is_inode c.inode found.inode) (is_given (not (nat_le x.first.certain i)) c found.pin) e in
    (c, refl, record { inode = same_inode c.inode found.inode parts.0; pin = given x.first.certain i c found.pin parts.1 })

found_one : (b : Bool) (x : Task) (s : RestorerState) (h : List Exchange) (found : FoundPin) → restorable_at x (s.left - 1) found ≡ b →
    InBackPhase phases.Getting x s h → KeptBack x (next (questions.Get (s.left - 1)) (answers.Found found) h) →
    IsBack x (cond b (record s { phase = phases.Restoring }) (restored_one s)) (next (questions.Get (s.left - 1)) (answers.Found found) h)
found_one true x s h found e i kept =
    let plan : (c : PlannedChange) × (slice_get x.plan.changes (s.left - 1) ≡ Some c) × IsOurDirectory x (s.left - 1) c found =
    ours x (s.left - 1) found (slice_get x.plan.changes (s.left - 1)) e in (
      record {
        kept = kept;
        cluster = or_nothing (first_cluster h) ∙ i.0.cluster;
        order = rw e i.0.order;
        left = i.0.left;
      },
      record {
        noted = record { known = i.1.known; stored = i.1.stored };
        more = i.2;
        change = plan.0;
        planned = plan.1;
        checked = (refl, (found, refl, plan.2), i.3);
      },
    )
found_one false x s h found e i kept =
    passes x s h (next (questions.Get (s.left - 1)) (answers.Found found) h) i.0 i.1 i.2 kept (or_nothing (first_cluster h))
    (ap (λ (b : Bool). with_place (cond b kinds.Nothing (kinds.LeftAlone (s.left - 1))) (put_right x h)) e) refl

gets : (x : Task) (s : RestorerState) (h : List Exchange) (a : HostAnswer) → InBackPhase phases.Getting x s h →
    trouble any_directory s.cluster x.pace.longest_wait (questions.Get (s.left - 1)) a ≡ None →
    KeptBack x (next (questions.Get (s.left - 1)) a h) →
    IsBack x (restorer_advanced phases.Getting x s a) (next (questions.Get (s.left - 1)) a h)
gets x s h a i none kept = elim (get_answer (any_directory (s.left - 1)) a none) [
  | inl gone ↦
      let P : HostAnswer → Type 0 = λ b. KeptBack x (next (questions.Get (s.left - 1)) b h) → IsBack x (restorer_advanced phases.Getting x s b)
      (next (questions.Get (s.left - 1)) b h) in
      subst P (sym gone)
      (λ k. passes x s h (next (questions.Get (s.left - 1)) answers.Gone h) i.0 i.1 i.2 k (or_nothing (first_cluster h)) refl refl) kept
  | inr found ↦
      let P : HostAnswer → Type 0 = λ b. KeptBack x (next (questions.Get (s.left - 1)) b h) → IsBack x (restorer_advanced phases.Getting x s b)
      (next (questions.Get (s.left - 1)) b h) in
      subst P (sym found.1) (λ k. found_one (restorable_at x (s.left - 1) found.0) x s h found.0 refl i k) kept
]

sets : (x : Task) (s : RestorerState) (h : List Exchange) (a : HostAnswer) → InBackPhase phases.Restoring x s h →
    trouble any_directory s.cluster x.pace.longest_wait (restorer_question_in phases.Restoring x s) a ≡ None →
    KeptBack x (next (restorer_question_in phases.Restoring x s) a h) →
    IsBack x (restorer_advanced phases.Restoring x s a) (next (restorer_question_in phases.Restoring x s) a h)
sets x s h a i none kept = elim (set_answer a none) [
  | inl done ↦
      passes x s h (next (restorer_question_in phases.Restoring x s) a h) i.0 i.1.noted i.1.more kept (or_nothing (first_cluster h))
      (ap (λ (b : HostAnswer). put_right_more x (restorer_question_in phases.Restoring x s) b (put_right x h)) done) refl
  | inr gone ↦
      passes x s h (next (restorer_question_in phases.Restoring x s) a h) i.0 i.1.noted i.1.more kept (or_nothing (first_cluster h))
      (ap (λ (b : HostAnswer). put_right_more x (restorer_question_in phases.Restoring x s) b (put_right x h)) gone) refl
]

closes : (x : Task) (s : RestorerState) (h : List Exchange) (a : HostAnswer) → InBackPhase phases.Closing x s h →
    trouble any_directory s.cluster x.pace.longest_wait (questions.Store no_mark) a ≡ None →
    KeptBack x (next (questions.Store no_mark) a h) →
    IsBack x (restorer_advanced phases.Closing x s a) (next (questions.Store no_mark) a h)
closes x s h a i none kept = (
  told_back x (next (questions.Store no_mark) a h) kept,
  (
    refl,
    stored_answer a none,
    subst (λ (n : ℕ). Ascends n x.first.begun (put_right x h)) i.2 i.0.order,
  ),
)

-- a restorer after an answer that is no trouble
goes_on : (p : RestorerPhase) (x : Task) (s : RestorerState) (h : List Exchange) (a : HostAnswer) → s.phase ≡ p → InBackPhase p x s h →
    trouble any_directory s.cluster x.pace.longest_wait (restorer_question_in p x s) a ≡ None →
    IsBack x (restorer_advanced p x s a) (with_exchange (restorer_ended p) (record { asked = restorer_question_in p x s; answer = a }) h)
goes_on phases.Resting x s h a e i none = rests x s h a i (kept_back phases.Resting x s h a refl i none)
goes_on phases.Opening x s h a e i none = opens x s h a i none (kept_back phases.Opening x s h a refl i none)
goes_on phases.Noting x s h a e i none = notes x s h a i none (kept_back phases.Noting x s h a refl i none)
goes_on phases.Checking x s h a e i none = checks x s h a i (kept_back phases.Checking x s h a refl i none)
goes_on phases.Getting x s h a e i none = gets x s h a i none (kept_back phases.Getting x s h a refl i none)
goes_on phases.Restoring x s h a e i none = sets x s h a i none (kept_back phases.Restoring x s h a refl i none)
goes_on phases.Closing x s h a e i none = closes x s h a i none (kept_back phases.Closing x s h a refl i none)
goes_on (phases.Ended ending) x s h a e i none = subst (λ (p : RestorerPhase). InBackPhase p x s h) (sym e) i

stops_on : (p : RestorerPhase) (x : Task) (s : RestorerState) (h : List Exchange) (a : HostAnswer) (t : Trouble) → restorer_ended p ≡ false →
    InBackPhase p x s h → trouble any_directory s.cluster x.pace.longest_wait (restorer_question_in p x s) a ≡ Some t →
    IsBack x (record s { phase = phases.Ended (Stopped t) }) (next (restorer_question_in p x s) a h)
stops_on p x s h a t e i some =
    let asked : LiveBack x s h × IsRightBackQuestion x (restorer_question_in p x s) h = asks_back p x s h e i in
    (tells_back x (restorer_question_in p x s) a h asked.0.kept asked.1, same_back p x s h a asked.0 ∙ some)

stops : (p : RestorerPhase) (x : Task) (s : RestorerState) (h : List Exchange) (a : HostAnswer) (t : Trouble) → InBackPhase p x s h →
    trouble any_directory s.cluster x.pace.longest_wait (restorer_question_in p x s) a ≡ Some t →
    IsBack x (record s { phase = phases.Ended (Stopped t) })
    (with_exchange (restorer_ended p) (record { asked = restorer_question_in p x s; answer = a }) h)
stops phases.Resting x s h a t i some = stops_on phases.Resting x s h a t refl i some
stops phases.Opening x s h a t i some = stops_on phases.Opening x s h a t refl i some
stops phases.Noting x s h a t i some = stops_on phases.Noting x s h a t refl i some
stops phases.Checking x s h a t i some = stops_on phases.Checking x s h a t refl i some
stops phases.Getting x s h a t i some = stops_on phases.Getting x s h a t refl i some
stops phases.Restoring x s h a t i some = stops_on phases.Restoring x s h a t refl i some
stops phases.Closing x s h a t i some = stops_on phases.Closing x s h a t refl i some
stops (phases.Ended ending) x s h a t i some = absurd cc

-- a restorer after an answer
one_step : (x : Task) (s : RestorerState) (h : List Exchange) (a : HostAnswer) (v : Option Trouble) → restorer_trouble x s a ≡ v → IsBack x s h →
    IsBack x (restorer_verdict v x s a) (with_exchange (restorer_ended s.phase) (record { asked = restorer_question x s; answer = a }) h)
one_step x s h a None e i = goes_on s.phase x s h a refl i e
one_step x s h a (Some t) e i = stops s.phase x s h a t i e

runs : (x : Task) (s : RestorerState) (h : List Exchange) (more : List HostAnswer) → IsBack x s h →
    IsBack x (restorer_run x s h more).0 (restorer_run x s h more).1
runs x s h [] i = i
runs x s h (a ∷ more) i =
    runs x (restorer_after x s a) (with_exchange (restorer_ended s.phase) (record { asked = restorer_question x s; answer = a }) h) more
    (one_step x s h a (restorer_trouble x s a) refl i)

-- an end stays
stays_in : (p : RestorerPhase) (x : Task) (s : RestorerState) (a : HostAnswer) → restorer_ended p ≡ true →
    (trouble any_directory s.cluster x.pace.longest_wait (restorer_question_in p x s) a ≡ None) × (restorer_advanced p x s a ≡ s)
stays_in phases.Resting x s a e = absurd cc
stays_in phases.Opening x s a e = absurd cc
stays_in phases.Noting x s a e = absurd cc
stays_in phases.Checking x s a e = absurd cc
stays_in phases.Getting x s a e = absurd cc
stays_in phases.Restoring x s a e = absurd cc
stays_in phases.Closing x s a e = absurd cc
stays_in (phases.Ended ending) x s a e = (refl, refl)

pub restorer_stays : (x : Task) (s : RestorerState) (a : HostAnswer) → restorer_ended s.phase ≡ true → restorer_after x s a ≡ s
restorer_stays x s a e =
    let none : restorer_trouble x s a ≡ None = (stays_in s.phase x s a e).0 in
    ap (λ (v : Option Trouble). restorer_verdict v x s a) none ∙ (stays_in s.phase x s a e).1

-- what was asked first
first_one : (p : RestorerPhase) (x : Task) (s : RestorerState) (h : List Exchange) (a : HostAnswer) → s.phase ≡ p →
    first_asked (restorer_question x (restorer_after x s a)) (with_exchange (restorer_ended p) (record { asked = restorer_question x s; answer = a }) h)
    ≡ first_asked (restorer_question x s) h
first_one phases.Resting x s h a e = refl
first_one phases.Opening x s h a e = refl
first_one phases.Noting x s h a e = refl
first_one phases.Checking x s h a e = refl
first_one phases.Getting x s h a e = refl
first_one phases.Restoring x s h a e = refl
first_one phases.Closing x s h a e = refl
first_one (phases.Ended ending) x s h a e =
    ap (λ (t : RestorerState). first_asked (restorer_question x t) h) (restorer_stays x s a (ap restorer_ended e))

first_run : (x : Task) (s : RestorerState) (h : List Exchange) (more : List HostAnswer) →
    first_asked (restorer_question x (restorer_run x s h more).0) (restorer_run x s h more).1 ≡ first_asked (restorer_question x s) h
first_run x s h [] = refl
first_run x s h (a ∷ more) =
    first_run x (restorer_after x s a) (with_exchange (restorer_ended s.phase) (record { asked = restorer_question x s; answer = a }) h) more
    ∙ first_one s.phase x s h a refl

pub record Returns (x : Task) (h : List Exchange) (q : Question) : Type 0 where
  pub right : AreRightBackQuestions x h
  pub next : IsRightBackQuestion x q h
  pub texts : (mark : Mark) → MayBeStored x.first h mark → IsBackText x h mark

-- what is asked
returns_live : (p : RestorerPhase) (x : Task) (s : RestorerState) (h : List Exchange) → restorer_ended p ≡ false → InBackPhase p x s h →
    Returns x h (restorer_question_in p x s)
returns_live p x s h e i =
    let asked : LiveBack x s h × IsRightBackQuestion x (restorer_question_in p x s) h = asks_back p x s h e i in
    record { right = asked.0.kept.right; next = asked.1; texts = (told_back x h asked.0.kept).texts }

returns_in : (p : RestorerPhase) (x : Task) (s : RestorerState) (h : List Exchange) → InBackPhase p x s h → Returns x h (restorer_question_in p x s)
returns_in phases.Resting x s h i = returns_live phases.Resting x s h refl i
returns_in phases.Opening x s h i = returns_live phases.Opening x s h refl i
returns_in phases.Noting x s h i = returns_live phases.Noting x s h refl i
returns_in phases.Checking x s h i = returns_live phases.Checking x s h refl i
returns_in phases.Getting x s h i = returns_live phases.Getting x s h refl i
returns_in phases.Restoring x s h i = returns_live phases.Restoring x s h refl i
returns_in phases.Closing x s h i = returns_live phases.Closing x s h refl i
returns_in (phases.Ended ending) x s h i = record { right = i.0.right; next = i.1; texts = i.0.texts }

starts : (x : Task) → IsBack x (restorer_start x) []
starts x = (
  record {
    kept = record {
      right = tt;
      calm = tt;
      text = record { within = omega arith; doubtful = inl refl; named = λ i lt. inr lt; before_sets = λ i w. absurd w };
    };
    cluster = refl;
    order = refl;
    left = omega arith;
  },
  refl,
)

pub returns : (x : Task) (more : List HostAnswer) →
    IsRestored x (restorer_run x (restorer_start x) [] more).1 (restorer_question x (restorer_run x (restorer_start x) [] more).0)
returns x more =
    let end : RestorerState × List Exchange = restorer_run x (restorer_start x) [] more in
    let all : Returns x end.1 (restorer_question x end.0) =
    returns_in end.0.phase x end.0 end.1 (runs x (restorer_start x) [] more (starts x)) in
    record { right = all.right; next = all.next; texts = all.texts; rests = first_run x (restorer_start x) [] more }
