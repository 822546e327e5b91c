-- What one answer makes of a setter and its exchanges.
use Rattle.std.proofs.Common.{◌≡◌, ℕ, suc, ◌+◌, ◌-◌, ◌<◌, ◌≤◌, Bool, true, false, min, max, Option}
use Rattle.std.proofs.Common.{Some, None, List, ◌∷◌, length, refl, sym, ap, ◌∙◌, subst, inl, inr, arith}
use Rattle.std.specs.Prelude.{slice_get}
use Rattle.std.proofs.lemmas.Bool.{cases_lt, le-ltb, lt-ltb, le-leb, lt-leb}
use Rattle.std.proofs.lemmas.Bool.Decides.{eqb_tells}
use Rattle.pin_driver.specs.Driven.{IsRightQuestion, IsRightStore, IsRightEnd, IsMark, IsLookedAt, IsAsPlanned}
use Rattle.pin_driver.specs.Driven.{standing_mark, settled_places, settled_more}
use Rattle.pin_driver.specs.Exchanges.{Exchange, trouble_after, IsClusterLast, Descends, last_stored, stored_mark, first_cluster, waited, looks_in_place}
use Rattle.pin_driver.specs.Exchanges.{is_in_place, looks_after, named_cluster, or_later}
use Rattle.pin_driver.specs.Setting.{question_in, advanced, has_ended}
use Rattle.pin_driver.specs.Setting.{begin_batch, batch_end, closed_mark, given_pin, passed, looked, after_store}
use Rattle.pin_driver.specs.Troubles.{trouble, unlike_plan}
use Rattle.pin_driver.specs.declared.answer.ClusterState.{ClusterState}
use Rattle.pin_driver.specs.declared.answer.HostAnswer.{HostAnswer}
use Rattle.pin_driver.specs.declared.answer.HostAnswer.TheVariants as answers
use Rattle.pin_driver.specs.declared.plan.PlannedChange.{PlannedChange}
use Rattle.pin_driver.specs.declared.question.Mark.{Mark}
use Rattle.pin_driver.specs.declared.question.Question.{Question}
use Rattle.pin_driver.specs.declared.question.Question.TheVariants as questions
use Rattle.pin_driver.specs.declared.setter_state.SetterPhase.{SetterPhase}
use Rattle.pin_driver.specs.declared.setter_state.SetterPhase.TheVariants as phases
use Rattle.pin_driver.specs.declared.setter_state.SetterState.{SetterState}
use Rattle.pin_driver.specs.declared.task.Task.{Task}
use Rattle.pin_driver.specs.declared.task.TheConstants.{LOOKS, REST_SECONDS}
use Rattle.pin_driver.proofs.Answers.{stored_answer, set_answer, cluster_answer, get_answer}
use Rattle.pin_driver.proofs.Places.{descends_above, descends_below}
use Rattle.pin_driver.proofs.Kept.{set_settled, Kept, Told, keeps, told}
use Rattle.pin_driver.proofs.Plain.{or_nothing, planned, stays}

-- a setter that has not ended is where its exchanges leave it
pub record Live (x : Task) (s : SetterState) (h : List Exchange) : Type 0 where
  pub kept : Kept x h
  pub cluster : first_cluster h ≡ s.cluster
  pub left : x.pace.longest_wait - waited h ≡ s.left
  pub looks : looks_in_place h + s.still ≡ LOOKS
  pub order : Descends s.at x.first.certain (settled_places h)
  pub begun : x.first.begun ≤ s.mark.begun
  pub sound : IsMark s.mark (length x.plan.changes)
  pub at : s.at ≤ s.mark.begun
  pub fresh : s.at < s.mark.begun → looks_in_place h ≡ 0

-- the state of the cluster is known, and the mark is stored
pub record Noted (s : SetterState) (h : List Exchange) : Type 0 where
  pub known : (c : ClusterState) × (s.cluster ≡ Some c)
  pub stored : last_stored h ≡ Some s.mark
  pub looking : 1 ≤ s.still

pub record Unnoted (x : Task) (s : SetterState) (h : List Exchange) : Type 0 where
  pub mark : s.mark ≡ x.first
  pub stored : last_stored h ≡ None
  pub looks : looks_in_place h ≡ 0
  pub unknown : s.cluster ≡ None

pub record ToNote (x : Task) (s : SetterState) (h : List Exchange) : Type 0 where
  pub known : (c : ClusterState) × (s.cluster ≡ Some c)
  pub right : IsRightStore x s.mark h

pub record ToGet (s : SetterState) (h : List Exchange) : Type 0 where
  pub noted : Noted s h
  pub more : s.at < s.mark.begun
  pub cluster : IsClusterLast h

pub record ToSet (x : Task) (s : SetterState) (h : List Exchange) : Type 0 where
  pub noted : Noted s h
  pub more : s.at < s.mark.begun
  pub change : PlannedChange
  pub planned : slice_get x.plan.changes s.at ≡ Some change
  pub checked : IsLookedAt x s.at change h

pub record ToLook (s : SetterState) (h : List Exchange) : Type 0 where
  pub noted : Noted s h
  pub all : s.at ≡ s.mark.begun

pub record ToClose (x : Task) (s : SetterState) (h : List Exchange) : Type 0 where
  pub known : (c : ClusterState) × (s.cluster ≡ Some c)
  pub stored : last_stored h ≡ Some s.mark
  pub all : s.at ≡ s.mark.begun
  pub looks : LOOKS ≤ looks_in_place h

abbrev pub InPhase : SetterPhase → Task → SetterState → List Exchange → Type 0
InPhase phases.Resting x s h = Live x s h × Unnoted x s h
InPhase phases.Opening x s h = Live x s h × Unnoted x s h
InPhase phases.Noting x s h = Live x s h × ToNote x s h
InPhase phases.Checking x s h = Live x s h × Noted s h
InPhase phases.Getting x s h = Live x s h × ToGet s h
InPhase phases.Setting x s h = Live x s h × ToSet x s h
InPhase phases.Looking x s h = Live x s h × ToLook s h × IsClusterLast h
InPhase phases.Pausing x s h = Live x s h × ToLook s h
InPhase phases.Closing x s h = Live x s h × ToClose x s h
InPhase (phases.Ended ending) x s h = Told x h × IsRightEnd x ending h

abbrev pub Is : Task → SetterState → List Exchange → Type 0
Is x s h = InPhase s.phase x s h

-- what is asked is right

pub ask_close : (x : Task) (s : SetterState) (h : List Exchange) → Live x s h → ToClose x s h → IsRightStore x (closed_mark s.mark) h
ask_close x s h live to =
    record {
      grows = rw to.stored (omega arith);
      batch = rw to.stored (omega arith);
      sound = record { begun = live.sound.begun; certain = omega arith };
      certain = inr (record { order = subst (λ (n : ℕ). Descends n x.first.certain (settled_places h)) to.all live.order; looks = to.looks });
      calm = live.kept.calm;
    }

pub asks : (p : SetterPhase) (x : Task) (s : SetterState) (h : List Exchange) → has_ended p ≡ false → InPhase p x s h →
    Live x s h × IsRightQuestion x (question_in p x s) h
asks phases.Resting x s h e i = (i.0, tt)
asks phases.Opening x s h e i = (i.0, tt)
asks phases.Noting x s h e i = (i.0, i.1.right)
asks phases.Checking x s h e i = (i.0, tt)
asks phases.Getting x s h e i = (i.0, tt)
asks phases.Setting x s h e i = (
  i.0,
  (
    i.1.change,
    record {
      planned = i.1.planned;
      pin_of_plan = ap given_pin i.1.planned;
      order = i.0.order;
      uncertain = descends_above s.at x.first.certain (settled_places h) i.0.order;
      rises = λ j w. descends_below s.at x.first.certain (settled_places h) i.0.order j (set_settled x h i.0.kept.calm j w);
      stored = (s.mark, i.1.noted.stored, i.1.more);
      checked = i.1.checked;
      calm = i.0.kept.calm;
    },
  ),
)
asks phases.Looking x s h e i = (i.0, i.2)
asks phases.Pausing x s h e i = (i.0, tt)
asks phases.Closing x s h e i = (i.0, ask_close x s h i.0 i.1)
asks (phases.Ended ending) x s h e i = absurd cc

-- a trouble by the state is one by the exchanges
pub same_trouble : (x : Task) (s : SetterState) (h : List Exchange) (q : Question) (a : HostAnswer) → Live x s h →
    trouble_after (unlike_plan x) x h (record { asked = q; answer = a }) ≡ trouble (unlike_plan x) s.cluster s.left q a
same_trouble x s h q a live =
    ap (λ (c : Option ClusterState). trouble (unlike_plan x) c (x.pace.longest_wait - waited h) q a) live.cluster
    ∙ ap (λ (n : ℕ). trouble (unlike_plan x) s.cluster n q a) live.left

-- the next exchange, without trouble
abbrev pub next : Question → HostAnswer → List Exchange → List Exchange
next q a h = record { asked = q; answer = a } ∷ h

pub kept_on : (p : SetterPhase) (x : Task) (s : SetterState) (h : List Exchange) (a : HostAnswer) → has_ended p ≡ false → InPhase p x s h →
    trouble (unlike_plan x) s.cluster s.left (question_in p x s) a ≡ None → Kept x (next (question_in p x s) a h)
kept_on p x s h a e i none =
    let asked : Live x s h × IsRightQuestion x (question_in p x s) h = asks p x s h e i in
    keeps x (question_in p x s) a h asked.0.kept (same_trouble x s h (question_in p x s) a asked.0 ∙ none) asked.1

pub rests : (x : Task) (s : SetterState) (h : List Exchange) (a : HostAnswer) → InPhase phases.Resting x s h →
    Kept x (next (questions.Wait REST_SECONDS) a h) → Is x (advanced phases.Resting x s a) (next (questions.Wait REST_SECONDS) a h)
rests x s h a i kept =
    let live : Live x s h = i.0 in (
      record {
        kept = kept;
        cluster = grind (arith, live.cluster);
        left = omega (arith, live.left);
        looks = live.looks;
        order = live.order;
        begun = live.begun;
        sound = live.sound;
        at = live.at;
        fresh = live.fresh;
      },
      record { mark = i.1.mark; stored = i.1.stored; looks = i.1.looks; unknown = i.1.unknown },
    )

pub begins : (x : Task) (s : SetterState) (h : List Exchange) → Live x s h → (c : ClusterState) × (s.cluster ≡ Some c) →
    standing_mark x.first (last_stored h) ≡ s.mark → looks_in_place h ≡ 0 → Is x (begin_batch x s) h
begins x s h live known standing fresh = (
  record {
    kept = live.kept;
    cluster = live.cluster;
    left = live.left;
    looks = live.looks;
    order = live.order;
    begun = omega (arith, live.begun);
    sound = sound;
    at = omega (arith, live.at);
    fresh = λ _. fresh;
  },
  record {
    known = known;
    right = record {
      grows = rw standing (omega arith);
      batch = rw standing (omega arith);
      sound = sound;
      certain = inl (ap (λ (m : Mark). m.certain) (sym standing));
      calm = live.kept.calm;
    };
  },
)
  where
    sound : IsMark (record { begun = max s.mark.begun (batch_end x s.mark.certain); certain = s.mark.certain }) (length x.plan.changes)
    sound = record { begun = omega (arith, live.sound.begun); certain = omega (arith, live.sound.certain) }

pub opens : (x : Task) (s : SetterState) (h : List Exchange) (a : HostAnswer) → InPhase phases.Opening x s h →
    trouble (unlike_plan x) s.cluster s.left questions.Cluster a ≡ None →
    Kept x (next questions.Cluster a h) → Is x (advanced phases.Opening x s a) (next questions.Cluster a h)
opens x s h a i none kept =
    let live : Live x s h = i.0 in
    let found : (c : ClusterState) × (a ≡ answers.Cluster c) = cluster_answer s.cluster a none in
    let nothing : first_cluster h ≡ None = live.cluster ∙ i.1.unknown in
    begins x (record s { cluster = named_cluster a }) (next questions.Cluster a h)
    (record {
      kept = kept;
      cluster = ap (λ (c : Option ClusterState). or_later c (named_cluster a)) nothing;
      left = live.left;
      looks = live.looks;
      order = live.order;
      begun = live.begun;
      sound = live.sound;
      at = live.at;
      fresh = live.fresh;
    })
    (found.0, ap named_cluster found.1) (ap (standing_mark x.first) i.1.stored ∙ sym i.1.mark) i.1.looks

-- after a text is stored
pub stores : (x : Task) (s : SetterState) (h : List Exchange) (mark : Mark) (a : HostAnswer) → Live x s h →
    (c : ClusterState) × (s.cluster ≡ Some c) → s.mark.begun ≡ mark.begun → IsMark mark (length x.plan.changes) → Kept x (next (questions.Store mark) a h) →
    Live x (after_store x mark s) (next (questions.Store mark) a h)
stores x s h mark a live known same sound kept =
    record {
      kept = kept;
      cluster = stays None (first_cluster h) s.cluster live.cluster known;
      left = grind arith;
      looks = refl;
      order = live.order;
      begun = omega (arith, live.begun, same);
      sound = sound;
      at = omega (arith, live.at, same);
      fresh = λ _. refl;
    }

pub notes : (x : Task) (s : SetterState) (h : List Exchange) (a : HostAnswer) → InPhase phases.Noting x s h →
    trouble (unlike_plan x) s.cluster s.left (questions.Store s.mark) a ≡ None →
    Kept x (next (questions.Store s.mark) a h) → Is x (advanced phases.Noting x s a) (next (questions.Store s.mark) a h)
notes x s h a i none kept = (
  stores x s h s.mark a i.0 i.1.known refl i.0.sound kept,
  record {
    known = i.1.known;
    stored = ap (λ (b : HostAnswer). stored_mark (questions.Store s.mark) b (last_stored h)) (stored_answer a none);
    looking = omega arith;
  },
)

pub checks : (x : Task) (s : SetterState) (h : List Exchange) (a : HostAnswer) → InPhase phases.Checking x s h →
    Kept x (next questions.Cluster a h) → Is x (advanced phases.Checking x s a) (next questions.Cluster a h)
checks x s h a i kept = elim (cases_lt s.at s.mark.begun) [
  | inl lt ↦ rw (lt-ltb s.at s.mark.begun lt) (
    same phases.Getting,
    record {
      noted = record
          { known = i.1.known; stored = i.1.stored; looking = i.1.looking };
      more = lt;
      cluster = refl;
    },
  )
  | inr le ↦ rw (le-ltb s.at s.mark.begun le) (
    same phases.Looking,
    record {
      noted = record
          { known = i.1.known; stored = i.1.stored; looking = i.1.looking };
      all = omega (arith, i.0.at);
    },
    refl,
  )
]
  where
    same : (p : SetterPhase) → Live x (record s { phase = p }) (next questions.Cluster a h)
    same p = record {
      kept = kept;
      cluster = stays (named_cluster a) (first_cluster h) s.cluster i.0.cluster i.1.known;
      left = i.0.left;
      looks = i.0.looks;
      order = i.0.order;
      begun = i.0.begun;
      sound = i.0.sound;
      at = i.0.at;
      fresh = i.0.fresh;
    }

-- the change is settled
pub passes : (x : Task) (s : SetterState) (h k : List Exchange) → Live x s h → Noted s h → s.at < s.mark.begun → Kept x k →
    first_cluster k ≡ first_cluster h → waited k ≡ waited h → looks_in_place k ≡ 0 → settled_places k ≡ s.at ∷ settled_places h →
    last_stored k ≡ last_stored h → Is x (passed s) k
passes x s h k live noted more kept cluster waits looks places stored =
    let at : min s.mark.begun (s.at + 1) ≡ suc s.at = omega (arith, more) in (
      record {
        kept = kept;
        cluster = cluster ∙ live.cluster;
        left = ap (λ (n : ℕ). x.pace.longest_wait - n) waits ∙ live.left;
        looks = omega (arith, live.looks, live.fresh more, looks);
        order = rw (at, places) (refl, live.order);
        begun = live.begun;
        sound = live.sound;
        at = omega arith;
        fresh = λ _. looks;
      },
      record { known = noted.known; stored = stored ∙ noted.stored; looking = noted.looking },
    )

pub gets : (x : Task) (s : SetterState) (h : List Exchange) (a : HostAnswer) → InPhase phases.Getting x s h →
    trouble (unlike_plan x) s.cluster s.left (questions.Get s.at) a ≡ None →
    Kept x (next (questions.Get s.at) a h) → Is x (advanced phases.Getting x s a) (next (questions.Get s.at) a h)
gets x s h a i none kept = elim (get_answer (unlike_plan x s.at) a none) [
  | inl gone ↦
      let P : HostAnswer → Type 0 = λ b. Kept x (next (questions.Get s.at) b h) → Is x (advanced phases.Getting x s b) (next (questions.Get s.at) b h) in
      subst P (sym gone) (λ k. passes x s h (next (questions.Get s.at) answers.Gone h) i.0 i.1.noted i.1.more k (or_nothing (first_cluster h)) refl
      (i.0.fresh i.1.more) refl refl) kept
  | inr found ↦
      let P : HostAnswer → Type 0 = λ b. Kept x (next (questions.Get s.at) b h) → Is x (advanced phases.Getting x s b) (next (questions.Get s.at) b h) in
      let plan : (c : PlannedChange) × (slice_get x.plan.changes s.at ≡ Some c) × IsAsPlanned x s.at c found.0 =
      planned x s.at found.0 (slice_get x.plan.changes s.at) found.2 in
      subst P (sym found.1)
      (λ k. (
        record {
          kept = k;
          cluster = or_nothing (first_cluster h) ∙ i.0.cluster;
          left = i.0.left;
          looks = i.0.looks;
          order = i.0.order;
          begun = i.0.begun;
          sound = i.0.sound;
          at = i.0.at;
          fresh = i.0.fresh;
        },
        record {
          noted = record { known = i.1.noted.known; stored = i.1.noted.stored; looking = i.1.noted.looking };
          more = i.1.more;
          change = plan.0;
          planned = plan.1;
          checked = (refl, (found.0, refl, plan.2), i.1.cluster);
        },
      ))
      kept
]

pub sets : (x : Task) (s : SetterState) (h : List Exchange) (a : HostAnswer) → InPhase phases.Setting x s h →
    trouble (unlike_plan x) s.cluster s.left (question_in phases.Setting x s) a ≡ None →
    Kept x (next (question_in phases.Setting x s) a h) → Is x (advanced phases.Setting x s a) (next (question_in phases.Setting x s) a h)
sets x s h a i none kept =
    elim (set_answer a none) [
      | inl done ↦
          passes x s h (next (question_in phases.Setting x s) a h) i.0 i.1.noted i.1.more kept (or_nothing (first_cluster h)) refl refl
          (ap (λ (b : HostAnswer). settled_more (question_in phases.Setting x s) b (settled_places h)) done) refl
      | inr gone ↦
          passes x s h (next (question_in phases.Setting x s) a h) i.0 i.1.noted i.1.more kept (or_nothing (first_cluster h)) refl refl
          (ap (λ (b : HostAnswer). settled_more (question_in phases.Setting x s) b (settled_places h)) gone) refl
    ]

-- a look
look_on : (b : Bool) (x : Task) (s : SetterState) (h k : List Exchange) → Live x s h → ToLook s h → Kept x k →
    first_cluster k ≡ first_cluster h → waited k ≡ waited h → looks_in_place k ≡ looks_after b (looks_in_place h) →
    settled_places k ≡ settled_places h → last_stored k ≡ last_stored h → Is x (looked b s) k
look_on true x s h k live to kept cluster waits looks places stored = elim (cases_lt 1 s.still) [
  | inl more ↦
      rw (lt-leb s.still 1 more) (
        on phases.Pausing,
        record {
          noted = record { known = to.noted.known; stored = stored ∙ to.noted.stored; looking = omega arith };
          all = to.all;
        },
      )
  | inr last ↦
      rw (le-leb s.still 1 last) (
        on phases.Closing,
        record {
          known = to.noted.known;
          stored = stored ∙ to.noted.stored;
          all = to.all;
          looks = omega (arith, looks, live.looks);
        },
      )
]
  where
    on : (p : SetterPhase) → Live x (record s { still = s.still - 1; phase = p }) k
    on p = record {
      kept = kept;
      cluster = cluster ∙ live.cluster;
      left = ap (λ (n : ℕ). x.pace.longest_wait - n) waits ∙ live.left;
      looks = omega (arith, looks, live.looks, to.noted.looking);
      order = rw places live.order;
      begun = live.begun;
      sound = live.sound;
      at = live.at;
      fresh = λ lt. absurd (omega (arith, lt, to.all));
    }
look_on false x s h k live to kept cluster waits looks places stored = (
  record {
    kept = kept;
    cluster = cluster ∙ live.cluster;
    left = ap (λ (n : ℕ). x.pace.longest_wait - n) waits ∙ live.left;
    looks = omega (arith, looks);
    order = rw places live.order;
    begun = live.begun;
    sound = live.sound;
    at = live.at;
    fresh = λ _. looks;
  },
  record {
    noted = record { known = to.noted.known; stored = stored ∙ to.noted.stored; looking = omega arith };
    all = to.all;
  },
)

pub looks : (x : Task) (s : SetterState) (h : List Exchange) (a : HostAnswer) → InPhase phases.Looking x s h →
    Kept x (next questions.Roots a h) → Is x (advanced phases.Looking x s a) (next questions.Roots a h)
looks x s h a i kept = look_on (is_in_place a) x s h (next questions.Roots a h) i.0 i.1 kept (or_nothing (first_cluster h)) refl refl refl refl

pub pauses : (x : Task) (s : SetterState) (h : List Exchange) (a : HostAnswer) → InPhase phases.Pausing x s h →
    Kept x (next (questions.Wait x.pace.poll_seconds) a h) → Is x (advanced phases.Pausing x s a) (next (questions.Wait x.pace.poll_seconds) a h)
pauses x s h a i kept = (
  record {
    kept = kept;
    cluster = stays None (first_cluster h) s.cluster i.0.cluster i.1.noted.known;
    left = omega (arith, i.0.left);
    looks = i.0.looks;
    order = i.0.order;
    begun = i.0.begun;
    sound = i.0.sound;
    at = i.0.at;
    fresh = i.0.fresh;
  },
  record { known = i.1.noted.known; stored = i.1.noted.stored; looking = i.1.noted.looking },
)

pub closes : (x : Task) (s : SetterState) (h : List Exchange) (a : HostAnswer) → InPhase phases.Closing x s h →
    trouble (unlike_plan x) s.cluster s.left (questions.Store (closed_mark s.mark)) a ≡ None →
    Kept x (next (questions.Store (closed_mark s.mark)) a h) →
    Is x (advanced phases.Closing x s a) (next (questions.Store (closed_mark s.mark)) a h)
closes x s h a i none kept = elim (eqb_tells s.mark.begun (length x.plan.changes)) [
  | inl all ↦
      rw all.0 (
        told x (next (questions.Store (closed_mark s.mark)) a h) kept,
        (
          ap (λ (n : ℕ). questions.Store (record { begun = n; certain = n })) all.1,
          stored_answer a none,
          record {
            order = subst (λ (n : ℕ). Descends n x.first.certain (settled_places h)) (i.1.all ∙ all.1) i.0.order;
            looks = i.1.looks;
          },
        ),
      )
  | inr more ↦
      rw more.0
      (begins x (after_store x (closed_mark s.mark) s) (next (questions.Store (closed_mark s.mark)) a h)
      (stores x s h (closed_mark s.mark) a i.0 i.1.known refl (record { begun = i.0.sound.begun; certain = omega arith }) kept) i.1.known
      (ap
      (λ (b : HostAnswer). standing_mark x.first (stored_mark (questions.Store (closed_mark s.mark)) b (last_stored h)))
      (stored_answer a none))
      refl)
]
