-- One event after the other, and what holds then.
use Rattle.std.proofs.Common.{◌≡◌, ◌≢◌, ◌↔◌, ℕ, suc, true, false, None, Some, List, [], ◌∷◌, ◌++◌, Ok, Err, Result, refl, sym, ap, ◌∙◌, subst, inl, inr, arith}
use Rattle.export_protocol.specs.declared.event.Reply.{Reply}
use Rattle.export_protocol.specs.declared.step_error.StepError.{StepError}
use Rattle.export_protocol.specs.declared.step_error.StepError.TheVariants.{Memory}
use Rattle.export_protocol.specs.Cluster.{World}
use Rattle.std.proofs.lemmas.Bool.{cases_Bool}
use Rattle.export_protocol.specs.Authority.{is_authority, authority, is_present, is_stopped, named_of}
use Rattle.export_protocol.specs.Step.{step, run, answers}
use Rattle.export_protocol.specs.declared.event.Event.{Event}
use Rattle.export_protocol.specs.View.{IsReached, IsAnswer, AreAnswers, NoneIsMemory}
use Rattle.export_protocol.specs.Promises.{Promised, KeepsAuthority, IsTheAuthority, NoneForGone, NoneAtStopped}
use Rattle.export_protocol.proofs.Lookups.{holds_authority, authority_is}
use Rattle.export_protocol.proofs.Authorities.{tests_authority, authority_found, no_authority}
use Rattle.export_protocol.proofs.Theorem.{safe_kept, safe_gone}
use Rattle.export_protocol.proofs.Walks.{authority_near, authority_there}
use Rattle.export_protocol.proofs.Tidy.{by_tidy}
use Rattle.export_protocol.proofs.Reached.{by_safe, the_one, reached_authority, reached_served, reached_requests, reached_named}
use Rattle.export_protocol.proofs.Found.{tests_by, options_by}

pub reached_kept : (w : World) → IsReached w → (e : Event) → KeepsAuthority w e
reached_kept w h e t q k r = (
  (λ a. holds_authority (step w e).1 r q.dir
      (tests_by w h (is_authority (step w e).1 r q.dir) true
      (λ safe. tests_authority (step w e).1 r q.dir ((safe_kept w safe e t q k r).0 a)))),
  (λ a. holds_authority w r q.dir (tests_by w h (is_authority w r q.dir) true (λ safe. tests_authority w r q.dir ((safe_kept w safe e t q k r).1 a)))),
)

pub reached_gone : (w : World) → IsReached w → NoneForGone w
reached_gone w h d p = (
  options_by w h (named_of w d) None (λ safe. (safe_gone w safe d p).0),
  λ r a. by_safe w h (λ safe. (safe_gone w safe d p).1 r a),
)

pub reached_ended : (w : World) → IsReached w → NoneAtStopped w
reached_ended w h t q e = elim (cases_Bool (is_stopped w q.rank)) [ inl s ↦ absurd (by_tidy w h (λ tidy. cc (tidy.awake t q e, s))) | inr n ↦ n ]

pub reached_promised : (w : World) → IsReached w → Promised w
reached_promised w r = record {
  authority = reached_authority w r;
  served = reached_served w r;
  requests = reached_requests w r;
  kept = reached_kept w r;
  named = reached_named w r;
  gone = reached_gone w r;
  ended = reached_ended w r;
}

-- the read of the authority finds the one that there is

pub reached_found : (w : World) → IsReached w → (r d : ℕ) → (authority w d ≡ Some r) ↔ IsTheAuthority w r d
reached_found w h r d = (
  λ a. (the_one w h r d (authority_is w d r a).1),
  λ a. options_by w h (authority w d) (Some r) (λ safe. authority_found w safe r d a.0 (authority_near w safe r d a.0)),
)

pub reached_absent : (w : World) → IsReached w → (d : ℕ) → (authority w d ≡ None) ↔ (is_present w d ≡ false)
reached_absent w h d = (
  λ n. elim (cases_Bool (is_present w d)) [ inl p ↦ absurd (by_safe w h (λ safe. cc (n, (authority_there w safe d p).1))) | inr p ↦ p ],
  λ p. options_by w h (authority w d) None (λ safe. no_authority w safe d (safe_gone w safe d p).1),
)

pub answers_next : (w u v : World) (es : List Event) (rs : List (Result Reply StepError)) (e : Event) (r : Result Reply StepError) →
    AreAnswers w es rs u → IsAnswer u e r v → AreAnswers w (es ++ e ∷ []) (rs ++ r ∷ []) v
answers_next w u v [] [] e r a b = (v, subst (λ x. IsAnswer x e r v) a b, refl)
answers_next w u v [] (s ∷ rs) e r a b = absurd a
answers_next w u v (f ∷ es) [] e r a b = absurd a
answers_next w u v (f ∷ es) (s ∷ rs) e r a b = (a.0, a.1, answers_next a.0 u v es rs e r a.2 b)

-- with memory for each event the answers are the definition's
pub answers_are : (w v : World) (es : List Event) (rs : List (Result Reply StepError)) → AreAnswers w es rs v → NoneIsMemory rs
    → (rs ≡ answers w es) × (v ≡ run w es)
answers_are w v [] [] a n = (refl, a)
answers_are w v [] (r ∷ rs) a n = absurd a
answers_are w v (e ∷ es) [] a n = absurd a
answers_are w v (e ∷ es) (r ∷ rs) a n =
    let s : step w e ≡ (r, a.0) = stepped r (n 0 r (omega arith)) a.1 in
    let rest : (rs ≡ answers a.0 es) × (v ≡ run a.0 es) = answers_are a.0 v es rs a.2 (λ k d h. n (suc k) d (omega arith)) in
    rw s (ap (λ qs. r ∷ qs) rest.0, rest.1)
  where
    stepped : (q : Result Reply StepError) → q ≢ Err Memory → IsAnswer w e q a.0 → step w e ≡ (q, a.0)
    stepped (Ok reply) m b = b
    stepped (Err error) m b = elim b.0 [ inl s ↦ s ∙ ap (λ (u : World). (Err error, u)) (sym b.1) | inr f ↦ absurd (m (ap Err f.0)) ]
