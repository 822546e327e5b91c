-- The changes of a phase, by their kinds.
use Rattle.std.proofs.Common.{◌≡◌, ℕ, zero, suc, Bool, true, inl, inr, List, [], ◌∷◌, All, refl, arith}
use Rattle.export_protocol.specs.declared.event.Event.{Event}
use Rattle.std.specs.List.{Contains}
use Rattle.export_protocol.specs.declared.event.Event.TheVariants.{Abort, Ask, Deliver, Froze, Notify, Start, Stop}
use Rattle.mds_board.specs.declared.change.Change.{Change}
use Rattle.mds_board.specs.declared.change.Change.TheVariants.{Step}
use Rattle.mds_board.specs.Steps.{is_inner}
use Rattle.phased_board.specs.Going.{IsOfKind, IsOfPhase, IsOfStops}

-- a fact of each element is one of the first and of each other

pub head_has : {A : Type 0} (P : A → Type 0) (x : A) (xs : List A) → All P (x ∷ xs) → P x
head_has P x xs h = h zero x (omega arith)

pub tail_have : {A : Type 0} (P : A → Type 0) (x : A) (xs : List A) → All P (x ∷ xs) → All P xs
tail_have P x xs h = λ k d l. h (suc k) d (omega arith)

pub one_has : {A : Type 0} (P : A → Type 0) (x : A) → P x → All P (x ∷ [])
one_has P x h zero d l = h
one_has P x h (suc k) d l = absurd (omega arith)

-- what holds of each event by which exports go on holds of each change of exports
pub by_exports : (P : Change → Type 0) (n : ℕ) → ((e : Event) → is_inner e ≡ true → IsOfPhase n (Step e) → P (Step e)) → (c : Change) → IsOfPhase n c → P c
by_exports P n one (Step (Start from to dirs)) is = one (Start from to dirs) refl is
by_exports P n one (Step (Deliver message)) is = one (Deliver message) refl is
by_exports P n one (Step (Froze x)) is = one (Froze x) refl is
by_exports P n one (Step (Notify x)) is = one (Notify x) refl is
by_exports P n one (Step (Ask x)) is = one (Ask x) refl is
by_exports P n one (Step (Abort x)) is = one (Abort x) refl is
by_exports P n one _ is = absurd is

-- what holds of each stop of one of these ranks holds of each change of stops
pub by_stops : (P : Change → Type 0) (stops : List ℕ) → ((rank : ℕ) → Contains stops rank → P (Step (Stop rank))) → (c : Change) → IsOfStops stops c → P c
by_stops P stops one (Step (Stop rank)) is = one rank is
by_stops P stops one _ is = absurd is

pub none_named : (rank : ℕ) → Contains [] rank → ⊥
none_named rank h = omega (arith, h.1)

-- more kinds
pub kind_wider : (r x wide_r wide_x : Bool) (stops wide : List ℕ) (n more : ℕ) (c : Change) → (r ≡ true → wide_r ≡ true) → (x ≡ true → wide_x ≡ true)
    → ((rank : ℕ) → Contains stops rank → Contains wide rank) → (IsOfPhase n c → IsOfPhase more c) → IsOfKind r x stops n c → IsOfKind wide_r wide_x wide more c
kind_wider r x wide_r wide_x stops wide n more c requests exports ranks phase (inl h) = inl (requests h.0, h.1)
kind_wider r x wide_r wide_x stops wide n more c requests exports ranks phase (inr (inl h)) = inr (inl (exports h.0, phase h.1))
kind_wider r x wide_r wide_x stops wide n more c requests exports ranks phase (inr (inr h)) =
    inr (inr (by_stops (λ (d : Change). IsOfStops wide d) stops ranks c h))
