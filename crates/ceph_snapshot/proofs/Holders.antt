-- From what holds a directory's parent to what holds the directory.
use Rattle.std.proofs.Common.{◌≡◌, ◌≢◌, ◌<◌, ◌+◌, ◌||◌, ◌++◌, ℕ, zero, suc, Bool, true, false, is_some, List}
use Rattle.std.proofs.Common.{[], ◌∷◌, length, slice_get, Option, Some, None, refl, ap, sym, ◌∙◌, arith, subst, ⊎_elim}
use Rattle.std.specs.Option.{option_map_or}
use Rattle.std.proofs.lemmas.Bool.{cases_eq, cases_Bool}
use Rattle.ceph_snapshot.specs.declared.directory.Directory.{Directory}
use Rattle.ceph_snapshot.specs.declared.held.Held.{Held}
use Rattle.ceph_snapshot.specs.declared.held.Held.TheVariants.{Free, Pinned, Spread}
use Rattle.std.proofs.lemmas.List.{get_or_append_left, get_or_push}
use Rattle.ceph_snapshot.specs.Holding.{IsHeld, IsHolder, climb, held_at, held_by, hold_above, hold_below, is_fixed_at, is_holding, now_at, parent_at, pin_at}

apart : {X : Type 0} (b : Bool) → b ≡ true → b ≡ false → X
apart b is_true is_false = cc

-- no directory above the root
climb_root : (ds : List Directory) (steps : ℕ) → parent_at ds 0 ≡ 0 → climb ds steps 0 ≡ 0
climb_root ds zero root = refl
climb_root ds (suc n) root = ap (λ (i : ℕ). climb ds n i) root ∙ climb_root ds n root

pub root_held : (ds : List Directory) → parent_at ds 0 ≡ 0 → IsHeld ds 0 Free
root_held ds root = record {
  by = λ holder is. let there : climb ds is.steps 0 ≡ holder = is.there in
      absurd (omega (arith, there, climb_root ds is.steps root, is.below));
  free = λ none. refl;
}

-- a directory that holds itself has no other holder
self_holder : (ds : List Directory) (i holder steps : ℕ) → is_holding ds i ≡ true → climb ds steps i ≡ holder
    → ((n : ℕ) → n < steps → is_holding ds (climb ds n i) ≡ false) → i ≡ holder
self_holder ds i holder zero own there nearer = there
self_holder ds i holder (suc n) own there nearer = apart (is_holding ds i) own (nearer 0 (omega arith))

pub holder_here : (ds : List Directory) (i : ℕ) → 0 < i → is_holding ds i ≡ true → IsHolder ds i i
holder_here ds i below own = record { steps = 0; there = refl; below = below; holding = own; nearer = λ n l. let none : ⊥ = omega (arith, l) in absurd none }

holder_above : (ds : List Directory) (i holder steps : ℕ) → is_holding ds i ≡ false → climb ds steps i ≡ holder → 0 < holder → is_holding ds holder ≡ true
    → ((n : ℕ) → n < steps → is_holding ds (climb ds n i) ≡ false) → IsHolder ds (parent_at ds i) holder
holder_above ds i holder zero not_own there below holding nearer =
    apart (is_holding ds i) (ap (λ (k : ℕ). is_holding ds k) there ∙ holding) not_own
holder_above ds i holder (suc n) not_own there below holding nearer =
    record { steps = n; there = there; below = below; holding = holding; nearer = λ m l. nearer (suc m) (omega (arith, l)) }

nearer_more : (ds : List Directory) (i : ℕ) → is_holding ds i ≡ false → (steps : ℕ)
    → ((n : ℕ) → n < steps → is_holding ds (climb ds n (parent_at ds i)) ≡ false)
    → (n : ℕ) → n < suc steps → is_holding ds (climb ds n i) ≡ false
nearer_more ds i not_own steps nearer zero l = not_own
nearer_more ds i not_own steps nearer (suc n) l = nearer n (omega (arith, l))

holder_below : (ds : List Directory) (i holder : ℕ) → is_holding ds i ≡ false → IsHolder ds (parent_at ds i) holder → IsHolder ds i holder
holder_below ds i holder not_own is =
    record { steps = suc is.steps; there = is.there; below = is.below; holding = is.holding; nearer = nearer_more ds i not_own is.steps is.nearer }

-- the step where the directory holds itself
own_step : (ds : List Directory) (i : ℕ) (above : Held) → is_holding ds i ≡ true
    → hold_below (pin_at ds i) (is_fixed_at ds i) (now_at ds i) above ≡ held_by ds i i
own_step ds i above own = own_case (pin_at ds i) (is_fixed_at ds i) (now_at ds i) above own where
  own_case : (pin : Option ℕ) (spread : Bool) (now : ℕ) (above : Held) → (is_some pin || spread) ≡ true
      → hold_below pin spread now above ≡ option_map_or (λ (rank : ℕ). Pinned rank) pin (Spread now)
  own_case (Some rank) spread now above own = refl
  own_case None true now above own = refl
  own_case None false now above own = apart false own refl

-- the step where it does not
other_step : (pin : Option ℕ) (spread : Bool) (now : ℕ) (above : Held) → (is_some pin || spread) ≡ false
    → hold_below pin spread now above ≡ hold_above above now
other_step (Some rank) spread now above neither = apart true refl neither
other_step None true now above neither = apart true refl neither
other_step None false now above neither = refl

above_step : (pin : Option ℕ) (parent_now now : ℕ) → hold_above (option_map_or (λ (rank : ℕ). Pinned rank) pin (Spread parent_now)) now
    ≡ option_map_or (λ (rank : ℕ). Pinned rank) pin (Spread now)
above_step (Some rank) parent_now now = refl
above_step None parent_now now = refl

pub held_more : (ds : List Directory) (i : ℕ) (above hold : Held) → 0 < i → IsHeld ds (parent_at ds i) above
    → hold ≡ hold_below (pin_at ds i) (is_fixed_at ds i) (now_at ds i) above → IsHeld ds i hold
held_more ds i above hold below held is =
    ⊎_elim (λ (own : is_holding ds i ≡ true). record {
      by = λ holder there.
          let same : i ≡ holder = self_holder ds i holder there.steps own there.there there.nearer in
          is ∙ (own_step ds i above own ∙ ap (λ (k : ℕ). held_by ds i k) same);
      free = λ none. absurd (none i (holder_here ds i below own));
    })
    (λ (not_own : is_holding ds i ≡ false). record {
      by = λ holder there.
          let up : above ≡ held_by ds (parent_at ds i) holder =
          held.by holder (holder_above ds i holder there.steps not_own there.there there.below there.holding there.nearer) in
          is ∙ (other_step (pin_at ds i) (is_fixed_at ds i) (now_at ds i) above not_own
          ∙ (ap (λ (h : Held). hold_above h (now_at ds i)) up ∙ above_step (pin_at ds holder) (now_at ds (parent_at ds i)) (now_at ds i)));
      free = λ none.
          let up : above ≡ Free = held.free (λ holder there. none holder (holder_below ds i holder not_own there)) in
          is ∙ (other_step (pin_at ds i) (is_fixed_at ds i) (now_at ds i) above not_own ∙ ap (λ (h : Held). hold_above h (now_at ds i)) up);
    })
    (cases_Bool (is_holding ds i))

-- one directory more whose hold was found
pub all_more : (ds : List Directory) (holds : List Held) (hold : Held) (n : ℕ) → length holds ≡ n
    → ((i : ℕ) → i < n → IsHeld ds i (held_at holds i)) → IsHeld ds n hold
    → (i : ℕ) → i < n + 1 → IsHeld ds i (held_at (holds ++ hold ∷ []) i)
all_more ds holds hold n size before here i l =
    ⊎_elim (λ (same : i ≡ n).
    subst (λ (k : ℕ). IsHeld ds k (held_at (holds ++ hold ∷ []) k)) (sym same)
    (subst (λ (h : Held). IsHeld ds n h) (sym (get_or_push holds hold Free n size)) here))
    (λ (other : i ≢ n).
    let inside : i < n = omega (arith, other, l) in
    subst (λ (h : Held). IsHeld ds i h) (sym (get_or_append_left holds (hold ∷ []) Free i (omega (arith, inside, size)))) (before i inside))
    (cases_eq i n)

-- what was read of a directory
pub read_parent : (ds : List Directory) (i : ℕ) (d : Directory) → slice_get ds i ≡ Some d → parent_at ds i ≡ d.parent
read_parent ds i d is = ap (λ (o : Option Directory). option_map_or (λ (one : Directory). one.parent) o 0) is

pub read_step : (ds : List Directory) (i : ℕ) (d : Directory) (above : Held) → slice_get ds i ≡ Some d
    → hold_below d.pin (d.is_spread || d.is_kept) d.now above ≡ hold_below (pin_at ds i) (is_fixed_at ds i) (now_at ds i) above
read_step ds i d above is = sym (ap (λ (o : Option Directory). hold_below
    (option_map_or (λ (one : Directory). one.pin) o None)
    (option_map_or (λ (one : Directory). one.is_spread) o false || option_map_or (λ (one : Directory). one.is_kept) o false)
    (option_map_or (λ (one : Directory). one.now) o 0) above) is)
