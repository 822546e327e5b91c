-- From the children of a directory to the directory: which are above a random policy.
use Rattle.std.proofs.Common.{◌≡◌, ◌≢◌, ◌<◌, ◌≤◌, ◌+◌, ◌⊎◌, ◌↔◌, ◌&&◌, ◌||◌, ◌==◌, ℕ, zero, suc, Bool, true, false, List}
use Rattle.std.proofs.Common.{length, get_or, slice_get, Option, Some, None, is_some, refl, ap, sym, ◌∙◌, arith, subst, ⊎_elim, inl, inr, nat_eq}
use Rattle.std.specs.Option.{option_map, option_map_or}
use Rattle.std.proofs.lemmas.Bool.{cases_eq, cases_lt, eqb-true, eq-eqb}
use Rattle.std.proofs.lemmas.Bool.{and_parts}
use Rattle.std.proofs.lemmas.Option.{slice_get_cases, slice_get_past}
use Rattle.ceph_dumps.specs.declared.listing.EphemeralPin.{EphemeralPin}
use Rattle.ceph_dumps.specs.declared.listing.EphemeralPin.TheVariants.{Random}
use Rattle.ceph_snapshot.specs.declared.directory.Directory.{Directory}
use Rattle.ceph_snapshot.specs.Holding.{AreParentsFirst, is_kept_at, is_marked, parent_at, pin_at}
use Rattle.ceph_snapshot.specs.Policies.{KeepUnpinnable, HasBeaten, LeadsToRandom, IsAboveRandom, idle_at, is_doubtful_at, kept_where, policy_at}

slice_get_some : (ds : List Directory) (i : ℕ) → i < length ds → (d : Directory) × (slice_get ds i ≡ Some d)
slice_get_some ds i inside =
    ⊎_elim (λ (found : (d : Directory) × (i < length ds) × (slice_get ds i ≡ Some d) × (get_or ds i d ≡ d)). (found.0, found.2))
    (λ (past : (length ds ≤ i) × (slice_get ds i ≡ None)). absurd (omega (arith, inside, past.0)))
    (slice_get_cases ds i).1

-- past the last directory there is none
past_parent : (ds : List Directory) (i : ℕ) → length ds ≤ i → parent_at ds i ≡ 0
past_parent ds i past = ap (λ (o : Option Directory). option_map_or (λ (one : Directory). one.parent) o 0) (slice_get_past ds i past)

-- a child comes after its parent
child_inside : (ds : List Directory) (child at : ℕ) → 0 < at → parent_at ds child ≡ at → child < length ds
child_inside ds child at below parent =
    ⊎_elim (λ (inside : child < length ds). inside)
    (λ (past : length ds ≤ child). absurd (omega (arith, below, parent, past_parent ds child past)))
    (cases_lt child (length ds))

child_later : (ds : List Directory) (child at : ℕ) → AreParentsFirst ds → 0 < at → parent_at ds child ≡ at → at < child
child_later ds zero at first below parent = absurd (omega (arith, below, parent, first.root))
child_later ds (suc n) at first below parent =
    let up : parent_at ds (suc n) < suc n = first.above (suc n) (omega arith) (child_inside ds (suc n) at below parent) in
    omega (arith, up, parent)

-- a policy here, or below a child
from_children : (ds : List Directory) (at : ℕ) → (HasBeaten ds (at + 1) at ⊎ (policy_at ds at ≡ Some Random)) → IsAboveRandom ds at
from_children ds at (inl h) = record { steps = suc h.above.steps; policy = (h.child, h.parent, h.unpinned, h.above.policy) }
from_children ds at (inr here) = record { steps = 0; policy = here }

to_children : (ds : List Directory) (at steps : ℕ) → AreParentsFirst ds → 0 < at → LeadsToRandom ds steps at
    → HasBeaten ds (at + 1) at ⊎ (policy_at ds at ≡ Some Random)
to_children ds at zero first below here = inr here
to_children ds at (suc n) first below is =
    let later : at < is.0 = child_later ds is.0 at first below is.1 in
    inl (record {
      child = is.0;
      from = omega (arith, later);
      inside = child_inside ds is.0 at below is.1;
      parent = is.1;
      unpinned = is.2;
      above = record { steps = n; policy = is.3 };
    })

pub or_cases : (a b : Bool) → (a || b) ≡ true → (a ≡ true) ⊎ (b ≡ true)
or_cases true b is = inl refl
or_cases false b is = inr is

pub or_one : (a b : Bool) → a ≡ true → (a || b) ≡ true
or_one a b is = rw is refl

pub or_other : (a b : Bool) → b ≡ true → (a || b) ≡ true
or_other true b is = refl
or_other false b is = is

and_both : (a b : Bool) → a ≡ true → b ≡ true → (a && b) ≡ true
and_both a b one other = rw (one, other) refl

weaker : (ds : List Directory) (at i : ℕ) → HasBeaten ds (at + 1) i → HasBeaten ds at i
weaker ds at i h = record {
  child = h.child;
  from = omega (arith, h.from);
  inside = h.inside;
  parent = h.parent;
  unpinned = h.unpinned;
  above = h.above;
}

-- one more child is looked at
pub beaten_more : (ds : List Directory) (old new : ℕ → Bool) (at : ℕ) (is_so : Bool) → AreParentsFirst ds → 0 < at → at < length ds
    → ((i : ℕ) → 0 < i → i < length ds → (old i ≡ true) ↔ HasBeaten ds (at + 1) i)
    → (is_so ≡ true) ↔ ((pin_at ds at ≡ None) × ((old at ≡ true) ⊎ (policy_at ds at ≡ Some Random)))
    → ((i : ℕ) → 0 < i → i < length ds → new i ≡ (is_so && (i == parent_at ds at)) || old i)
    → (i : ℕ) → 0 < i → i < length ds → (new i ≡ true) ↔ HasBeaten ds at i
beaten_more ds old new at is_so first below inside before so made i some low =
    let is : new i ≡ (is_so && (i == parent_at ds at)) || old i = made i some low in
    let here : (old at ≡ true) ↔ HasBeaten ds (at + 1) at = before at below inside in (
      λ marked. ⊎_elim
          (λ (both : (is_so && nat_eq i (parent_at ds at)) ≡ true).
          let parts : (is_so ≡ true) × (nat_eq i (parent_at ds at) ≡ true) = and_parts is_so (nat_eq i (parent_at ds at)) both in
          let held : (pin_at ds at ≡ None) × ((old at ≡ true) ⊎ (policy_at ds at ≡ Some Random)) = so.0 parts.0 in
          record {
            child = at;
            from = omega arith;
            inside = inside;
            parent = sym (eqb-true i (parent_at ds at) parts.1);
            unpinned = held.0;
            above = from_children ds at (⊎_elim (λ (m : old at ≡ true). inl (here.0 m)) (λ (p : policy_at ds at ≡ Some Random). inr p) held.1);
          })
          (λ (was : old i ≡ true). weaker ds at i ((before i some low).0 was))
          (or_cases (is_so && nat_eq i (parent_at ds at)) (old i) (sym is ∙ marked)),
      λ h. ⊎_elim
          (λ (same : h.child ≡ at).
          let parent : i ≡ parent_at ds at = sym h.parent ∙ ap (λ (k : ℕ). parent_at ds k) same in
          let pin : pin_at ds at ≡ None = subst (λ (k : ℕ). pin_at ds k ≡ None) same h.unpinned in
          let above : IsAboveRandom ds at = subst (λ (k : ℕ). IsAboveRandom ds k) same h.above in
          let found : (old at ≡ true) ⊎ (policy_at ds at ≡ Some Random) =
          ⊎_elim (λ (b : HasBeaten ds (at + 1) at). inl (here.1 b)) (λ (p : policy_at ds at ≡ Some Random). inr p)
          (to_children ds at above.steps first below above.policy) in
          is ∙ or_one (is_so && nat_eq i (parent_at ds at)) (old i)
          (and_both is_so (nat_eq i (parent_at ds at)) (so.1 (pin, found)) (eq-eqb i (parent_at ds at) parent)))
          (λ (other : h.child ≢ at).
          is ∙ or_other (is_so && nat_eq i (parent_at ds at)) (old i) ((before i some low).1 (record {
            child = h.child;
            from = omega (arith, h.from, other);
            inside = h.inside;
            parent = h.parent;
            unpinned = h.unpinned;
            above = h.above;
          })))
          (cases_eq h.child at),
    )

-- all directories are looked at: a directory with a random policy or with a marked child
pub all_above : (ds : List Directory) (i : ℕ) → AreParentsFirst ds → 0 < i → HasBeaten ds 1 i ⊎ (policy_at ds i ≡ Some Random) → IsAboveRandom ds i
all_above ds i first below (inl h) = record { steps = suc h.above.steps; policy = (h.child, h.parent, h.unpinned, h.above.policy) }
all_above ds i first below (inr here) = record { steps = 0; policy = here }

pub above_all : (ds : List Directory) (i : ℕ) → AreParentsFirst ds → 0 < i → IsAboveRandom ds i → HasBeaten ds 1 i ⊎ (policy_at ds i ≡ Some Random)
above_all ds i first below is =
    ⊎_elim (λ (h : HasBeaten ds (i + 1) i). inl (record {
      child = h.child;
      from = omega (arith, h.from);
      inside = h.inside;
      parent = h.parent;
      unpinned = h.unpinned;
      above = h.above;
    }))
    (λ (here : policy_at ds i ≡ Some Random). inr here)
    (to_children ds i is.steps first below is.policy)

-- what is said of a directory that doesn't depend on whether it is kept
pub record IsAlike (old new : List Directory) : Type 0 where
  pub size : length new ≡ length old
  pub parents : (i : ℕ) → parent_at new i ≡ parent_at old i
  pub pins : (i : ℕ) → pin_at new i ≡ pin_at old i
  pub policies : (i : ℕ) → policy_at new i ≡ policy_at old i

pub above_alike : (old new : List Directory) (steps i : ℕ) → IsAlike old new → LeadsToRandom old steps i → LeadsToRandom new steps i
above_alike old new zero i same is = same.policies i ∙ is
above_alike old new (suc n) i same is =
    (is.0, same.parents is.0 ∙ is.1, same.pins is.0 ∙ is.2, above_alike old new n is.0 same is.3)

pub back_alike : (old new : List Directory) (steps i : ℕ) → IsAlike old new → LeadsToRandom new steps i → LeadsToRandom old steps i
back_alike old new zero i same is = sym (same.policies i) ∙ is
back_alike old new (suc n) i same is =
    (is.0, sym (same.parents is.0) ∙ is.1, sym (same.pins is.0) ∙ is.2, back_alike old new n is.0 same is.3)

-- what was read of a directory
pub so_read : (ds : List Directory) (at : ℕ) (d : Directory) (was marked is_so : Bool) → slice_get ds at ≡ Some d → was ≡ marked
    → (is_so ≡ true) ↔ ((d.pin ≡ None) × ((was ≡ true) ⊎ (d.policy ≡ Some Random)))
    → (is_so ≡ true) ↔ ((pin_at ds at ≡ None) × ((marked ≡ true) ⊎ (policy_at ds at ≡ Some Random)))
so_read ds at d was marked is_so read same is =
    let pin : d.pin ≡ pin_at ds at = sym (ap (λ (o : Option Directory). option_map_or (λ (one : Directory). one.pin) o None) read) in
    let policy : d.policy ≡ policy_at ds at = sym (ap (λ (o : Option Directory). option_map_or (λ (one : Directory). one.policy) o None) read) in
    subst (λ (m : Bool). (is_so ≡ true) ↔ ((pin_at ds at ≡ None) × ((m ≡ true) ⊎ (policy_at ds at ≡ Some Random)))) same
    (subst (λ (p : Option EphemeralPin). (is_so ≡ true) ↔ ((pin_at ds at ≡ None) × ((was ≡ true) ⊎ (p ≡ Some Random)))) policy
    (subst (λ (p : Option ℕ). (is_so ≡ true) ↔ ((p ≡ None) × ((was ≡ true) ⊎ (d.policy ≡ Some Random)))) pin is))

map_parent : (b : Bool) (o : Option Directory) → option_map_or (λ (one : Directory). one.parent) (option_map (kept_where b) o) 0
    ≡ option_map_or (λ (one : Directory). one.parent) o 0
map_parent b None = refl
map_parent b (Some d) = refl

map_pin : (b : Bool) (o : Option Directory) → option_map_or (λ (one : Directory). one.pin) (option_map (kept_where b) o) None
    ≡ option_map_or (λ (one : Directory). one.pin) o None
map_pin b None = refl
map_pin b (Some d) = refl

map_policy : (b : Bool) (o : Option Directory) → option_map_or (λ (one : Directory). one.policy) (option_map (kept_where b) o) None
    ≡ option_map_or (λ (one : Directory). one.policy) o None
map_policy b None = refl
map_policy b (Some d) = refl

-- each directory is as it was, but for whether it is kept
abbrev Marked : List Directory → List Directory → List Bool → Type 0
Marked old new marks = (i : ℕ) → i < length old → slice_get new i ≡ option_map (kept_where (is_marked marks i)) (slice_get old i)

both_past : (old new : List Directory) (i : ℕ) → length new ≡ length old → length old ≤ i → slice_get new i ≡ slice_get old i
both_past old new i size past = slice_get_past new i (omega (arith, size, past)) ∙ sym (slice_get_past old i past)

alike : (old new : List Directory) (marks : List Bool) → length new ≡ length old → Marked old new marks → IsAlike old new
alike old new marks size made = record {
  size = size;
  parents = λ i. ⊎_elim
      (λ (inside : i < length old). ap (λ (o : Option Directory). option_map_or (λ (one : Directory). one.parent) o 0) (made i inside)
      ∙ map_parent (is_marked marks i) (slice_get old i))
      (λ (past : length old ≤ i). ap (λ (o : Option Directory). option_map_or (λ (one : Directory). one.parent) o 0) (both_past old new i size past))
      (cases_lt i (length old));
  pins = λ i. ⊎_elim
      (λ (inside : i < length old). ap (λ (o : Option Directory). option_map_or (λ (one : Directory). one.pin) o None) (made i inside)
      ∙ map_pin (is_marked marks i) (slice_get old i))
      (λ (past : length old ≤ i). ap (λ (o : Option Directory). option_map_or (λ (one : Directory). one.pin) o None) (both_past old new i size past))
      (cases_lt i (length old));
  policies = λ i. ⊎_elim
      (λ (inside : i < length old). ap (λ (o : Option Directory). option_map_or (λ (one : Directory). one.policy) o None) (made i inside)
      ∙ map_policy (is_marked marks i) (slice_get old i))
      (λ (past : length old ≤ i). ap (λ (o : Option Directory). option_map_or (λ (one : Directory). one.policy) o None) (both_past old new i size past))
      (cases_lt i (length old));
}

first_alike : (old new : List Directory) → IsAlike old new → AreParentsFirst new → AreParentsFirst old
first_alike old new same first = record {
  root = sym (same.parents 0) ∙ first.root;
  above = λ i low inside. subst (λ (p : ℕ). p < i) (same.parents i) (first.above i low (omega (arith, inside, same.size)));
}

-- whether a directory inside is kept
kept_is : (b : Bool) (o : Option Directory) (d : Directory) → o ≡ Some d
    → option_map_or (λ (one : Directory). one.is_kept) (option_map (kept_where b) o) false
    ≡ b || (is_some (option_map_or (λ (one : Directory). one.policy) (option_map (kept_where b) o) None)
    || (is_some (option_map_or (λ (one : Directory). one.idle) (option_map (kept_where b) o) None)
    || option_map_or (λ (one : Directory). one.is_doubtful) (option_map (kept_where b) o) false))
kept_is b o d is = rw is refl

kept_at_is : (old new : List Directory) (marks : List Bool) (i : ℕ) → Marked old new marks → i < length old
    → is_kept_at new i ≡ is_marked marks i || (is_some (policy_at new i) || (is_some (idle_at new i) || is_doubtful_at new i))
kept_at_is old new marks i made inside =
    let found : (d : Directory) × (slice_get old i ≡ Some d) = slice_get_some old i inside in
    subst (λ (o : Option Directory). option_map_or (λ (one : Directory). one.is_kept) o false
    ≡ is_marked marks i || (is_some (option_map_or (λ (one : Directory). one.policy) o None)
    || (is_some (option_map_or (λ (one : Directory). one.idle) o None) || option_map_or (λ (one : Directory). one.is_doubtful) o false)))
    (sym (made i inside)) (kept_is (is_marked marks i) (slice_get old i) found.0 found.1)

-- those are kept that may not be pinned
pub are_kept : (old new : List Directory) (marks : List Bool) → length new ≡ length old → Marked old new marks
    → (AreParentsFirst old → (i : ℕ) → 0 < i → i < length old → (is_marked marks i ≡ true) ↔ HasBeaten old 1 i)
    → AreParentsFirst new → KeepUnpinnable new
are_kept old new marks size made found first i low inside =
    let same : IsAlike old new = alike old new marks size made in
    let was : AreParentsFirst old = first_alike old new same first in
    let within : i < length old = omega (arith, inside, size) in
    let policy : Bool = is_some (policy_at new i) in
    let idle : Bool = is_some (idle_at new i) in
    let doubt : Bool = is_doubtful_at new i in
    let is : is_kept_at new i ≡ is_marked marks i || (policy || (idle || doubt)) = kept_at_is old new marks i made within in
    let mark : (is_marked marks i ≡ true) ↔ HasBeaten old 1 i = found was i low within in (
      λ kept. ⊎_elim
          (λ (m : is_marked marks i ≡ true).
          let above : IsAboveRandom old i = all_above old i was low (inl (mark.0 m)) in
          inr (inr (inr (record { steps = above.steps; policy = above_alike old new above.steps i same above.policy }))))
          (λ (other : (policy || (idle || doubt)) ≡ true).
          ⊎_elim (λ (p : policy ≡ true). inl p)
          (λ (rest : (idle || doubt) ≡ true). ⊎_elim (λ (n : idle ≡ true). inr (inl n)) (λ (d : doubt ≡ true). inr (inr (inl d))) (or_cases idle doubt rest))
          (or_cases policy (idle || doubt) other))
          (or_cases (is_marked marks i) (policy || (idle || doubt)) (sym is ∙ kept)),
      λ cause. is ∙ ⊎_elim
          (λ (p : policy ≡ true). or_other (is_marked marks i) (policy || (idle || doubt)) (or_one policy (idle || doubt) p))
          (λ (rest : (idle ≡ true) ⊎ ((doubt ≡ true) ⊎ IsAboveRandom new i)).
          ⊎_elim
          (λ (n : idle ≡ true). or_other (is_marked marks i) (policy || (idle || doubt)) (or_other policy (idle || doubt) (or_one idle doubt n)))
          (λ (more : (doubt ≡ true) ⊎ IsAboveRandom new i).
          ⊎_elim
          (λ (d : doubt ≡ true). or_other (is_marked marks i) (policy || (idle || doubt)) (or_other policy (idle || doubt) (or_other idle doubt d)))
          (λ (above : IsAboveRandom new i).
          ⊎_elim
          (λ (h : HasBeaten old 1 i). or_one (is_marked marks i) (policy || (idle || doubt)) (mark.1 h))
          (λ (here : policy_at old i ≡ Some Random).
          let some : policy ≡ true = ap (λ (o : Option EphemeralPin). is_some o) (same.policies i ∙ here) in
          or_other (is_marked marks i) (policy || (idle || doubt)) (or_one policy (idle || doubt) some))
          (above_all old i was low (record { steps = above.steps; policy = back_alike old new above.steps i same above.policy })))
          more)
          rest)
          cause,
    )
