-- What plain tests of pins and of states mean.
use Rattle.std.proofs.Common.{◌≡◌, ◌⊎◌, ℕ, ◌<◌, Bool, true, false, not, ◌&&◌, ◌||◌, cond, Option, Some, None, refl, sym, ap, ◌∙◌, inl, inr}
use Rattle.std.specs.Prelude.{IfSome, nat_lt}
use Rattle.std.proofs.lemmas.Bool.{ltb-true, eqb-true}
use Rattle.pin_driver.specs.Driven.{IsAsPlanned}
use Rattle.pin_driver.specs.Exchanges.{or_later}
use Rattle.pin_driver.specs.Troubles.{unlike_change, is_inode, is_expected, is_same_pin}
use Rattle.pin_driver.specs.declared.answer.ClusterState.{ClusterState}
use Rattle.pin_driver.specs.declared.answer.FoundPin.{FoundPin}
use Rattle.pin_driver.specs.declared.plan.PlannedChange.{PlannedChange}
use Rattle.pin_driver.specs.declared.question.Trouble.{Trouble}
use Rattle.pin_driver.specs.declared.question.Trouble.TheVariants as troubles
use Rattle.pin_driver.specs.declared.task.Task.{Task}

pub or_nothing : (c : Option ClusterState) → or_later c None ≡ c
or_nothing None = refl
or_nothing (Some c) = refl

-- the state stays known
pub stays : (c first : Option ClusterState) (s : Option ClusterState) → first ≡ s → (k : ClusterState) × (s ≡ Some k) → or_later first c ≡ s
stays c first s e known =
    ap (λ (o : Option ClusterState). or_later o c) (e ∙ known.1) ∙ sym known.1

-- a directory without trouble is as planned
pub same_pin : (a b : Option ℕ) → is_same_pin a b ≡ true → a ≡ b
same_pin None None e = refl
same_pin (Some a) (Some b) e = ap Some (eqb-true a b e)
same_pin None (Some b) e = absurd cc
same_pin (Some a) None e = absurd cc

pub same_inode : (inode : Option ℕ) (found : ℕ) → is_inode inode found ≡ true → IfSome inode (λ n. found ≡ n)
same_inode None found e = tt
same_inode (Some inode) found e = sym (eqb-true inode found e)

pub no_trouble : (b : Bool) (t : Trouble) (o : Option Trouble) → cond (not b) (Some t) o ≡ None → (b ≡ true) × (o ≡ None)
no_trouble true t o e = (refl, e)
no_trouble false t o e = absurd cc

pub either : (a b : Bool) → (a || b) ≡ true → (a ≡ true) ⊎ (b ≡ true)
either true b e = inl refl
either false b e = inr e

pub both : (a b : Bool) → (a && b) ≡ true → (a ≡ true) × (b ≡ true)
both true b e = (refl, e)
both false b e = absurd cc

expected : (i begun : ℕ) (change : PlannedChange) (pin : Option ℕ) → is_expected (nat_lt i begun) change pin ≡ true →
    (pin ≡ change.before) ⊎ ((i < begun) × (pin ≡ change.after))
expected i begun change pin e =
    elim (either (is_same_pin pin change.before) (nat_lt i begun && is_same_pin pin change.after) e) [
      | inl old ↦ inl (same_pin pin change.before old)
      | inr new ↦
          let parts : (nat_lt i begun ≡ true) × (is_same_pin pin change.after ≡ true) = both (nat_lt i begun) (is_same_pin pin change.after) new in
          inr (ltb-true i begun parts.0, same_pin pin change.after parts.1)
    ]

pub planned : (x : Task) (i : ℕ) (found : FoundPin) → (change : Option PlannedChange) →
    unlike_change (nat_lt i x.first.begun) change found ≡ None →
    (c : PlannedChange) × (change ≡ Some c) × IsAsPlanned x i c found
planned x i found None none = absurd cc
planned x i found (Some c) none =
    let right : (is_inode c.inode found.inode ≡ true)
    × (cond (not (is_expected (nat_lt i x.first.begun) c found.pin)) (Some troubles.PinChanged) None ≡ None) =
    no_trouble (is_inode c.inode found.inode) troubles.OtherDirectory
    (cond (not (is_expected (nat_lt i x.first.begun) c found.pin)) (Some troubles.PinChanged) None) none in
    let nothing : Option Trouble = None in
    let same : (is_expected (nat_lt i x.first.begun) c found.pin ≡ true) × (nothing ≡ None) =
    no_trouble (is_expected (nat_lt i x.first.begun) c found.pin) troubles.PinChanged None right.1 in
    (c, refl, record { inode = same_inode c.inode found.inode right.0; pin = expected i x.first.begun c found.pin same.0 })
