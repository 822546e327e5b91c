use Rattle.std.proofs.Common.{◌≡◌, ◌∙◌, ◌++◌, ◌∷◌, ℕ, zero, suc, List, Option, Some, [], ap, arith, length, map, subst, sym}
use Rattle.std.specs.List.{slice_get}
use Rattle.std.specs.Option.{option_map_or}
use Rattle.std.proofs.lemmas.List.{length-append}
use Rattle.std.proofs.lemmas.Option.{none-some}
use Rattle.ceph_report.specs.declared.hours.PlannedHour.{PlannedHour}
use Rattle.mdbal_ceph.specs.Hours.{IsToldHour}
use Rattle.mdbal_ceph.proofs.planning.told_hours.Goals as goal

-- what is told of each of some hours, and of one more
told_more : (P : ℕ → PlannedHour → Type 0) (xs : List PlannedHour) (y : PlannedHour) → P (length xs) y
    → ((k : ℕ) (hour : PlannedHour) → slice_get xs k ≡ Some hour → P k hour)
    → (k : ℕ) (hour : PlannedHour) → slice_get (xs ++ y ∷ []) k ≡ Some hour → P k hour
told_more P [] y here before zero hour there = subst (P 0) (ap (λ (o : Option PlannedHour). option_map_or (λ (z : PlannedHour). z) o y) there) here
told_more P [] y here before (suc k) hour there = absurd (none-some hour there)
told_more P (x ∷ xs) y here before zero hour there = before 0 hour there
told_more P (x ∷ xs) y here before (suc k) hour there = told_more (λ j. P (suc j)) xs y here (λ j one is. before (suc j) one is) k hour there

pub loop-k-preserved : goal.loop-k-preserved
loop-k-preserved c =
    let names : List (List ℕ) = map (λ name. name.now) c.args.names.now in
    let is : ℕ → PlannedHour → Type 0 = IsToldHour names c.args.directories.now c.args.chosen.now c.args.made.now c.args.found.now in
    let hours : List PlannedHour = c.loop-k.hours.items in
    let one : PlannedHour = c.in_ok-told_hour.field-0 in
    let here : is c.loop-k.k one = record {
      name = c.in_ok-told_hour.ensures.name ∙ c.in_ok-name.ensures;
      seen = c.in_ok-told_hour.ensures.seen;
      bound = c.in_ok-told_hour.ensures.bound;
      now = c.in_ok-told_hour.ensures.now;
      planned = c.in_ok-told_hour.ensures.planned;
    } in
    record {
      size = omega (arith, ap length c.in_ok-push.ensures.items, length-append hours (one ∷ []), c.loop-k.invariant.size);
      each = λ k hour there. told_more is hours one (subst (λ (j : ℕ). is j one) (sym c.loop-k.invariant.size) here) c.loop-k.invariant.each k hour
          (subst (λ (xs : List PlannedHour). slice_get xs k ≡ Some hour) c.in_ok-push.ensures.items there);
    }
