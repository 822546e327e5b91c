-- What holds a directory is left as it is.
use Rattle.std.proofs.Common.{◌≡◌, ◌≢◌, ◌∙◌, ◌<◌, ◌||◌, All, ℕ, Bool, true, false, List, length, Option, Some, None, ap, arith, cond, is_some, refl, sym}
use Rattle.std.proofs.lemmas.Bool.{both_ways, ne_eqb}
use Rattle.std.proofs.lemmas.Option.{none-some}
use Rattle.mds_types.specs.declared.problem.ProblemRow.{ProblemRow}
use Rattle.ceph_snapshot.specs.declared.directory.Directory.{Directory}
use Rattle.ceph_snapshot.specs.Holding.{is_fixed_at, is_holding, now_at, pin_at}
use Rattle.ceph_plan.specs.declared.proposal.OwnPins.{OwnPins}
use Rattle.ceph_plan.specs.declared.row.PinChange.{PinChange}
use Rattle.ceph_plan.specs.declared.row.PinRow.{PinRow}
use Rattle.ceph_plan.specs.Asked.{ArePinRows, own_at}
use Rattle.ceph_plan.specs.Changes.{AreUntouched}
use Rattle.ceph_plan.specs.Rule as rule
use Rattle.ceph_plan.specs.Rule.{first_of}
use Rattle.ceph_pins.specs.OwnPins.{AreOwnPins, foreign_at}

some_of : (o : Option ℕ) (fixed : Bool) (now : ℕ) → (is_some o || fixed) ≡ true → first_of o (cond fixed (Some now) None) ≢ None
some_of None true now is same = none-some now (sym same)
some_of None false now is same = both_ways false refl is
some_of (Some r) fixed now is same = none-some r (sym same)

-- what holds counts as a pin that is to stay
holding-foreign : (directories : List Directory) (i : ℕ) → 0 < i → is_holding directories i ≡ true → foreign_at directories i ≢ None
holding-foreign directories i later is =
    rw (ne_eqb i 0 (λ same. let none : ⊥ = omega (arith, later, same) in none))
    (some_of (pin_at directories i) (is_fixed_at directories i) (now_at directories i) is)

pub untouched : (directories : List Directory) (leave : List (List ℕ)) (rows : List ProblemRow) (part rank : List ℕ) (own : List OwnPins)
    (n : ℕ) (rests : Bool) (found : List PinRow) (changes : List PinChange)
    → n ≡ length directories → AreOwnPins directories leave (length directories) own → ArePinRows rows part rank own n rests found → AreUntouched found changes
    → (i : ℕ) → 0 < i → i < length directories → is_holding directories i ≡ true → All (λ (change : PinChange). change.row ≢ i) changes
untouched directories leave rows part rank own n rests found changes size own_is asked free i later inside holds = λ k d l same.
    let row : rule.foreign_at found i ≡ (own_at own i).foreign = ap (λ (one : PinRow). one.foreign) (asked.asked i (omega (arith, inside, size))) in
    let pins : (own_at own i).foreign ≡ foreign_at directories i = (own_is.each i inside).foreign in
    let none : rule.foreign_at found i ≡ None = ap (rule.foreign_at found) (sym same) ∙ free k d l in
    holding-foreign directories i later holds (sym pins ∙ (sym row ∙ none))
