use Rattle.std.proofs.Common.{◌≡◌, ◌∙◌, ◌<◌, ◌∷◌, ◌++◌, [], ℕ, Global, List, Vec, ap, length, slice_index, subst, sym, take}
use Rattle.std.proofs.lemmas.List.{take_more}
use Rattle.ceph_dumps.specs.OneForOne.{AreOneForOne}
use Rattle.ceph_dumps.proofs.Records.{one_more}
use Rattle.std.proofs.lemmas.Result.{err_from_is_err_and}
use Rattle.std.specs.List.{IsAmong}
use Rattle.ceph_folding.specs.Folding.{AreHeatsLeft}
use Rattle.ceph_folding.specs.TooMany.{IsPastCount}
use Rattle.ceph_snapshot.specs.Holding.{is_marked}
use Rattle.ceph_snapshot.proofs.Growth.{growth_for}
use Rattle.ceph_folding.proofs.hours.folded_hours.Goals as goal

pub loop-hour-preserved : goal.loop-hour-preserved
loop-hour-preserved c =
    let hours : List (Vec ℕ Global) = c.args.hours.now in
    let at : ℕ = c.loop-hour.hour-index in
    let hour : Vec ℕ Global = c.hour-item.result in
    let left : Vec ℕ Global = c.in_ok-folded_hour.field-0 in
    let inside : at < length hours = c.loop-hour-test.true in
    let is : Vec ℕ Global → Vec ℕ Global → Type 0 = λ old new. AreHeatsLeft (is_marked c.args.gone.now) (slice_index c.args.homes.now) old.items new.items in
    let here : is hour left = subst
    (λ (heats : List ℕ). AreHeatsLeft (is_marked c.args.gone.now) (slice_index c.args.homes.now) heats left.items) c.deref.ensures.value
    c.in_ok-folded_hour.ensures.left in
    subst (λ (those : List (Vec ℕ Global)). AreOneForOne is those c.push.new.self.items)
    (sym (take_more hours at hour inside ∙ ap (λ (one : Vec ℕ Global). take at hours ++ one ∷ []) (sym c.hour-item.is)))
    (subst (AreOneForOne is (take at hours ++ hour ∷ [])) (sym c.in_ok-push.ensures.items)
    (one_more is (take at hours) c.loop-hour.left.items hour left c.loop-hour.invariant here))

pub returns-in_err-folded_hour-clause-many : goal.returns-in_err-folded_hour-clause-many
returns-in_err-folded_hour-clause-many c =
    let hours : List (Vec ℕ Global) = c.args.hours.now in
    let homes : ℕ → ℕ = slice_index c.args.homes.now in
    let n : ℕ = length c.args.gone.now in
    let at : ℕ = c.loop-hour.hour-index in
    let hour : Vec ℕ Global = c.hour-item.result in
    let inside : at < length hours = c.loop-hour-test.true in
    let size : length hour.items ≡ n =
    subst (λ (one : Vec ℕ Global). length one.items ≡ n) (sym {A = Vec ℕ Global} c.hour-item.is) (c.requires.hours at hour inside) in
    let e = err_from_is_err_and c.from_residual-in_err-folded_hour.result c.from_residual-in_err-folded_hour.ensures.1 in
    rw (e.1, e.2)
    (growth_for (IsPastCount (slice_index hour.items) homes (length hour.items))
    ((one : Vec ℕ Global) × IsAmong hours one × IsPastCount (slice_index one.items) homes n) c.in_err-folded_hour.field-0.0
    (λ past. (hour, (at, (inside, c.hour-item.is)), subst (IsPastCount (slice_index hour.items) homes) size past))
    (rw c.deref.ensures.value at c.in_err-folded_hour.ensures.many))
