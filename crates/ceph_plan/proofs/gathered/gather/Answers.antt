use Rattle.std.proofs.Common.{◌≡◌, ◌<◌, ◌-◌, ◌∙◌, ◌++◌, ◌∷◌, [], ℕ, List, length, get_or, ap, subst, sym, true}
use Rattle.std.proofs.Math.Nat.{le_of_lt}
use Rattle.std.proofs.lemmas.List.{get_or_default, get_or_read}
use Rattle.ceph_plan.specs.declared.hold.Hold.{Hold}
use Rattle.ceph_plan.specs.declared.hold.Hold.TheVariants.{Foreign, Free}
use Rattle.ceph_plan.specs.declared.row.Pin.{Pin}
use Rattle.ceph_plan.specs.declared.row.PinRow.{PinRow}
use Rattle.ceph_plan.specs.Holds.{hold_at, is_own, pins_below}
use Rattle.ceph_plan.specs.Rule.{no_row, row_at, target_at}
use Rattle.ceph_plan.proofs.PinList.{before-inside, with_no_pin, with_pin}
use Rattle.ceph_plan.proofs.gathered.gather.Goals as goal

-- whether the row before row i has a pin, as it is read
read-own : (holds : List Hold) (rows : List PinRow) (i : ℕ) → length holds ≡ length rows → i < length rows
    → is_own (get_or holds i Foreign) ≡ is_own (hold_at holds i)
read-own holds rows i size inside = ap is_own (get_or_default holds i Foreign Free (subst (λ (n : ℕ). i < n) (sym size) inside))

pub loop-i-preserved-in-Continue-1 : goal.loop-i-preserved-in-Continue-1
loop-i-preserved-in-Continue-1 c =
    let rows : List PinRow = c.args.rows.now in
    let holds : List Hold = c.args.holds.now in
    let done : List Pin = c.loop-i.pins.items in
    let at : ℕ = c.loop-i.i - 1 in
    let inside : at < length rows = before-inside c.loop-i.i (length rows) c.loop-i-test.true c.loop-i.invariant.inside in
    let row : c.index-rows-i.result ≡ row_at rows at = get_or_read rows at c.index-rows-i.result inside c.index-rows-i.is no_row in
    let own : is_own (hold_at holds at) ≡ true = sym (read-own holds rows at c.requires.size inside) ∙ sym c.if-is_new.ensures in
    let pushed : c.push.new.self.items ≡ done ++ record { row = at; rank = target_at rows at } ∷ [] =
    c.in_ok-push.ensures.items ∙ ap (λ (one : PinRow). done ++ record { row = at; rank = one.target } ∷ []) (sym c.index-rows-i.is ∙ row) in
    record {
      inside = le_of_lt inside;
      pins = ap (λ (pins : List Pin). pins ++ pins_below rows holds at) pushed
          ∙ with_pin rows holds done (pins_below rows holds (length rows)) c.loop-i.i c.loop-i-test.true c.loop-i.invariant.pins own;
    }

pub loop-i-preserved : goal.loop-i-preserved
loop-i-preserved c =
    let rows : List PinRow = c.args.rows.now in
    let holds : List Hold = c.args.holds.now in
    let at : ℕ = c.loop-i.i - 1 in
    let inside : at < length rows = before-inside c.loop-i.i (length rows) c.loop-i-test.true c.loop-i.invariant.inside in
    record {
      inside = le_of_lt inside;
      pins = with_no_pin rows holds c.loop-i.pins.items (pins_below rows holds (length rows)) c.loop-i.i c.loop-i-test.true c.loop-i.invariant.pins
          (sym (read-own holds rows at c.requires.size inside) ∙ sym c.if-is_new.ensures);
    }
