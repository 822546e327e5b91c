use Rattle.std.proofs.Common.{◌≡◌, ◌∙◌, List, ap, arith, map, reverse, take}
use Rattle.std.proofs.lemmas.List.{take_all}
use Rattle.ceph_plan.specs.Changes.{applied, before_pin}
use Rattle.ceph_plan.specs.declared.row.PinChange.{PinChange}
use Rattle.ceph_pins.specs.Back.{inverted, restored}
use Rattle.ceph_pins.proofs.Changing.{undone}
use Rattle.ceph_pins.proofs.back.changes_back.Goals as goal

pub returns-clause-back : goal.returns-clause-back
returns-clause-back c i =
    let changes : List PinChange = c.args.changes.now in
    let all : take c.loop-change.change-index changes ≡ changes = take_all c.loop-change.change-index changes (omega arith) in
    let back : c.reverse.new.self.items ≡ inverted c.args.rows.now changes =
    c.reverse.ensures.items ∙ ap (λ (those : List PinChange). reverse those)
    (c.loop-change.invariant ∙ ap (λ (those : List PinChange). map (restored c.args.rows.now) those) all) in
    ap (λ (those : List PinChange). applied (applied (before_pin c.args.rows.now) changes) those i) back ∙ undone c.args.rows.now changes i
