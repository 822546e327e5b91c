use Rattle.std.proofs.Common.{◌≡◌, ◌∙◌, ◌++◌, ℕ, List, Option, ap, append-nil, arith, length, slice_index_or, sym}
use Rattle.std.specs.Prelude.{None}
use Rattle.ceph_plan.specs.Changes.{applied}
use Rattle.ceph_snapshot.specs.declared.directory.Directory.{Directory}
use Rattle.ceph_pins.specs.OwnList.{earlier_pin, own_lines}
use Rattle.ceph_pins.proofs.Lines.{own_lines_same}
use Rattle.ceph_pins.proofs.own_list.make_own_list.Goals as goal

pub returns : goal.returns
returns c =
    let directories : List Directory = c.args.directories.now in
    let pins : ℕ → Option ℕ = λ i. slice_index_or c.in_ok-pins.pins.items i None in
    let none : c.loop-at.at ≡ 0 = omega (arith, c.loop-at-test.false) in
    sym (append-nil c.loop-at.list.items)
    ∙ (ap (λ (n : ℕ). c.loop-at.list.items ++ own_lines directories pins n) (sym none)
    ∙ (c.loop-at.invariant.rest
    ∙ own_lines_same directories pins (applied (earlier_pin c.args.rows.now) c.args.changes.now) (length c.args.rows.now) c.in_ok-pins.ensures.pins))
