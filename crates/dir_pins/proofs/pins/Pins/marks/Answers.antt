use Rattle.std.proofs.Common.{◌≡◌, ◌<◌, ◌∙◌, ℕ, List, Option, refl, arith, length, length-set}
use Rattle.dirtree.specs.Tree.{Entry}
use Rattle.dir_pins.specs.Pins.{is_unpinned}
use Rattle.dir_pins.proofs.NearestPin.{known_more}
use Rattle.dir_pins.proofs.pins.Pins.marks.Goals as goal

pub loop-number-preserved : goal.loop-number-preserved
loop-number-preserved c =
    let es : List (Option Entry) = c.args.tree.now.entries in
    let own : List (Option ℕ) = c.args.self.now.own in
    let n : ℕ = c.loop-number.number in
    let inside : n < length c.loop-number.known.items =
    omega (arith, c.loop-number.invariant.size, c.loop-number-test.true, c.numbers-number-end.ensures.value) in
    let found : c.is_unpinned-is_free.result ≡ is_unpinned es own n = c.is_unpinned-is_free.ensures ∙ rw c.new.ensures refl in
    record {
      size = simp length-set c.loop-number.invariant.size;
      known = known_more c.loop-number.known.items (is_unpinned es own) n c.is_unpinned-is_free.result inside found c.loop-number.invariant.known;
    }
