use Rattle.std.proofs.Common.{◌≡◌, ◌<◌, ℕ, List, [], ◌∷◌, ◌++◌, Option, Bool, true, false, cond, sym, ◌∙◌, refl, arith, length, append-nil, ◌+◌}
use Rattle.std.specs.Prelude.{filter}
use Rattle.dirtree.specs.Tree.{Entry}
use Rattle.dir_pins.specs.Pins.{below, is_unpinned}
use Rattle.dir_pins.proofs.NearestPin.{below_more, read_mark}
use Rattle.dir_pins.proofs.pins.Pins.unpinned.Goals as goal
use Rattle.dir_pins.proofs.pins.Pins.unpinned.Goals.{then-index+in_ok-push, else-index}

pub loop-number-preserved : goal.loop-number-preserved
loop-number-preserved c =
    let es : List (Option Entry) = c.args.tree.now.entries in
    let own : List (Option ℕ) = c.args.self.now.own in
    let n : ℕ = c.loop-number.number in
    let marks : List Bool = c.in_ok-marks.marks.items in
    let inside : n < length es = omega (arith, c.loop-number-test.true, c.numbers-number-end.ensures.value) in
    let within : n < length marks = omega (arith, inside, c.in_ok-marks.ensures.size) in
    let found : c.index.result.now ≡ is_unpinned es own n = read_mark marks n c.index.result.now within c.index.ensures
    ∙ c.in_ok-marks.ensures.unpinned n inside in
    let more : filter (is_unpinned es own) (below (n + 1)) ≡ filter (is_unpinned es own) (below n)
    ++ cond (is_unpinned es own n) (n ∷ []) [] = below_more (is_unpinned es own) n in
    record {
      end = omega (arith, inside);
      dirs = elim c.if-index.branch [
        | then-index+in_ok-push w ↦
            let is : is_unpinned es own n ≡ true = sym found ∙ w.if-index.true in
            rw (w.dirs-is, w.in_ok-push.ensures.items, c.loop-number.invariant.dirs, w.new.ensures, more, is) refl
        | else-index w ↦
            let is : is_unpinned es own n ≡ false = sym found ∙ w.if-index.false in
            rw (w.dirs-is, c.loop-number.invariant.dirs, more, is) (sym (append-nil (filter (is_unpinned es own) (below n))))
      ];
    }
