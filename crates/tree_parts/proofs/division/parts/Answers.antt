use Rattle.std.proofs.Common.{◌≡◌, ◌<◌, ◌∙◌, ℕ, List, Option, Bool, true, false, refl, ap, sym, arith, length, get_or}
use Rattle.std.proofs.lemmas.Bool.{and_from, and_left, and_right}
use Rattle.dirtree.specs.Tree.{Entry}
use Rattle.dir_pins.specs.Pins.{is_unpinned}
use Rattle.tree_parts.specs.Parts.{counted, is_free_top, is_top, members, nothing, part_at, part_of, total}
use Rattle.tree_parts.proofs.Passes.{counted_members, map_one, map_same, read}
use Rattle.tree_parts.proofs.division.parts.Goals as goal
use Rattle.tree_parts.proofs.division.parts.Goals.{then-index+then-is_top-top+in_ok-push, else-index}
use Rattle.tree_parts.proofs.division.parts.Goals.{else-index-via-then-index+else-is_top-top, else-index-via-else-index}

pub loop-top-preserved : goal.loop-top-preserved
loop-top-preserved c =
    let es : List (Option Entry) = c.args.tree.now.entries in
    let own : List (Option ℕ) = c.args.pins.now.own in
    let heats : List ℕ = c.args.heat.now.heats in
    let n : ℕ = c.loop-top.top in
    let marks : List Bool = c.in_ok-marks.marks.items in
    let nearest : List ℕ = c.in_ok-nearest.nearest.items in
    let inside : n < length es = omega (arith, c.loop-top-test.true, c.numbers-top-end.ensures.value) in
    let at_marks : n < length marks = omega (arith, inside, c.in_ok-marks.ensures.size) in
    let at_top : n < length c.args.is_top.now = omega (arith, inside, c.requires.tops) in
    let at_total : n < length c.in_ok-totals.totals.items = omega (arith, inside, c.in_ok-totals.ensures.size) in
    let free : c.index.result.now ≡ is_unpinned es own n = read marks n c.index.result.now false at_marks c.index.ensures
    ∙ c.in_ok-marks.ensures.unpinned n inside in
    record {
      end = omega (arith, inside);
      parts = λ tops marked.
          let top : get_or c.args.is_top.now n false ≡ is_top tops n = marked n at_top in
          let summed : get_or c.in_ok-totals.totals.items n nothing
          ≡ counted es heats marks nearest (length es) n = c.in_ok-totals.ensures.totals n inside
          ∙ (rw (c.deref.ensures.value, c.deref-2.ensures.value) refl) in
          let whole : get_or c.in_ok-totals.totals.items n nothing ≡ total es heats (members es own tops n) = summed
          ∙ counted_members es own heats marks nearest tops n c.in_ok-marks.ensures.unpinned
          (c.in_ok-nearest.ensures.nearest tops marked) in
          elim c.if-index.branch [
            | then-index+then-is_top-top+in_ok-push w ↦
                let is : is_free_top es own tops n ≡ true = and_from (is_unpinned es own n) (is_top tops n) (sym free ∙ w.if-index.true)
                (sym top ∙ w.if-is_top-top.true) in
                let counted_is : w.index-total.result.now ≡ total es heats (members es own tops n) =
                read c.in_ok-totals.totals.items n w.index-total.result.now nothing at_total w.index-total.ensures ∙ whole in
                let pushed : record { top = w.new.result; heat = w.index-total.result.now.heat; inodes = w.index-total.result.now.inodes }
                ≡ part_at es own heats tops n = rw w.new.ensures (ap (part_of n) counted_is) in
                rw (w.parts-is, w.in_ok-push.ensures.items, c.loop-top.invariant.parts tops marked, pushed)
                (sym (map_one (part_at es own heats tops) (is_free_top es own tops) n is))
            | else-index w ↦
                let is : is_free_top es own tops n ≡ false = elim w.else-index.branch [
                  | else-index-via-then-index+else-is_top-top v ↦ and_right (is_unpinned es own n) (is_top tops n) (sym top ∙ v.if-is_top-top.false)
                  | else-index-via-else-index v ↦ and_left (is_unpinned es own n) (is_top tops n) (sym free ∙ v.if-index.false)
                ] in
                rw (w.parts-is, c.loop-top.invariant.parts tops marked) (sym (map_same (part_at es own heats tops) (is_free_top es own tops) n is))
          ];
    }
