use Rattle.std.proofs.Common.{◌≡◌, ◌<◌, ◌+◌, ◌*◌, ◌^◌, ◌∙◌, ℕ, List, Option, Bool, false, ap, sym, arith, length, length-set, get_or}
use Rattle.std.specs.Prelude.{slice_index}
use Rattle.std.proofs.lemmas.Bool.{and_left}
use Rattle.dirtree.specs.Tree.{Entry, inodes_of}
use Rattle.tree_parts.specs.declared.division.Total.{Total}
use Rattle.tree_parts.specs.Parts.{nothing}
use Rattle.tree_parts.proofs.Passes.{bounded_more, counted_more, counted_same, plus, plus-same, read}
use Rattle.tree_parts.proofs.division.totals.Goals as goal
use Rattle.tree_parts.proofs.division.totals.Goals.{then-is_free, else-is_free}

pub loop-member-preserved : goal.loop-member-preserved
loop-member-preserved c =
    let es : List (Option Entry) = c.args.tree.now.entries in
    let heats : List ℕ = c.args.heat.now.heats in
    let marks : List Bool = c.args.marks.now in
    let tops : List ℕ = c.args.tops.now in
    let n : ℕ = c.loop-member.member in
    let totals : List Total = c.loop-member.totals.items in
    let inside : n < length es = omega (arith, c.loop-member-test.true, c.numbers-member-end.ensures.value) in
    let at_tops : n < length tops = omega (arith, inside, c.requires.tops) in
    elim c.if-is_free.branch [
      | then-is_free w ↦
          let top : ℕ = w.number-top.result in
          let more : Total = w.with.result in
          let at : get_or tops n 0 ≡ top = sym (w.number-top.ensures ∙ read tops n w.index-tops-member.result 0 at_tops w.index-tops-member.is) in
          let within : top < length es = omega (arith, c.requires.above n, at, inside) in
          let place : top < length totals = omega (arith, within, c.loop-member.invariant.size) in
          let before : w.index-before.result.now ≡ get_or totals top nothing = read totals top w.index-before.result.now nothing place w.index-before.ensures in
          let was_heat : more.heat ≡ w.index-before.result.now.heat + w.heat.result = ap (λ (sum : Total). sum.heat) w.with.ensures in
          let was_inodes : more.inodes ≡ w.index-before.result.now.inodes + w.inodes.result = ap (λ (sum : Total). sum.inodes) w.with.ensures in
          let heat_before : w.index-before.result.now.heat ≡ (get_or totals top nothing).heat = ap (λ (sum : Total). sum.heat) before in
          let inodes_before : w.index-before.result.now.inodes ≡ (get_or totals top nothing).inodes = ap (λ (sum : Total). sum.inodes) before in
          let is : more ≡ plus (get_or totals top nothing) (slice_index heats n) (inodes_of es n) =
          w.with.ensures ∙ plus-same w.index-before.result.now (get_or totals top nothing) w.heat.result (slice_index heats n)
          w.inodes.result (inodes_of es n) before (w.heat.ensures.value ∙ ap (slice_index heats) w.new-dir.ensures)
          (w.inodes.ensures.value ∙ ap (inodes_of es) w.new-dir.ensures) in
          rw w.totals-is (record {
            size = simp length-set c.loop-member.invariant.size;
            heat = bounded_more (λ sum. sum.heat) totals (length es) (2 ^ 40) (n * 2 ^ 40) ((n + 1) * 2 ^ 40) top more place within
                (omega (arith, was_heat, heat_before, w.heat.ensures.limited)) (omega arith) c.loop-member.invariant.heat;
            inodes = bounded_more (λ sum. sum.inodes) totals (length es) (2 ^ 32) (n * 2 ^ 32) ((n + 1) * 2 ^ 32) top more place within
                (omega (arith, was_inodes, inodes_before, w.inodes.ensures.small)) (omega arith) c.loop-member.invariant.inodes;
            counted = counted_more es heats marks tops totals (length es) n top more w.if-is_free.true at place within is c.loop-member.invariant.counted;
          })
      | else-is_free w ↦
          rw w.totals-is (record {
            size = c.loop-member.invariant.size;
            heat = λ t h. omega (arith, c.loop-member.invariant.heat t h);
            inodes = λ t h. omega (arith, c.loop-member.invariant.inodes t h);
            counted = λ t h. c.loop-member.invariant.counted t h
                ∙ sym (counted_same es heats marks tops n t (and_left (get_or marks n false) _ w.if-is_free.false));
          })
    ]
