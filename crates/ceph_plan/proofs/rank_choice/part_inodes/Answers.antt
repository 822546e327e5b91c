use Rattle.std.proofs.Common.{◌≡◌, ◌<◌, ◌+◌, ◌*◌, ◌&&◌, ◌==◌, ◌∙◌, ℕ, List, ap, arith, cond, get_or, length, length-set, refl, slice_index}
use Rattle.std.proofs.Math.Nat.{le_of_lt}
use Rattle.std.proofs.lemmas.List.{get_or_read}
use Rattle.mds_types.specs.declared.problem.ProblemRow.{ProblemRow}
use Rattle.mds_types.specs.Problem.{inodes_at, no_row, now_at, row_at}
use Rattle.ceph_plan.proofs.PackedParts.{read-value}
use Rattle.ceph_plan.proofs.PartSums.{cell-more, cell-small, cells-more}
use Rattle.ceph_plan.proofs.rank_choice.part_inodes.Goals as goal

pub overflow_add-index_mut : goal.overflow_add-index_mut
overflow_add-index_mut c =
    let inodes : List ℕ = c.loop-i.inodes.items in
    let k : ℕ = get_or c.args.part.now c.loop-i.i 0 * 64 + c.from.result in
    let part : get_or c.args.part.now c.loop-i.i 0 < c.args.count = c.requires.parts.below c.loop-i.i c.loop-i-test.true in
    let inside : k < c.args.count * 64 = omega (arith, part, c.from.ensures, c.number.ensures.small) in
    let read : c.index_mut.result.now ≡ get_or inodes k 0 =
    read-value inodes inodes k c.index_mut.result.now refl (omega (arith, inside, c.loop-i.invariant.size)) c.index_mut.ensures.value in
    omega (arith, read, c.loop-i.invariant.small k inside, c.inodes_of.ensures.small, c.loop-i-test.true, c.requires.parts.forest.few)

pub loop-i-preserved : goal.loop-i-preserved
loop-i-preserved c =
    let inodes : List ℕ = c.loop-i.inodes.items in
    let rows : List ProblemRow = c.args.rows.now in
    let i : ℕ = c.loop-i.i in
    let here : ℕ = get_or c.args.part.now i 0 in
    let k : ℕ = here * 64 + c.from.result in
    let v : ℕ = c.index_mut.result.now + c.inodes_of.result in
    let part : here < c.args.count = c.requires.parts.below i c.loop-i-test.true in
    let inside : k < c.args.count * 64 = omega (arith, part, c.from.ensures, c.number.ensures.small) in
    let there : k < length inodes = omega (arith, inside, c.loop-i.invariant.size) in
    let read : c.index_mut.result.now ≡ get_or inodes k 0 = read-value inodes inodes k c.index_mut.result.now refl there c.index_mut.ensures.value in
    let value : v ≡ get_or inodes k 0 + c.inodes_of.result = ap (λ (x : ℕ). x + c.inodes_of.result) read in
    let row : c.index-rows-i.result ≡ row_at rows i = get_or_read rows i c.index-rows-i.result c.loop-i-test.true c.index-rows-i.is no_row in
    let now : c.from.result ≡ now_at rows i = c.from.ensures ∙ (c.number.ensures.value ∙ ap (λ (one : ProblemRow). one.now) row) in
    let many : c.inodes_of.result ≡ inodes_at rows i = c.inodes_of.ensures.is ∙ ap (λ (one : ProblemRow). one.inodes) row in
    record {
      size = length-set inodes k v ∙ c.loop-i.invariant.size;
      there = λ p r lp lr.
          cell-more inodes k v c.inodes_of.result p r here c.from.result refl (omega (arith, c.from.ensures, c.number.ensures.small)) lr there value
          ∙ cells-more i (λ j. cond ((slice_index c.args.part.now j == p) && (now_at rows j == r)) (inodes_at rows j) 0) (get_or inodes (p * 64 + r) 0)
          (cond ((here == p) && (c.from.result == r)) c.inodes_of.result 0) (c.loop-i.invariant.there p r lp lr)
          (ap (λ (x : ℕ). cond ((here == p) && (x == r)) c.inodes_of.result 0) now ∙ ap (λ (x : ℕ). cond ((here == p) && (now_at rows i == r)) x 0) many);
      small = λ j l. cell-small inodes k v i c.inodes_of.result j there value (le_of_lt c.inodes_of.ensures.small) (c.loop-i.invariant.small j l);
    }
