use Rattle.std.proofs.Common.{◌≡◌, ◌∙◌, ◌<◌, ◌+◌, ℕ, Bool, List, ap, arith, get_or, length, length-set, refl, set, sym}
use Rattle.std.proofs.lemmas.List.{get_or_read}
use Rattle.mds_types.specs.declared.problem.ProblemRow.{ProblemRow}
use Rattle.mds_types.specs.Problem.{no_row, row_at}
use Rattle.mds_types.proofs.SumsLemmas.{count_below-le}
use Rattle.ceph_plan.specs.MadeHours.{is_free_child}
use Rattle.ceph_plan.proofs.Making.{counted-more, counted-same}
use Rattle.ceph_plan.proofs.PackedParts.{read-value}
use Rattle.ceph_plan.proofs.made.counts.Goals as goal
use Rattle.ceph_plan.proofs.made.counts.Goals.{then-free-i, else-free-i}

pub overflow_add-index_mut : goal.overflow_add-index_mut
overflow_add-index_mut c =
    let rows : List ProblemRow = c.args.rows.now in
    let counts : List ℕ = c.loop-i.counts.items in
    let i : ℕ = c.loop-i.i in
    let p : ℕ = c.index-rows-i.result.parent in
    let row : c.index-rows-i.result ≡ row_at rows i = get_or_read rows i c.index-rows-i.result c.loop-i-test.true c.index-rows-i.is no_row in
    let inside : p < length rows = omega (
      arith,
      ap (λ (one : ProblemRow). one.parent) row,
      c.requires.forest.above i (omega (arith, c.loop-i.auto.i)) c.loop-i-test.true,
      c.loop-i-test.true,
    ) in
    let read : c.index_mut.result.now ≡ get_or counts p 0 =
    read-value counts counts p c.index_mut.result.now refl (omega (arith, inside, c.loop-i.invariant.size))
    (c.index_mut.ensures.value ∙ ap (λ (one : ProblemRow). get_or counts one.parent c.index_mut.result.now) (sym c.index-rows-i.is)) in
    omega (arith, read, c.loop-i.invariant.each p inside, count_below-le i (is_free_child rows c.args.free.now p), c.loop-i-test.true, c.requires.forest.few)

pub loop-i-preserved : goal.loop-i-preserved
loop-i-preserved c =
    let rows : List ProblemRow = c.args.rows.now in
    let free : List Bool = c.args.free.now in
    let counts : List ℕ = c.loop-i.counts.items in
    let i : ℕ = c.loop-i.i in
    let deep : 0 < i = omega (arith, c.loop-i.auto.i) in
    elim c.if-free-i.branch [
      | then-free-i w ↦
          let p : ℕ = w.index-rows-i.result.parent in
          let v : ℕ = w.index_mut.result.now + 1 in
          let row : w.index-rows-i.result ≡ row_at rows i = get_or_read rows i w.index-rows-i.result c.loop-i-test.true w.index-rows-i.is no_row in
          let up = ap (λ (one : ProblemRow). one.parent) row in
          let inside : p < length rows = omega (arith, up, c.requires.forest.above i deep c.loop-i-test.true, c.loop-i-test.true) in
          let there : p < length counts = omega (arith, inside, c.loop-i.invariant.size) in
          let read : w.index_mut.result.now ≡ get_or counts p 0 =
          read-value counts counts p w.index_mut.result.now refl there
          (w.index_mut.ensures.value ∙ ap (λ (one : ProblemRow). get_or counts one.parent w.index_mut.result.now) (sym w.index-rows-i.is)) in
          let set_is : c.if-free-i.counts.items ≡ set counts p v =
          rw w.counts-is (ap (λ (one : ProblemRow). set counts one.parent v) (sym w.index-rows-i.is)) in
          record {
            size = ap length set_is ∙ (length-set counts p v ∙ c.loop-i.invariant.size);
            each = counted-more rows free counts c.if-free-i.counts.items i p v set_is (ap (λ (x : ℕ). x + 1) read) up there deep
                w.if-free-i.true c.loop-i.invariant.each;
          }
      | else-free-i w ↦ record {
        size = rw w.counts-is c.loop-i.invariant.size;
        each = counted-same rows free counts c.if-free-i.counts.items i (rw w.counts-is refl) w.if-free-i.false c.loop-i.invariant.each;
      }
    ]
