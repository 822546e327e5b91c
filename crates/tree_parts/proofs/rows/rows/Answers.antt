use Rattle.std.proofs.Common.{◌≡◌, ◌<◌, ◌≤◌, ◌^◌, ◌+◌, ◌∙◌, ℕ, List, Option, Bool, true, false}
use Rattle.std.proofs.Common.{refl, ap, sym, arith, length, length-append, length-set, set, append-nil, [], ◌∷◌}
use Rattle.std.proofs.lemmas.List.{length-map}
use Rattle.std.specs.Prelude.{filter, slice_index, slice_index_or}
use Rattle.std.proofs.lemmas.List.Elements.{All-push}
use Rattle.mds_types.specs.declared.problem.ProblemRow.{ProblemRow}
use Rattle.dirtree.specs.Tree.{Entry, parent_of}
use Rattle.dir_pins.specs.Pins.{below, is_unpinned, unpinned}
use Rattle.dir_pins.proofs.NearestPin.{below_more, known_more}
use Rattle.tree_parts.specs.ProblemRows.{place_of, problem_rows, row_of}
use Rattle.tree_parts.proofs.Places.{place}
use Rattle.tree_parts.proofs.RowsSoFar.{forest, map_one, map_same, parent_low, row_read, set_more}
use Rattle.tree_parts.proofs.rows.rows.Goals as goal
use Rattle.tree_parts.proofs.rows.rows.Goals.{then-is_free+in_ok-push+in_ok-push-2, else-is_free}

pub loop-number-preserved : goal.loop-number-preserved
loop-number-preserved c =
    let es : List (Option Entry) = c.args.tree.now.entries in
    let own : List (Option ℕ) = c.args.pins.now.own in
    let heats : List ℕ = c.args.heat.now.heats in
    let now : List ℕ = c.args.now.now in
    let n : ℕ = c.loop-number.number in
    let test : ℕ → Bool = is_unpinned es own in
    let of : ℕ → ProblemRow = row_of es heats now (unpinned es own) in
    let inside : n < length es = omega (arith, c.loop-number-test.true, c.numbers-number-end.ensures.value) in
    let within : n < length c.loop-number.known.items = omega (arith, inside, c.loop-number.invariant.marks) in
    let at_places : n < length c.loop-number.places.items = omega (arith, inside, c.loop-number.invariant.size) in
    let marked : c.is_unpinned-is_free.result ≡ test n = c.is_unpinned-is_free.ensures ∙ rw c.new-dir.ensures refl in
    let known : (d : ℕ) → d < n + 1 → slice_index_or (set c.loop-number.known.items n c.is_unpinned-is_free.result) d false
    ≡ test d = known_more c.loop-number.known.items test n c.is_unpinned-is_free.result within marked c.loop-number.invariant.known in
    let long : length c.loop-number.rows.items ≡ length (filter test (below n)) = ap length c.loop-number.invariant.rows
    ∙ length-map (filter test (below n)) of in
    let listed : c.len.result ≡ length c.loop-number.rows.items = omega (arith, c.len.ensures, c.loop-number.rows.ok) in
    let here : c.len.result ≡ place_of (unpinned es own) n = listed ∙ long ∙ sym (place test (length es) n (omega (arith, inside))) in
    let placed : (d : ℕ) → d < n + 1 → slice_index (set c.loop-number.places.items n c.len.result) d
    ≡ place_of (unpinned es own) d = set_more c.loop-number.places.items (place_of (unpinned es own)) n c.len.result at_places here
    c.loop-number.invariant.places in
    elim c.if-is_free.branch [
      | then-is_free+in_ok-push+in_ok-push-2 w ↦
          let is : test n ≡ true = sym marked ∙ w.if-is_free.true in
          let at : c.new-dir.result ≡ n = c.new-dir.ensures in
          let parent : slice_index w.deref-then-is_free.result.now (parent_of es n)
          ≡ place_of (unpinned es own) (parent_of es n) = rw w.deref-then-is_free.ensures.value
          (placed (parent_of es n) (omega (arith, parent_low es c.numbers-number-end.ensures.tree n))) in
          let row : w.row.result ≡ of n = w.row.ensures.row
          ∙ (rw at (row_read es heats now (unpinned es own) n (slice_index w.deref-then-is_free.result.now (parent_of es n)) parent)) in
          rw (w.rows-is, w.dirs-is, w.in_ok-push.ensures.items, w.in_ok-push-2.ensures.items) (record {
            end = omega (arith, inside);
            size = simp length-set c.loop-number.invariant.size;
            marks = simp length-set c.loop-number.invariant.marks;
            known = known;
            few = omega (arith, length-append c.loop-number.rows.items (w.row.result ∷ []), c.loop-number.invariant.few);
            places = placed;
            dirs = rw (c.loop-number.invariant.dirs, at, below_more test n, is) refl;
            rows = rw (c.loop-number.invariant.rows, row) (sym (map_one of test n is));
            cool = All-push (λ row. row.heat ≤ 2 ^ 40) c.loop-number.rows.items w.row.result c.loop-number.invariant.cool w.row.ensures.cool;
          })
      | else-is_free w ↦
          let is : test n ≡ false = sym marked ∙ w.if-is_free.false in
          rw (w.rows-is, w.dirs-is) (record {
            end = omega (arith, inside);
            size = simp length-set c.loop-number.invariant.size;
            marks = simp length-set c.loop-number.invariant.marks;
            known = known;
            few = omega (arith, c.loop-number.invariant.few);
            places = placed;
            dirs = c.loop-number.invariant.dirs ∙ (rw (below_more test n, is) (sym (append-nil (filter test (below n)))));
            rows = c.loop-number.invariant.rows ∙ sym (map_same of test n is);
            cool = c.loop-number.invariant.cool;
          })
    ]

pub returns-clause-rows : goal.returns-clause-rows
returns-clause-rows c =
    let last : c.loop-number.number ≡ length c.args.tree.now.entries =
    omega (arith, c.loop-number-test.false, c.numbers-number-end.ensures.value, c.loop-number.invariant.end) in
    rw last at c.loop-number.invariant.rows

pub returns-clause-dirs : goal.returns-clause-dirs
returns-clause-dirs c =
    let last : c.loop-number.number ≡ length c.args.tree.now.entries =
    omega (arith, c.loop-number-test.false, c.numbers-number-end.ensures.value, c.loop-number.invariant.end) in
    rw last at c.loop-number.invariant.dirs

pub returns-clause-forest : goal.returns-clause-forest
returns-clause-forest c =
    let es : List (Option Entry) = c.args.tree.now.entries in
    let last : c.loop-number.number ≡ length es = omega (arith, c.loop-number-test.false, c.numbers-number-end.ensures.value, c.loop-number.invariant.end) in
    let rows : c.loop-number.rows.items ≡ problem_rows es c.args.pins.now.own c.args.heat.now.heats c.args.now.now = rw last at c.loop-number.invariant.rows in
    rw rows (forest es c.args.pins.now.own c.args.heat.now.heats c.args.now.now c.numbers-number-end.ensures.tree
    (omega (arith, c.numbers-number-end.ensures.value, c.numbers-number-end.ensures.within, c.numbers-number-end.ensures.small))
    (rw rows at c.loop-number.invariant.cool))
