use Rattle.std.proofs.Common.{◌≡◌, ◌<◌, ◌≤◌, ℕ, List, get_or, sym, ap, ◌∙◌, arith, if◌then◌else◌}
use Rattle.std.proofs.lemmas.List.{get_or_read}
use Rattle.authority_map.specs.Operations.{names}
use Rattle.authority_map.specs.Runs.{IsIn, AreStarts, ComeBefore, HasCells, HasFirst}
use Rattle.authority_map.proofs.Listed.{come_on, come_past, listed_cell, unlisted_cell}
use Rattle.authority_map.proofs.rewriting.make_anew.Goals as goal

all_first : (limit : ℕ) (starts cells : List ℕ) (want : ℕ → ℕ) → HasFirst limit starts cells want → HasCells limit starts cells want 0 0
all_first limit starts cells want first = record { each = λ run d h i. first.each run d h i; apart = λ run h a b. first.apart run h }

in_first : (starts : List ℕ) → AreStarts starts → IsIn starts 0 0
in_first starts order = record { there = omega (arith, order.some); from = omega (arith, order.first); until = λ h. omega (arith, order.rising 0 h) }

pub loop-place-init : goal.loop-place-init
loop-place-init c =
    let dirs = c.args.dirs.now in
    let runs = c.requires.table.shape in
    let some : 0 < c.args.limit = omega (arith, runs.below 0 runs.order.some) in
    record {
      some = omega arith;
      within = some;
      listed = c.begin-next.ensures.listed;
      made = c.begin-next.ensures.made;
      cells = λ old has. c.begin-next.ensures.cells (λ d. if names dirs d then c.args.cell else old d)
          (ap (λ (n : ℕ). (if names dirs 0 then c.args.cell else n))
          (sym (get_or_read c.args.runs.now.cells.items 0 c.index.result.now (omega (arith, runs.sized, runs.order.some))
          c.index.ensures 0 ∙ has.each 0 0 some (in_first c.args.runs.now.starts.items runs.order))));
    }

pub keep-requires-clause-order : goal.keep-requires-clause-order
keep-requires-clause-order c =
    let l = c.loop-place in
    let dirs = c.args.dirs.now in
    let here : c.number-dir.result ≡ get_or dirs l.place 0 = c.number-dir.ensures
    ∙ get_or_read dirs l.place c.index-dirs-place.result c.loop-place-test.true c.index-dirs-place.is 0 in
    let below : get_or dirs l.place 0 < c.args.limit = c.requires.inside l.place 0 c.loop-place-test.true in
    (omega (arith, here, l.invariant.listed.after l.place (omega arith) c.loop-place-test.true), omega (arith, here, below))

pub loop-place-preserved : goal.loop-place-preserved
loop-place-preserved c =
    let l = c.loop-place in
    let dirs = c.args.dirs.now in
    let dir = c.number-dir.result in
    let here : dir ≡ get_or dirs l.place 0 = c.number-dir.ensures
    ∙ get_or_read dirs l.place c.index-dirs-place.result c.loop-place-test.true c.index-dirs-place.is 0 in
    let below : get_or dirs l.place 0 < c.args.limit = c.requires.inside l.place 0 c.loop-place-test.true in
    let later : l.done ≤ dir = omega (arith, here, l.invariant.listed.after l.place (omega arith) c.loop-place-test.true) in
    let come : ComeBefore dirs l.place dir = come_on dirs c.requires.rising l.place l.done dir l.invariant.listed later (λ h. omega (arith, here)) in
    record {
      some = omega arith;
      within = omega (arith, here, below);
      listed = come_past dirs c.requires.rising l.place dir come c.loop-place-test.true (sym here);
      made = c.extend.ensures.made;
      cells = λ old has. c.extend.ensures.cells (λ d. if names dirs d then c.args.cell else old d)
          (c.keep.ensures.cells old (λ d. if names dirs d then c.args.cell else old d) has (l.invariant.cells old has)
          (unlisted_cell dirs c.args.cell old l.place l.done dir l.invariant.listed come))
          (listed_cell dirs c.args.cell old l.place dir c.loop-place-test.true (sym here));
    }

pub returns-clause-cells : goal.returns-clause-cells
returns-clause-cells c old has =
    let l = c.loop-place in
    let dirs = c.args.dirs.now in
    let want = λ (d : ℕ). (if names dirs d then c.args.cell else old d) in
    let come : ComeBefore dirs l.place c.args.limit = come_on dirs c.requires.rising l.place l.done c.args.limit l.invariant.listed
    l.invariant.within (λ h. absurd (omega (arith, h, c.loop-place-test.false))) in
    all_first c.args.limit c.keep-2.new.made.starts.items c.keep-2.new.made.cells.items want
    (c.keep-2.ensures.cells old want has (l.invariant.cells old has) (unlisted_cell dirs c.args.cell old l.place l.done c.args.limit l.invariant.listed come))
