use Rattle.std.proofs.Common.{◌≡◌, ◌+◌, ◌-◌, ◌/◌, ◌<◌, ◌≤◌, List, ℕ, insert, length, get_or, sym, ap, ◌∙◌, arith, rules, subst}
use Rattle.std.proofs.lemmas.List.{get_or_read}
use Rattle.std.proofs.lemmas.List.Edits.{length-insert}
use Rattle.authority_map.specs.Runs.{IsIn, IsIndex, AreRuns, StartsAt}
use Rattle.authority_map.proofs.RunLemmas.{few_runs, index_small}
use Rattle.authority_map.proofs.Cuts.{runs_cut, starts_cut, others_cut, cells_cut, index_cut}
use Rattle.authority_map.proofs.runs.cut.Goals as goal

-- there is room for one run more
spare : (limit : ℕ) (starts cells : List ℕ) (run dir : ℕ) → AreRuns limit starts cells → IsIn starts run dir → get_or starts run 0 < dir
    → dir < limit → length starts + 1 ≤ limit
spare limit starts cells run dir runs inside later below =
    let n = few_runs limit (insert starts (run + 1) dir) (insert cells (run + 1) (get_or cells run 0))
    (runs_cut limit starts cells run dir runs inside later below) in
    omega (arith, length-insert starts (run + 1) dir (omega (arith, inside.there)))

pub unreachable-requires : goal.unreachable-requires
unreachable-requires c =
    let n = spare c.args.limit c.args.runs.now.starts.items c.args.runs.now.cells.items c.args.run c.args.dir c.requires.table.shape
    c.requires.inside c.requires.later c.requires.below in
    let full = c.in_default.ensures.full in
    absurd (omega (arith, full, n, c.args.runs.now.starts.ok))

pub unreachable-requires-in_default-insert : goal.unreachable-requires-in_default-insert
unreachable-requires-in_default-insert c =
    let n = spare c.args.limit c.args.runs.now.starts.items c.args.runs.now.cells.items c.args.run c.args.dir c.requires.table.shape
    c.requires.inside c.requires.later c.requires.below in
    let full = c.in_default-insert.ensures.full in
    absurd (omega (arith, full, n, c.args.runs.now.cells.ok, c.requires.table.shape.sized))

pub returns-clause-starts : goal.returns-clause-starts
returns-clause-starts c =
    let starts = c.args.runs.now.starts.items in
    let cells = c.args.runs.now.cells.items in
    let new : insert starts (c.args.run + 1) c.args.dir ≡ c.insert.new.self.items = sym c.in-Ok.ensures.items in
    subst (λ (l : List ℕ). StartsAt l c.args.dir) new
    (starts_cut c.args.limit starts cells c.args.run c.args.dir c.requires.table.shape c.requires.inside c.requires.later
    c.requires.below)

pub returns-clause-others : goal.returns-clause-others
returns-clause-others c other at =
    let starts = c.args.runs.now.starts.items in
    let cells = c.args.runs.now.cells.items in
    let new : insert starts (c.args.run + 1) c.args.dir ≡ c.insert.new.self.items = sym c.in-Ok.ensures.items in
    subst (λ (l : List ℕ). StartsAt l other) new
    (others_cut c.args.limit starts cells c.args.run c.args.dir c.requires.table.shape c.requires.inside c.requires.later
    c.requires.below other at)

pub returns-clause-cells : goal.returns-clause-cells
returns-clause-cells c cell this has =
    let starts = c.args.runs.now.starts.items in
    let cells = c.args.runs.now.cells.items in
    let read : c.index-cell.result.now ≡ get_or cells c.args.run 0 =
    get_or_read cells c.args.run c.index-cell.result.now (omega (arith, c.requires.inside.there, c.requires.table.shape.sized))
    c.index-cell.ensures 0 in
    let new : insert starts (c.args.run + 1) c.args.dir ≡ c.insert.new.self.items = sym c.in-Ok.ensures.items in
    let more : insert cells (c.args.run + 1) (get_or cells c.args.run 0)
    ≡ c.insert-2.new.self.items = ap (insert cells (c.args.run + 1)) (sym read) ∙ sym c.in-Ok-insert.ensures.items in
    rw (← new, ← more) (cells_cut c.args.limit starts cells c.args.run c.args.dir c.requires.table.shape c.requires.inside c.requires.later
    c.requires.below cell this has)

pub index_one_more-requires : goal.index_one_more-requires
index_one_more-requires c block =
    let small = index_small c.args.limit c.args.runs.now.starts.items c.args.runs.now.cells.items c.args.index.now.items
    c.requires.table.shape c.requires.table.indexed block in
    omega (arith, small, c.ranges.limit)

pub returns-clause-table : goal.returns-clause-table
returns-clause-table c =
    let starts = c.args.runs.now.starts.items in
    let cells = c.args.runs.now.cells.items in
    let read : c.index-cell.result.now ≡ get_or cells c.args.run 0 =
    get_or_read cells c.args.run c.index-cell.result.now (omega (arith, c.requires.inside.there, c.requires.table.shape.sized))
    c.index-cell.ensures 0 in
    let new : insert starts (c.args.run + 1) c.args.dir ≡ c.insert.new.self.items = sym c.in-Ok.ensures.items in
    let more : insert cells (c.args.run + 1) (get_or cells c.args.run 0)
    ≡ c.insert-2.new.self.items = ap (insert cells (c.args.run + 1)) (sym read) ∙ sym c.in-Ok-insert.ensures.items in
    record {
      shape = rw (← new, ← more)
          (runs_cut c.args.limit starts cells c.args.run c.args.dir c.requires.table.shape c.requires.inside c.requires.later
          c.requires.below);
      indexed = subst (λ (l : List ℕ). IsIndex c.args.limit l c.index_one_more.new.index.items) new
          (index_cut c.args.limit starts cells c.args.run c.args.dir c.requires.table.shape c.requires.inside c.requires.later
          c.requires.below c.args.index.now.items c.index_one_more.new.index.items ((c.args.dir + 256 - 1) / 256) (omega arith)
          c.requires.table.indexed c.index_one_more.ensures);
      room = search rules;
    }
