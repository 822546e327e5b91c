use Rattle.std.proofs.Common.{◌≡◌, get_or, arith}
use Rattle.std.proofs.lemmas.List.{get_or_read}
use Rattle.authority_map.specs.Runs.{IsIn}
use Rattle.authority_map.proofs.RunLemmas.{starts_there}
use Rattle.authority_map.proofs.runs.split.Goals as goal

pub returns-else-index-dir-clause-starts : goal.returns-else-index-dir-clause-starts
returns-else-index-dir-clause-starts c below =
    let starts = c.args.runs.now.starts.items in
    let run = c.indexed_run_of-run.result in
    let inside : IsIn starts run c.args.dir = rw c.deref.ensures.value at c.indexed_run_of-run.ensures in
    let read : c.index.result.now ≡ get_or starts run 0 = get_or_read starts run c.index.result.now inside.there c.index.ensures 0 in
    starts_there c.args.limit starts c.args.runs.now.cells.items run c.args.dir c.requires.table.shape inside
    (omega (arith, inside.from, c.if-index-dir.false, read))
