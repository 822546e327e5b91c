use Rattle.std.proofs.Common.{◌+◌, ◌==◌, if◌then◌else◌}
use Rattle.authority_map.specs.Runs.{IsIn, StartsAt, HasCells}
use Rattle.authority_map.proofs.RunLemmas.{but_first, first_but, cells_written}
use Rattle.authority_map.proofs.runs.write_alone.Goals as goal

pub returns-clause-cells : goal.returns-clause-cells
returns-clause-cells c old has =
    let limit = c.args.limit in
    let dir = c.args.dir in
    let starts = c.split-2.new.runs.starts.items in
    let cells = c.split-2.new.runs.cells.items in
    let run = c.indexed_run_of-alone.result in
    let first = but_first limit c.split.new.runs.starts.items c.split.new.runs.cells.items old dir c.split.ensures.table.shape
    (c.split.ensures.cells old 0 has) in
    let second : HasCells limit starts cells old dir (dir + 1) = c.split-2.ensures.cells old dir first in
    let inside : IsIn starts run dir = rw c.deref.ensures.value at c.indexed_run_of-alone.ensures in
    let here : StartsAt starts dir = c.split-2.ensures.others dir (c.split.ensures.starts c.requires.inside) in
    let written = cells_written limit starts cells run dir c.args.cell c.split-2.ensures.table.shape inside here c.split-2.ensures.starts
    c.requires.inside old second in
    let joined = c.join.ensures.cells (λ d. if d == dir then c.args.cell else old d) dir written in
    c.join-2.ensures.cells (λ d. if d == dir then c.args.cell else old d) 0
    (first_but limit c.join.new.runs.starts.items c.join.new.runs.cells.items (λ d. if d == dir then c.args.cell else old d) dir joined)
