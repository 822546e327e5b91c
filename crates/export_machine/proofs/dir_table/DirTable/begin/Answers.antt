use Rattle.std.proofs.Common.{◌+◌}
use Rattle.export_machine.proofs.Columns.{running_written}
use Rattle.export_machine.proofs.dir_table.DirTable.begin.Goals as goal

pub returns : goal.returns
returns c = running_written c.self.inside.rows c.args.self.now c.self.view_is c.number.result c.args.dir c.number.ensures
    c.index_mut.result.now c.index_mut.ensures.value (λ n. n + 1) c.requires.near
