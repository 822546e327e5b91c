use Rattle.std.proofs.Common.{◌-◌}
use Rattle.export_machine.proofs.Columns.{children_written}
use Rattle.export_machine.proofs.dir_table.DirTable.take_child.Goals as goal

pub returns : goal.returns
returns c = children_written c.self.inside.rows c.args.self.now c.self.view_is c.number.result c.args.dir c.number.ensures
    c.index_mut.result.now c.index_mut.ensures.value (λ n. n - 1) c.requires.near
