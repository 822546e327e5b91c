use Rattle.export_machine.proofs.Columns.{gone}
use Rattle.export_machine.proofs.dir_table.DirTable.remove.Goals as goal

pub returns : goal.returns
returns c = gone c.self.inside.rows c.args.self.now c.self.view_is c.number.result c.args.dir c.number.ensures c.index_mut-row.result.now
    c.index_mut-row.ensures.value
