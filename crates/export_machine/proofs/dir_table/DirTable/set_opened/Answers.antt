use Rattle.export_machine.proofs.Columns.{opened_set}
use Rattle.export_machine.proofs.dir_table.DirTable.set_opened.Goals as goal

pub returns : goal.returns
returns c = opened_set c.self.inside.rows c.args.self.now c.self.view_is c.number.result c.args.dir c.number.ensures c.index_mut.result.now
    c.index_mut.ensures.value c.args.export
