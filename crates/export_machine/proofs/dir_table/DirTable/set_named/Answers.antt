use Rattle.std.proofs.Common.{Some}
use Rattle.export_machine.proofs.Columns.{named_set}
use Rattle.export_machine.proofs.dir_table.DirTable.set_named.Goals as goal

pub returns : goal.returns
returns c = named_set c.self.inside.rows c.args.self.now c.self.view_is c.number.result c.args.dir c.number.ensures c.index_mut.result.now
    c.index_mut.ensures.value (Some c.args.rank)
