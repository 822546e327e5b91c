use Rattle.std.proofs.Common.{Some}
use Rattle.export_machine.proofs.Columns.{owner_set}
use Rattle.export_machine.proofs.dir_table.DirTable.set_owner.Goals as goal

pub returns : goal.returns
returns c = owner_set c.self.inside.rows c.args.self.now c.self.view_is c.number.result c.args.dir c.number.ensures c.index_mut.result.now
    c.index_mut.ensures.value (Some c.args.rank)
