use Rattle.export_machine.proofs.ExportColumns.{dropped_set}
use Rattle.export_machine.proofs.export_table.ExportTable.set_dropped.Goals as goal

pub returns-then-index-len : goal.returns-then-index-len
returns-then-index-len c = dropped_set c.self.inside.rows c.args.self.now c.self.view_is c.args.export c.index_mut.result.now
    c.index_mut.ensures.value c.args.dropped
