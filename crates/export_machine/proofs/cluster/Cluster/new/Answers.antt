use Rattle.export_machine.proofs.Starts.{start_kept}
use Rattle.export_machine.proofs.cluster.Cluster.new.Goals as goal

pub invariant_of-result : goal.invariant_of-result
invariant_of-result c = start_kept c.in_ok-records.records c.args.limit c.args.ranks c.requires.some_dirs c.requires.few_dirs
    c.requires.some_ranks c.requires.few_ranks c.in_ok-records.ensures.world c.in_ok-records.ensures.indexes
