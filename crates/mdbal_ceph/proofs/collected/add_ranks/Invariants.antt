use Rattle.std.proofs.Common.{List}
use Rattle.mdbal_ceph.specs.Collections.{Adds}
use Rattle.mdbal_ceph.specs.Dumps.{AreRankDumps, RankDump, all_seen, ranks_below, root_facts}
use Rattle.mdbal_ceph.proofs.collected.add_ranks.Given as goal

-- the dumps of the ranks so far are added
abbrev pub invariant-loop-number : goal.invariant-loop-number
invariant-loop-number g l =
    (dumps : List RankDump)
    × AreRankDumps (g.F.Folder.reads l.source.files.now) g.D.DumpReader.says l.source.mounted l.source.folder.now l.source.samples
    (ranks_below l.ranks l.number) dumps
    × Adds l.initial.gathering l.gathering (all_seen dumps) (root_facts dumps)
