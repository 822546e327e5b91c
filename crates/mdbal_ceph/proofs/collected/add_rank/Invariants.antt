use Rattle.std.proofs.Common.{[], List}
use Rattle.std.specs.List.{flat_map}
use Rattle.ceph_dumps.specs.declared.loads.FragmentHeat.{FragmentHeat}
use Rattle.ceph_snapshot.specs.Sightings.{seen_in}
use Rattle.mdbal_ceph.specs.Collections.{Adds}
use Rattle.mdbal_ceph.specs.Dumps.{AreSamples}
use Rattle.mdbal_ceph.proofs.collected.add_rank.Given as goal

-- the samples so far are added
abbrev pub invariant-loop-sample : goal.invariant-loop-sample
invariant-loop-sample g l =
    (samples : List (List FragmentHeat))
    × AreSamples (g.F.Folder.reads l.source.files.now) g.D.DumpReader.says l.source.mounted l.source.folder.now l.rank l.sample samples
    × Adds l.initial.gathering l.gathering (flat_map (seen_in l.rank) samples) []
