use Rattle.std.proofs.Common.{map, take}
use Rattle.mdbal_ceph.specs.Past.{AreEarlier}
use Rattle.mdbal_ceph.proofs.past.read_past.Given as goal

abbrev pub invariant-loop-at : goal.invariant-loop-at
invariant-loop-at g l =
    AreEarlier (g.F.Folder.reads l.inputs.files.now) g.D.DumpReader.says (map (λ name. name.now) (take l.at l.names)) l.found.items
