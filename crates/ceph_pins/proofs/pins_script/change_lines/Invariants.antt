use Rattle.std.proofs.Common.{◌≡◌, take}
use Rattle.std.specs.List.{flat_map}
use Rattle.ceph_pins.specs.PinsScript.{change_line, needs_ceph, needs_mount}
use Rattle.ceph_pins.proofs.pins_script.change_lines.Given as goal

-- of the changes so far
abbrev pub invariant-loop-change : goal.invariant-loop-change
invariant-loop-change l = record {
  text : l.text.items ≡ flat_map (change_line l.mounted.mount.now l.mounted.by_ceph l.directories) (take l.change-index l.changes);
  mount : l.need_mount ≡ needs_mount l.mounted.by_ceph l.directories (take l.change-index l.changes);
  ceph : l.need_ceph ≡ needs_ceph l.mounted.by_ceph l.directories (take l.change-index l.changes);
}
