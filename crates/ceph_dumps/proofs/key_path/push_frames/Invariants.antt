use Rattle.std.proofs.Common.{◌≡◌, ◌++◌, string_bytes, take}
use Rattle.std.specs.List.{flat_map}
use Rattle.ceph_dumps.specs.KeyPath.{frame_text}
use Rattle.ceph_dumps.proofs.key_path.push_frames.Given as goal

abbrev pub invariant-loop-frame : goal.invariant-loop-frame
invariant-loop-frame l = string_bytes l.path ≡ string_bytes l.initial.path ++ flat_map (frame_text l.text) (take l.frame-index l.frames)
