use Rattle.std.proofs.Common.{◌≡◌, ◌≤◌, ◌*◌, take}
use Rattle.script_session.specs.Move.{all_inodes}
use Rattle.script_session.proofs.moved.all_inodes.Given as goal

-- the inodes of the directories so far
abbrev pub invariant-loop-dir : goal.invariant-loop-dir
invariant-loop-dir l = record {
  sum : l.sum ≡ all_inodes l.tree.entries (take l.dir-index l.dirs);
  small : l.sum ≤ l.dir-index * 4294967296;
}
