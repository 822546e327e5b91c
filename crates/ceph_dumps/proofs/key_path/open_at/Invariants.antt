use Rattle.std.proofs.Common.{◌≡◌}
use Rattle.ceph_dumps.specs.KeyPath.{open_at, quoting_at, word_of}
use Rattle.ceph_dumps.proofs.key_path.open_at.Given as goal

abbrev pub invariant-loop-at : goal.invariant-loop-at
invariant-loop-at l = record {
  place : l.place ≡ quoting_at l.text l.at;
  word : l.word ≡ word_of l.text l.at;
  frames : l.frames.items ≡ open_at l.text l.at;
}
