use Rattle.std.proofs.Common.{◌≡◌, ◌<◌, ℕ, slice_index, true}
use Rattle.ceph_dumps.specs.Complete.{is_word_byte}
use Rattle.ceph_dumps.proofs.file_system.word_length.Given as goal

-- all bytes so far are those of a word
abbrev pub invariant-loop-at : goal.invariant-loop-at
invariant-loop-at l = (i : ℕ) → i < l.at → is_word_byte (slice_index l.text i) ≡ true
