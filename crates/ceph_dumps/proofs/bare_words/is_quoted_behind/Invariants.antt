use Rattle.std.proofs.Common.{◌≡◌, take}
use Rattle.ceph_dumps.specs.DumpText.{HasNoBackslash, place_behind, quoting}
use Rattle.ceph_dumps.proofs.bare_words.is_quoted_behind.Given as goal

abbrev pub invariant-loop-byte : goal.invariant-loop-byte
invariant-loop-byte l =
    HasNoBackslash l.text → place_behind (quoting l.is_first_quoted) (take l.byte-index l.text) ≡ quoting l.is_quoted
