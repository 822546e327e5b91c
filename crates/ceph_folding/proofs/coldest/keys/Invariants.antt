use Rattle.std.proofs.Common.{◌≡◌, Bool}
use Rattle.std.specs.List.{count_by}
use Rattle.mds_types.specs.Sums.{count_below}
use Rattle.ceph_folding.specs.declared.coldest.Key.{Key}
use Rattle.ceph_folding.specs.Keys.{passes}
use Rattle.ceph_folding.proofs.coldest.keys.Given as goal

abbrev pub invariant-loop-at : goal.invariant-loop-at
invariant-loop-at l = (test : Key → Bool) → count_by test l.keys.items ≡ count_below l.at (passes l.heats l.stays test)
