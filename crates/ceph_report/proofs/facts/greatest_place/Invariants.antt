use Rattle.std.proofs.Common.{◌≡◌, slice_index}
use Rattle.ceph_report.specs.Told.{top_below}
use Rattle.ceph_report.proofs.facts.greatest_place.Given as goal

abbrev pub invariant-loop-at : goal.invariant-loop-at
invariant-loop-at l = l.greatest ≡ top_below (slice_index l.numbers) l.at
