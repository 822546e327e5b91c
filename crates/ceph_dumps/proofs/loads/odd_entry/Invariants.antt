use Rattle.std.proofs.Common.{◌≡◌, All, take, true}
use Rattle.ceph_dumps.specs.Paths.{is_clean_path}
use Rattle.ceph_dumps.proofs.loads.odd_entry.Given as goal

abbrev pub invariant-loop-at : goal.invariant-loop-at
invariant-loop-at l = All (λ fragment. is_clean_path fragment.path.items ≡ true) (take l.at l.fragments)
