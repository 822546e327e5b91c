use Rattle.std.proofs.Common.{◌≡◌, ◌<◌, ℕ, slice_index, true}
use Rattle.ceph_dumps.specs.Balancer.{is_digit}
use Rattle.ceph_dumps.proofs.balancer.digit_count.Given as goal

-- all bytes so far are digits
abbrev pub invariant-loop-at : goal.invariant-loop-at
invariant-loop-at l = (i : ℕ) → i < l.at → is_digit (slice_index l.text i) ≡ true
