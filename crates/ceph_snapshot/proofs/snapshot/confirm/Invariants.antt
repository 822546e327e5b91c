use Rattle.std.proofs.Common.{◌≡◌, All, take, true}
use Rattle.ceph_snapshot.specs.Authority.{is_true_of}
use Rattle.ceph_snapshot.proofs.snapshot.confirm.Given as goal

abbrev pub invariant-loop-said : goal.invariant-loop-said
invariant-loop-said l = All (λ said. is_true_of l.nodes said ≡ true) (take l.said-index l.hearsay)
