use Rattle.std.proofs.Common.{◌≡◌, map}
use Rattle.ceph_snapshot.specs.Doubts.{numbers_with, with_listed}
use Rattle.ceph_snapshot.specs.Gathered.{listed_of, numbers_of, path_pin, whose_pin, with_owner}
use Rattle.ceph_snapshot.specs.Sightings.{mean_account, position_of, account_of}
use Rattle.ceph_snapshot.proofs.snapshot.all_finished.Given as goal

abbrev pub invariant-loop-node : goal.invariant-loop-node
invariant-loop-node l = record {
  owner : map whose_pin l.directories.items ≡ map (λ n. with_owner l.own l.ranks (path_pin n)) l.yielded;
  account : map account_of l.directories.items ≡ map (λ n. with_listed n.listed (mean_account l.samples (account_of n.directory))) l.yielded;
  numbers : map numbers_of l.directories.items ≡ map (numbers_with l.is_numbered) l.yielded;
  listed : map listed_of l.directories.items ≡ map (λ n. listed_of n.directory) l.yielded;
  place : map position_of l.directories.items ≡ map (λ n. position_of n.directory) l.yielded;
}
