use Rattle.std.proofs.Common.{◌≡◌, ℕ, slice_get, take}
use Rattle.std.specs.Option.{option_map}
use Rattle.ceph_snapshot.specs.Gathered.{listed_at, path_pin_at}
use Rattle.ceph_snapshot.specs.Sightings.{position_at, account_at, account_by}
use Rattle.ceph_snapshot.proofs.snapshot.see_all.Given as goal

abbrev pub invariant-loop-seen : goal.invariant-loop-seen
invariant-loop-seen l = record {
  pinned : (i : ℕ) → path_pin_at l.nodes.items i ≡ path_pin_at l.fn.nodes.items i;
  listed : (i : ℕ) → listed_at l.nodes.items i ≡ listed_at l.fn.nodes.items i;
  place : (i : ℕ) → position_at l.nodes.items i ≡ position_at l.fn.nodes.items i;
  account : (i : ℕ) → account_at l.nodes.items i ≡ option_map (λ n. account_by i (take l.seen-index l.sightings) n.directory) (slice_get l.fn.nodes.items i);
}
