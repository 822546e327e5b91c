use Rattle.std.proofs.Common.{◌≡◌, ◌==◌, ℕ, take}
use Rattle.std.specs.List.{list_any}
use Rattle.std.specs.Option.{option_map}
use Rattle.ceph_snapshot.specs.Gathered.{listed_at, path_pin_at, with_unknown}
use Rattle.ceph_snapshot.specs.Sightings.{position_at, account_at}
use Rattle.ceph_snapshot.proofs.snapshot.hold_tops.Given as goal

abbrev pub invariant-loop-top : goal.invariant-loop-top
invariant-loop-top l = record {
  pinned : (i : ℕ) → path_pin_at l.nodes.items i ≡ path_pin_at l.fn.nodes.items i;
  account : (i : ℕ) → account_at l.nodes.items i ≡ account_at l.fn.nodes.items i;
  place : (i : ℕ) → position_at l.nodes.items i ≡ position_at l.fn.nodes.items i;
  listed : (i : ℕ) → listed_at l.nodes.items i ≡ option_map (with_unknown (list_any (λ top. top == i) (take l.top-index l.tops)))
      (listed_at l.fn.nodes.items i);
}
