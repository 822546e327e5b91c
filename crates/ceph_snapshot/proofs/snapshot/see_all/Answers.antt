use Rattle.std.proofs.Common.{◌≡◌, ℕ, List, arith, refl, slice_get, subst, take, take_all}
use Rattle.std.specs.Option.{option_map}
use Rattle.ceph_snapshot.specs.declared.tree.Node.{Node}
use Rattle.ceph_snapshot.specs.declared.tree.Sighting.{Sighting}
use Rattle.ceph_snapshot.specs.Sightings.{account_at, account_by}
use Rattle.ceph_snapshot.proofs.Sighted.{account_first}
use Rattle.ceph_snapshot.proofs.snapshot.see_all.Goals as goal

pub loop-seen-init : goal.loop-seen-init
loop-seen-init c = record {
  pinned = λ i. refl;
  place = λ i. refl;
  listed = λ i. refl;
  account = account_first c.args.nodes.now.items c.requires;
}

pub returns-clause-account : goal.returns-clause-account
returns-clause-account c =
    let ss : List Sighting = c.args.sightings.now in
    let all : take c.loop-seen.seen-index ss ≡ ss = take_all c.loop-seen.seen-index ss (omega (arith, c.loop-seen-test.false)) in
    subst (λ (those : List Sighting). (i : ℕ) → account_at c.loop-seen.nodes.items i
    ≡ option_map (λ (n : Node). account_by i those n.directory) (slice_get c.args.nodes.now.items i)) all c.loop-seen.invariant.account
