use Rattle.std.proofs.Common.{◌≡◌, ◌∙◌, ℕ, List, length, min, ap, arith}
use Rattle.ceph_snapshot.specs.declared.directory.Directory.{Directory}
use Rattle.ceph_snapshot.specs.Holding.{most_heat}
use Rattle.ceph_pins.specs.Children.{hot_below}
use Rattle.ceph_pins.proofs.Scatters.{fits}
use Rattle.ceph_pins.proofs.children.hot_children.Goals as goal

pub returns : goal.returns
returns c =
    let ds : List Directory = c.args.directories.now in
    record {
      size = c.loop-at.invariant.size;
      counts = λ i l. (let done : c.loop-at.at ≡ length ds = omega arith in
          c.loop-at.invariant.counts i l
          ∙ (ap (λ (k : ℕ). min most_heat (hot_below ds c.args.heats.now c.args.below.now k i)) done
          ∙ fits ds c.args.heats.now c.args.below.now i (omega arith)));
    }
