use Rattle.std.proofs.Common.{◌≡◌, ◌-◌, ◌∙◌, ℕ, List, min, ap, arith}
use Rattle.std.proofs.lemmas.Grind.{common_steps}
use Rattle.ceph_snapshot.specs.declared.directory.Directory.{Directory}
use Rattle.ceph_snapshot.specs.Holding.{most_heat}
use Rattle.ceph_pins.specs.Children.{heat_from}
use Rattle.ceph_pins.proofs.Scatters.{below_more, from, from_all, from_none}
use Rattle.ceph_pins.proofs.children.heats_below.Goals as goal

pub loop-at-init : goal.loop-at-init
loop-at-init c = record {
  size = grind (arith, common_steps);
  sums = λ i l. rw from_none (grind (arith, common_steps));
}

pub loop-at-preserved : goal.loop-at-preserved
loop-at-preserved c =
    let own : c.heat_at-heat.result ≡ heat_from c.args.heats.now c.loop-at.below.items (c.loop-at.at - 1) =
    c.heat_at-heat.ensures ∙ ap (λ (below : List ℕ). heat_from c.args.heats.now below (c.loop-at.at - 1)) c.deref.ensures.value in
    record {
      size = omega arith;
      sums = below_more c.args.directories.now c.args.heats.now c.loop-at.below.items c.add_to_parent.new.sums.items (c.loop-at.at - 1)
          c.loop-at.at c.heat_at-heat.result
          (omega arith) (omega arith) own c.add_to_parent.ensures.parent c.add_to_parent.ensures.others c.loop-at.invariant.sums;
    }

pub returns : goal.returns
returns c =
    let ds : List Directory = c.args.directories.now in
    let below : List ℕ = c.loop-at.below.items in
    record {
      size = c.loop-at.invariant.size;
      sums = λ i l. (let done : c.loop-at.at ≡ 0 = omega arith in
          c.loop-at.invariant.sums i l
          ∙ ap (min most_heat) (ap (λ (k : ℕ). from ds (heat_from c.args.heats.now below) k i) done ∙ from_all ds (heat_from c.args.heats.now below) i));
    }
