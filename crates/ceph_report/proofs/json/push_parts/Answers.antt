use Rattle.std.proofs.Common.{◌≡◌, arith}
use Rattle.ceph_report.proofs.Lines.{below_none, below_more, below_all}
use Rattle.std.proofs.Common.{length}
use Rattle.ceph_report.specs.Json.{part_list, part_member}
use Rattle.ceph_report.proofs.json.push_parts.Goals as goal

pub loop-at-init : goal.loop-at-init
loop-at-init c = below_none (part_member c.args.ranks.now) _

pub loop-at-preserved : goal.loop-at-preserved
loop-at-preserved c = below_more (part_member c.args.ranks.now) _ _ _ c.loop-at.at c.loop-at.invariant c.in_ok-push_part.ensures

pub returns : goal.returns
unfolding part_list
returns c =
    let end : c.loop-at.at ≡ length c.args.ranks.now = omega (arith, c.loop-at-test.false, c.loop-at.auto.at-end) in
    below_all (part_member c.args.ranks.now) _ _ _ _ c.loop-at.at (length c.args.ranks.now) c.in_ok-push_text.ensures c.loop-at.invariant end
