use Rattle.std.proofs.Common.{◌≡◌, ◌∙◌, ◌++◌, ℕ, List, None, Option, ap, arith, length, rules, slice_index_or}
use Rattle.mds_types.specs.Sums.{count_below}
use Rattle.ceph_report.specs.Left.{left_at, left_entry}
use Rattle.ceph_report.specs.Staying.{is_left}
use Rattle.ceph_report.specs.declared.staying.Stay.{Stay}
use Rattle.ceph_report.proofs.Lines.{below_more, below_none, below_same, counted, few_more}
use Rattle.ceph_report.proofs.staying_text.push_left.Goals as goal

pub loop-at-init : goal.loop-at-init
loop-at-init c = record {
  text = below_none (left_at c.args.form c.args.directories.now c.args.stays.now) _;
  count = search rules;
  few = search rules;
}

pub loop-at-preserved : goal.loop-at-preserved
loop-at-preserved c =
    let stays : List (Option Stay) = c.args.stays.now in
    let at : ℕ = c.loop-at.at in
    record {
      text = below_more (left_at c.args.form c.args.directories.now stays) _ _ _ at c.loop-at.invariant.text
          (c.in_ok-count.ensures.text
          ∙ ap (λ (k : ℕ). c.loop-at.text.items ++ left_entry c.args.form c.args.directories.now (slice_index_or stays at None) at k)
          c.loop-at.invariant.count);
      count = counted (is_left stays) at _ c.loop-at.count c.loop-at.invariant.count c.in_ok-count.ensures.count;
      few = few_more (is_left stays at) at _ c.loop-at.count c.loop-at.invariant.few c.in_ok-count.ensures.count;
    }

pub returns : goal.returns
returns c =
    let end : c.loop-at.at ≡ length c.args.stays.now = omega (arith, c.loop-at-test.false, c.loop-at.auto.at-end) in
    record {
      text = below_same (left_at c.args.form c.args.directories.now c.args.stays.now) _ _ c.loop-at.at (length c.args.stays.now) c.loop-at.invariant.text end;
      count = c.loop-at.invariant.count ∙ ap (λ (n : ℕ). count_below n (is_left c.args.stays.now)) end;
    }
