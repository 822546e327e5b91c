use Rattle.std.proofs.Common.{◌≡◌, ◌∙◌, ◌++◌, ℕ, ap, arith, rules}
use Rattle.ceph_report.specs.Json.{rank_entry, rank_list, rank_member}
use Rattle.ceph_report.specs.Told.{is_told}
use Rattle.ceph_report.proofs.Lines.{below_all, below_more, below_none, counted, few_more}
use Rattle.ceph_report.proofs.json.push_ranks.Goals as goal

pub loop-number-init : goal.loop-number-init
loop-number-init c = record {
  text = below_none (rank_member c.args.facts.now) _;
  count = search rules;
  few = search rules;
}

pub loop-number-preserved : goal.loop-number-preserved
loop-number-preserved c =
    let facts = c.args.facts.now in
    let number : ℕ = c.loop-number.number in
    record {
      text = below_more (rank_member facts) _ _ _ number c.loop-number.invariant.text
          (c.in_ok-count.ensures.member ∙ ap (λ (k : ℕ). c.loop-number.text.items ++ rank_entry facts number k) c.loop-number.invariant.count);
      count = counted (is_told facts) number _ c.loop-number.count c.loop-number.invariant.count c.in_ok-count.ensures.count;
      few = few_more (is_told facts number) number _ c.loop-number.count c.loop-number.invariant.few c.in_ok-count.ensures.count;
    }

pub returns : goal.returns
unfolding rank_list
returns c =
    let end : c.loop-number.number ≡ 64 = omega (arith, c.loop-number-test.false, c.loop-number.auto.number-end) in
    below_all (rank_member c.args.facts.now) _ _ _ _ c.loop-number.number 64 c.in_ok-push_text.ensures c.loop-number.invariant.text end
