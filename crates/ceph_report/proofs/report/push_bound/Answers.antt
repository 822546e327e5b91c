use Rattle.std.proofs.Common.{◌∙◌, append_assoc}
use Rattle.std.proofs.lemmas.Result.{on_ok_weaker}
use Rattle.ceph_report.specs.Report.{bound_lines}
use Rattle.ceph_report.proofs.report.push_bound.Goals as goal

pub returns : goal.returns
unfolding bound_lines
returns c = on_ok_weaker c.push_ratio.result (λ e. e
    ∙ simp (
      append_assoc,
      c.in_ok-push_text-2.ensures,
      c.in_ok-push_text.ensures,
      c.in_ok-push_heat.ensures,
      c.term_text.ensures,
      c.bound_term.ensures,
      c.per_mille_above-above.ensures,
      c.saturating_sub.ensures,
      c.hottest_planned-planned.ensures,
      c.hottest_bound-bound.ensures,
    )) c.push_ratio.ensures
