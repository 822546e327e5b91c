use Rattle.std.proofs.Common.{◌∙◌, append_assoc}
use Rattle.std.proofs.lemmas.Result.{on_ok_weaker}
use Rattle.ceph_report.specs.Report.{rank_inodes}
use Rattle.ceph_report.proofs.report.push_rank_inodes.Goals as goal

pub returns : goal.returns
unfolding rank_inodes
returns c = on_ok_weaker c.push_columns-2.result (λ e. e
    ∙ simp (
      append_assoc,
      c.in_ok-push_columns.ensures,
      c.number_at.ensures,
      c.number_at-2.ensures,
      c.deref.ensures.value,
      c.deref-2.ensures.value,
    )) c.push_columns-2.ensures
