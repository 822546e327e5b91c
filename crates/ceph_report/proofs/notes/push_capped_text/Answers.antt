use Rattle.std.proofs.Common.{◌∙◌, append_assoc}
use Rattle.std.proofs.lemmas.Result.{on_ok_weaker}
use Rattle.ceph_report.specs.Report.{capped_text}
use Rattle.ceph_report.proofs.notes.push_capped_text.Goals as goal

pub returns : goal.returns
unfolding capped_text
returns c = on_ok_weaker c.push_place.result (λ e. e ∙ simp (append_assoc, c.in_ok-push_text.ensures, c.in_ok-push_heat.ensures)) c.push_place.ensures
