use Rattle.std.proofs.Common.{◌∙◌, append_assoc}
use Rattle.std.proofs.lemmas.Result.{on_ok_weaker}
use Rattle.ceph_report.specs.Hours.{hour_name}
use Rattle.ceph_report.proofs.hours.push_name.Goals as goal

pub returns : goal.returns
unfolding hour_name
returns c = on_ok_weaker c.push_text-2.result (λ e. e
    ∙ simp (append_assoc, c.in_ok-push_path.ensures, c.in_ok-push_text.ensures, c.before_name.ensures, c.deref.ensures.value))
    c.push_text-2.ensures
