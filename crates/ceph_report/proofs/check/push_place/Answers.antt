use Rattle.std.proofs.Common.{◌∙◌, append_assoc}
use Rattle.std.proofs.lemmas.Result.{on_ok_weaker}
use Rattle.ceph_report.proofs.check.push_place.Goals as goal

pub returns : goal.returns
returns c = on_ok_weaker c.push_text-2.result (λ e. e
    ∙ simp (append_assoc, c.if-directory.false, c.in_ok-push_number.ensures, c.from.ensures, c.number.ensures.value)) c.push_text-2.ensures
