use Rattle.std.proofs.Common.{◌∙◌, append_assoc}
use Rattle.std.proofs.lemmas.Result.{on_ok_weaker}
use Rattle.ceph_report.specs.Spreading.{spread_text}
use Rattle.ceph_report.proofs.spreading.push_spread.Goals as goal

pub returns : goal.returns
unfolding spread_text
returns c = on_ok_weaker c.push_hundredths.result (λ e. e
    ∙ simp (append_assoc, c.in_ok-push_number.ensures, c.spread_share.ensures, c.from.ensures)) c.push_hundredths.ensures
