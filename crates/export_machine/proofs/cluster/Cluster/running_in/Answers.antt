use Rattle.std.proofs.Common.{◌≡◌, ◌<◌, ◌≤◌, false, length, sym, ap, ◌∙◌, arith}
use Rattle.std.proofs.lemmas.List.{take_all}
use Rattle.std.proofs.lemmas.Bool.{false_from_ne_true}
use Rattle.export_protocol.specs.Step.{repeats}
use Rattle.export_machine.proofs.Counts.{running_none, running_next}
use Rattle.export_machine.proofs.cluster.Cluster.running_in.Goals as goal

pub loop-dir-init : goal.loop-dir-init
loop-dir-init c = sym (running_none c.args.self.now.world)

pub loop-dir-preserved : goal.loop-dir-preserved
loop-dir-preserved c =
    let near : c.loop-dir.dir-index < length c.dirs-dirs.result.now = omega arith in
    let distinct : repeats c.dirs-dirs.result.now ≡ false =
    false_from_ne_true (repeats c.dirs-dirs.result.now)
    (λ h. c.self.invariant.distinct c.args.export (sym (ap repeats c.dirs-dirs.ensures) ∙ h)) in
    running_next c.args.self.now.world c.dirs-dirs.result.now c.loop-dir.dir-index c.dir-item.result c.loop-dir.requests
    c.running_on-requests.result near c.dir-item.is distinct c.loop-dir.invariant
    c.running_on-requests.ensures

pub returns : goal.returns
returns c =
    let past : length c.dirs-dirs.result.now ≤ c.loop-dir.dir-index = omega arith in
    c.loop-dir.invariant ∙ rw (take_all c.loop-dir.dir-index c.dirs-dirs.result.now past, c.dirs-dirs.ensures, ← c.self.view_is)
