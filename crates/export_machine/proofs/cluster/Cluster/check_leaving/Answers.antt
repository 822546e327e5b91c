use Rattle.std.proofs.Common.{◌<◌, ◌≤◌, length, Some, None, sym, ◌∙◌, subst, arith}
use Rattle.std.proofs.lemmas.List.{take_all}
use Rattle.export_machine.proofs.Counts.{IsLeast, least_start, least_next, least_is, least_none}
use Rattle.export_machine.proofs.cluster.Cluster.check_leaving.Goals as goal

pub loop-dir-init : goal.loop-dir-init
loop-dir-init c = least_start c.args.self.now.world c.args.from

pub loop-dir-preserved : goal.loop-dir-preserved
loop-dir-preserved c =
    let near : c.loop-dir.dir-index < length c.args.dirs.now = omega arith in
    least_next c.args.self.now.world c.args.from c.args.dirs.now c.loop-dir.dir-index c.dir-item.result c.loop-dir.least
    c.least_faulty-least.result near c.dir-item.is c.loop-dir.invariant
    c.least_faulty-least.ensures.free c.least_faulty-least.ensures.faulty

pub returns-in-Some : goal.returns-in-Some
returns-in-Some c =
    let past : length c.args.dirs.now ≤ c.loop-dir.dir-index = omega arith in
    let l : IsLeast c.args.self.now.world c.args.from c.args.dirs.now (Some c.in-Some.dir) =
    subst (λ o. IsLeast c.args.self.now.world c.args.from c.args.dirs.now o) c.in-Some.is
    (subst (λ xs. IsLeast c.args.self.now.world c.args.from xs c.loop-dir.least) (take_all c.loop-dir.dir-index c.args.dirs.now past) c.loop-dir.invariant) in
    c.check_can_leave.ensures ∙ sym (least_is c.args.self.now.world c.args.from c.args.dirs.now c.in-Some.dir c.requires l)

pub returns-in-None : goal.returns-in-None
returns-in-None c =
    let past : length c.args.dirs.now ≤ c.loop-dir.dir-index = omega arith in
    let l : IsLeast c.args.self.now.world c.args.from c.args.dirs.now None =
    subst (λ o. IsLeast c.args.self.now.world c.args.from c.args.dirs.now o) c.in-None.is
    (subst (λ xs. IsLeast c.args.self.now.world c.args.from xs c.loop-dir.least) (take_all c.loop-dir.dir-index c.args.dirs.now past) c.loop-dir.invariant) in
    sym (least_none c.args.self.now.world c.args.from c.args.dirs.now l)
