use Rattle.std.proofs.Common.{◌<◌, List, arith, length}
use Rattle.clap.specs.Words.{app_of}
use Rattle.mdbal_ceph.specs.declared.arguments.PlanOption.{PlanOption}
use Rattle.mdbal_ceph.proofs.Simple.{one_more}
use Rattle.mdbal_ceph.proofs.arguments.with_options.Goals as goal

pub loop-at-preserved : goal.loop-at-preserved
loop-at-preserved c =
    let options : List PlanOption = c.args.options.now in
    let inside : c.loop-at.at < length options = omega (arith, c.loop-at-test.true) in
    one_more options (app_of c.args.command) (app_of c.loop-at.command) (app_of c.in_ok-command.command) c.loop-at.at _ inside
    c.in_ok-command.ensures c.loop-at.invariant
