use Rattle.std.proofs.Common.{◌<◌, arith, length}
use Rattle.script_board.proofs.DealingLemmas.{script_grown}
use Rattle.script_board.proofs.dealing.Dealt.add.Goals as goal

pub returns-clause-scripts : goal.returns-clause-scripts
returns-clause-scripts c =
    let long = c.args.self.now.scripts.ok.0 in
    let inside : c.args.rank < length c.args.self.now.scripts.items = omega (arith, c.requires.inside, long) in
    script_grown c.args.self.now.scripts.items c.args.rank c.index_mut-script.result.now c.push.new.self _ inside
    c.index_mut-script.ensures.value c.in_ok-push.ensures.items
