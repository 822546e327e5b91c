use Rattle.std.proofs.Common.{ℕ, List, codes}
use Rattle.mdbal_ceph.proofs.Said.{appends_both}
use Rattle.mdbal_ceph.proofs.messages.say_unprinted.Goals as goal

pub returns : goal.returns
returns g c =
    let said = g.M.Messages.said in
    let words = c.say-2.ensures in
    let text : List ℕ = words.0 in (
      text,
      appends_both (said c.args.messages.now) (said c.say.new.self) (said c.say-2.new.self) (codes "standard output: ") text c.say.ensures words.1,
    )
