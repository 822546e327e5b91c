use Rattle.std.proofs.Common.{◌++◌, ℕ, List, codes}
use Rattle.mdbal_ceph.proofs.Said.{appends_both}
use Rattle.mdbal_ceph.proofs.messages.explain.Goals as goal

pub returns : goal.returns
returns g c =
    let said = g.M.Messages.said in
    let cause = c.say_cause.ensures in
    let text : List ℕ = cause.0 in (
      text,
      cause.1,
      appends_both (said c.args.messages.now) (said c.say.new.self) (said c.say-2.new.self) (codes "mdbal_ceph: ") (text ++ codes "\n") c.say.ensures
          (appends_both (said c.say.new.self) (said c.say_cause.new.messages) (said c.say-2.new.self) text (codes "\n") cause.2 c.say-2.ensures),
    )
