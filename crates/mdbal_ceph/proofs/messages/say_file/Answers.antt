use Rattle.std.proofs.Common.{◌++◌, ℕ, List, codes}
use Rattle.mdbal_ceph.proofs.Said.{appends_both}
use Rattle.mdbal_ceph.proofs.messages.say_file.Goals as goal

pub returns : goal.returns
returns g c =
    let said = g.M.Messages.said in
    let reason = c.say_fault.ensures in
    let text : List ℕ = reason.0 in (
      text,
      reason.1,
      appends_both (said c.args.messages.now) (said c.say.new.self) (said c.say_fault.new.messages) (c.args.name.now ++ codes ": ") text c.say.ensures reason.2,
    )
