use Rattle.std.proofs.Common.{None}
use Rattle.mdbal_ceph.proofs.Said.{says_unknown}
use Rattle.mdbal_ceph.proofs.messages.SystemMessagesMessages.say.Goals as goal

pub returns : goal.returns
returns g c = says_unknown None _
