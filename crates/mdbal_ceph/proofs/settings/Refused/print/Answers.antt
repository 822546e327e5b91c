use Rattle.std.proofs.Common.{◌++◌, ℕ, List, codes, subst}
use Rattle.std.specs.Io.KnownBytes.{Appends}
use Rattle.mdbal_ceph.proofs.settings.Refused.print.Goals as goal

pub returns-in-Value-clause-said : goal.returns-in-Value-clause-said
returns-in-Value-clause-said g c =
    let said = g.M.Messages.said in
    rw c.in-Value.is
    (subst (λ (text : List ℕ). Appends (said c.args.messages.now) (said c.say.new.self) (codes "mdbal_ceph: " ++ text ++ codes ": see --help\n"))
    c.text-text.ensures c.say.ensures)

pub returns-in-ManyFolders-clause-said : goal.returns-in-ManyFolders-clause-said
returns-in-ManyFolders-clause-said g c = rw c.in-ManyFolders.is c.say-in-ManyFolders.ensures
