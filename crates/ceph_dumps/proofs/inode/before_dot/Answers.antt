use Rattle.std.proofs.Common.{◌∙◌, ap, sym, arith, take}
use Rattle.std.proofs.Math.Seq.{take-length}
use Rattle.std.proofs.lemmas.Str.Pattern.{split_once_first}
use Rattle.ceph_dumps.proofs.inode.before_dot.Goals as goal

pub returns-in-Some : goal.returns-in-Some
returns-in-Some c =
    let parts = rw c.in-Some.is at (split_once_first 46 c.args.name.now c.split_once.result c.split_once.ensures.cases (omega arith)) in
    parts.1

pub returns-in-None : goal.returns-in-None
returns-in-None c =
    let all = rw c.in-None.is at (split_once_first 46 c.args.name.now c.split_once.result c.split_once.ensures.cases (omega arith)) in
    sym (ap (λ n. take n c.args.name.now) all ∙ take-length c.args.name.now)
