use Rattle.std.proofs.Common.{codes}
use Rattle.ceph_dumps.proofs.WordsOver.{nowhere}
use Rattle.ceph_dumps.proofs.bare_words.may_have_words.Goals as goal

pub returns-in-None-find : goal.returns-in-None-find
returns-in-None-find c = λ _. record {
  inf = nowhere c.args.text.now (codes "inf") c.find.result c.find.ensures c.in-None.is;
  nan = nowhere c.args.text.now (codes "nan") c.find-in-None.result c.find-in-None.ensures c.in-None-find.is;
}
