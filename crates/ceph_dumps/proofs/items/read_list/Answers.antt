use Rattle.std.proofs.Common.{◌∙◌, arith}
use Rattle.std.proofs.lemmas.Result.{IfErr-weaker, IfOk-weaker}
use Rattle.ceph_dumps.proofs.Saying.{list_opened, no_list}
use Rattle.ceph_dumps.proofs.items.read_list.Goals as goal

pub returns-then-open_list-clause-is : goal.returns-then-open_list-clause-is
returns-then-open_list-clause-is g c =
    let opened = list_opened g.T.Item.said c.args.depth c.args.reader.now c.open_list.new.reader (omega arith) (grind arith) in
    IfOk-weaker c.read_items.result _ _ (λ found is. opened ∙ is) c.read_items.ensures.is

pub returns-then-open_list-clause-none : goal.returns-then-open_list-clause-none
returns-then-open_list-clause-none g c =
    let opened = list_opened g.T.Item.said c.args.depth c.args.reader.now c.open_list.new.reader (omega arith) (grind arith) in
    IfErr-weaker c.read_items.result _ _ (λ error none other. opened ∙ none other) c.read_items.ensures.none

pub returns-else-open_list-clause-none : goal.returns-else-open_list-clause-none
returns-else-open_list-clause-none g c = λ _. no_list g.T.Item.said c.args.depth c.args.reader.now (grind arith)
