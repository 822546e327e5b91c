use Rattle.std.proofs.Common.{◌==◌, not, rules, tests}
use Rattle.std.proofs.lemmas.Iterator.Adapters.{YieldsList-from_skip}
use Rattle.std.proofs.lemmas.Iterator.Consumers.{YieldsList-at}
use Rattle.std.proofs.lemmas.Iterator.Search.{all_from_yields_List}
use Rattle.std.proofs.lemmas.Iterator.Splits.{YieldsList-from_slice_split}
use Rattle.ceph_dumps.specs.Paths.{is_odd_name}
use Rattle.ceph_dumps.proofs.paths.is_clean_path.Goals as goal

pub returns : goal.returns
returns c =
    all_from_yields_List (λ name. not (is_odd_name name)) _ _ _ c.all.ensures.ran
    (YieldsList-from_skip 1
    (YieldsList-at c.skip.ensures.source
    (YieldsList-from_slice_split _ (λ byte. byte == 47) c.args.path.now c.split.ensures.rest c.split.ensures.done
    c.split.ensures.closure (λ x r q k. search (rules, tests))))
    c.skip.ensures.count)
    (λ x r q k. search (rules, tests))
