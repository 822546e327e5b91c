use Rattle.std.proofs.Common.{◌≡◌, ◌∙◌, Some, None, refl, get_or}
use Rattle.dirtree.proofs.Names.{entries_set, placed, read_at}
use Rattle.dirtree.proofs.node.count_child.Goals as goal

pub returns-in-Some-clause-entries : goal.returns-in-Some-clause-entries
returns-in-Some-clause-entries c =
    let was : get_or c.args.nodes.now.items c.args.dir None
    ≡ Some c.in-Some.node = read_at c.args.nodes.now.items c.args.dir c.index_mut.result.now
    (placed c.args.nodes.now.items c.args.dir c.requires.there) c.index_mut.ensures.value ∙ c.in-Some.is in
    entries_set c.args.nodes.now.items c.args.dir _ c.in-Some.node was refl
