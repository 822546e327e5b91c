use Rattle.std.proofs.Common.{◌+◌, ◌/◌, get_or, refl}
use Rattle.authority_map.proofs.RunLemmas.{among_blocks}
use Rattle.authority_map.proofs.runs.indexed_run_of.Goals as goal

pub overflow_sub-last : goal.overflow_sub-last
overflow_sub-last c =
    let index = c.args.index.now in
    let block = c.args.dir / 256 in
    (among_blocks c.args.limit c.args.starts.now index c.args.dir (get_or index block 0) (get_or index (block + 1) 0) c.requires.order
    c.requires.index c.requires.inside refl refl).0

pub halve-requires-clause-among : goal.halve-requires-clause-among
halve-requires-clause-among c =
    let index = c.args.index.now in
    let block = c.args.dir / 256 in
    (among_blocks c.args.limit c.args.starts.now index c.args.dir (get_or index block 0) (get_or index (block + 1) 0) c.requires.order
    c.requires.index c.requires.inside refl refl).1
