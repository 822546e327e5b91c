use Rattle.std.proofs.Common.{◌∙◌}
use Rattle.export_machine.proofs.Ascending.{found}
use Rattle.export_machine.proofs.searching.is_found.Goals as goal

pub returns : goal.returns
returns c = c.is_ok.ensures.value ∙ found c.args.dirs.now c.args.dir c.binary_search.result c.requires.in_order c.binary_search.ensures.position
