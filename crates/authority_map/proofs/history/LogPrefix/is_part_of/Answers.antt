use Rattle.std.proofs.Common.{ap, length, ◌∙◌}
use Rattle.authority_map.proofs.HistoryLemmas.{lengths_decide}
use Rattle.authority_map.proofs.history.LogPrefix.is_part_of.Goals as goal

pub returns : goal.returns
returns g c =
    let both = c.beside-whole.ensures in
    lengths_decide c.args.self.now c.args.other.now c.beside-whole.result.log c.self.inside.count c.other.inside.count both.mine both.theirs
    (c.self.invariant.0 ∙ ap length c.self.view_is) (c.other.invariant.0 ∙ ap length c.other.view_is)
