use Rattle.std.proofs.Common.{◌≡◌, ap, length, sym, ◌∙◌, rules}
use Rattle.authority_map.proofs.HistoryLemmas.{same_length_same}
use Rattle.authority_map.proofs.history.LogPrefix.is_same.Goals as goal

pub returns-clause-same : goal.returns-clause-same
returns-clause-same g c equal =
    let both = c.beside-whole.ensures in
    let counts : c.self.inside.count ≡ c.other.inside.count = search rules in
    same_length_same c.args.self.now c.args.other.now c.beside-whole.result.log both.mine both.theirs
    (sym (ap length c.self.view_is) ∙ sym c.self.invariant.0 ∙ counts ∙ c.other.invariant.0 ∙ ap length c.other.view_is)
