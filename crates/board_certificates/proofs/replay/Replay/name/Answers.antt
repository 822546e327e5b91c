use Rattle.std.proofs.Common.{◌∙◌, ℕ, ap, get_or, subst, sym}
use Rattle.plan_text.specs.RowNames.{IsRowName}
use Rattle.board_certificates.proofs.ReplayLemmas.{name_is, row_is_named}
use Rattle.board_certificates.proofs.replay.Replay.name.Goals as goal

pub returns-clause-is_name : goal.returns-clause-is_name
returns-clause-is_name c =
    let at = c.index.ensures ∙ ap (λ (k : ℕ). get_or c.args.self.now.names.items k c.index.result.now) c.number.ensures in
    subst IsRowName (sym (name_is c.requires.replayed.0 c.args.self.now c.args.dir c.requires.replayed.1 c.requires.there c.index.result.now at))
    (row_is_named c.args.self.now.tree.entries c.args.dir c.numbers-tree.ensures.tree c.requires.there)
