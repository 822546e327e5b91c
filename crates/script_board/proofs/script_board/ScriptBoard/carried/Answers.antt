use Rattle.std.proofs.Common.{◌⊎◌, All, List, subst}
use mathlib.Core.List.{IsPrefix}
use Rattle.authority_map.specs.Operations.{Operation}
use Rattle.script_board.proofs.script_board.ScriptBoard.carried.Goals as goal

pub returns-clause-one_line : goal.returns-clause-one_line
returns-clause-one_line g c =
    subst (λ (rs : List (List Operation)). All (λ r. IsPrefix r c.args.board.now.published ⊎ IsPrefix c.args.board.now.published r) rs)
    c.deref.ensures.value c.compare.ensures
