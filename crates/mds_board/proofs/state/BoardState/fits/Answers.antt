use Rattle.std.proofs.Common.{◌≡◌, ◌++◌, List, refl, subst}
use Rattle.authority_map.specs.Operations.{Operation}
use Rattle.mds_board.specs.Steps.{Present}
use Rattle.mds_board.proofs.state.BoardState.fits.Goals as goal

pub returns-clause-published : goal.returns-clause-published
returns-clause-published g c =
    subst (λ (p : Present). (more : List Operation) × (p.published ++ more ≡ p.state.map)) c.self.view_is (_, refl)
