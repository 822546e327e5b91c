use Rattle.std.proofs.Common.{◌∷◌, []}
use Rattle.authority_map.proofs.CellLemmas.{cell_set, cell_cleared}
use Rattle.authority_map.proofs.operation.MapOperation.written.Goals as goal

pub returns-in-Set-clause-cells : goal.returns-in-Set-clause-cells
returns-in-Set-clause-cells c before d =
    rw (← c.self.view_is, c.in-Set.is, c.as_slice.ensures.value, c.number.ensures.value) (cell_set before c.in-Set.dirs.items c.in-Set.rank d)

pub returns-in-SetOne-clause-cells : goal.returns-in-SetOne-clause-cells
returns-in-SetOne-clause-cells c before d =
    rw (← c.self.view_is, c.in-SetOne.is, c.from_ref.ensures.value, c.number-in-SetOne.ensures.value)
    (cell_set before (c.in-SetOne.dir ∷ []) c.in-SetOne.rank d)

pub returns-in-Clear-clause-cells : goal.returns-in-Clear-clause-cells
returns-in-Clear-clause-cells c before d =
    rw (← c.self.view_is, c.in-Clear.is, c.from_ref-in-Clear.ensures.value) (cell_cleared before c.in-Clear.dir d)
