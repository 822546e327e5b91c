-- What an operation in memory means.
use Rattle.std.specs.Prelude.{List, ◌∷◌, [], map, Option, Some, None}
use Rattle.authority_map.specs.declared.operation.OperationKind.{OperationKind}
use Rattle.authority_map.specs.declared.operation.OperationKind.TheVariants.{Set, SetOne, Clear}
use Rattle.authority_map.specs.Operations.{Operation}
use Rattle.authority_map.specs.Operations as op

abbrev pub operation_of : OperationKind → Operation
operation_of (Set dirs rank) = op.SetTo dirs.items rank
operation_of (SetOne dir rank) = op.SetTo (dir ∷ []) rank
operation_of (Clear dir) = op.Clear dir

-- one more operation, with all that came before it
pub record LogEntry : Type 0 where
  pub operation : Operation
  pub before : List Operation
  pub after : List Operation

-- the operations of a list of entries
abbrev pub operations_of : List LogEntry → List Operation
operations_of entries = map (λ entry. entry.operation) entries

-- the operation that is ready, if there is one
abbrev pub ready_operation : Option LogEntry → List Operation
ready_operation None = []
ready_operation (Some entry) = entry.operation ∷ []
