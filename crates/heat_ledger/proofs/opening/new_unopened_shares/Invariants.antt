use Rattle.std.proofs.Common.{◌≡◌, All, vec_len}
use Rattle.std.specs.Arc.{arc_value}
use Rattle.heat_ledger.specs.Opening.{IsUnopened}
use Rattle.heat_ledger.proofs.opening.new_unopened_shares.Given as goal

abbrev pub invariant-loop-made : goal.invariant-loop-made
invariant-loop-made l = (vec_len l.unopened_shares ≡ l.made) × All (IsUnopened (arc_value l.tokens).shared.table_id l.entries) l.unopened_shares.items
