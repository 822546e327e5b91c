-- Room for shares that are to be opened.
use Rattle.std.specs.Prelude.{◌≡◌, ℕ, ◌+◌, replicate}
use Rattle.std.specs.Arc.{arc_value}
use Rattle.atomic_table.specs.Seated.{TableId}
use Rattle.heat_ledger.specs.declared.opening.UnopenedShare.{UnopenedShare}
use Rattle.heat_ledger.specs.Counts.{no_counts}
use Rattle.heat_ledger.specs.Ledger.{ShareData}

-- a share as it is opened, which has counted nothing
abbrev pub fresh_share : ℕ → ShareData
fresh_share limit = record {
  weight = 1;
  hits = replicate (limit + limit) 0;
  pending = replicate (limit + limit) 0;
  begun = replicate limit 0;
}

-- what a share of this table will need, without counts of this many entries
pub record IsUnopened (tokens : TableId) (entries : ℕ) (unopened : UnopenedShare) : Type 0 where
  pub of_table : (arc_value unopened.tokens).shared.table_id ≡ tokens
  pub none : unopened.counts ≡ no_counts entries
