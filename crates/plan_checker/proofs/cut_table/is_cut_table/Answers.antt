use Rattle.std.proofs.Common.{◌≡◌, false, arith, rules}
use Rattle.mds_types.specs.CutTable.{is_cut_at}
use Rattle.plan_checker.proofs.TableLemmas.{IsCutTable-from_checks, checks_from_IsCutTable}
use Rattle.plan_checker.proofs.cut_table.is_cut_table.Goals as goal

pub returns : goal.returns
returns c =
    let root : is_cut_at c.args.table.now 0 ≡ false = search rules in (
      λ holds. IsCutTable-from_checks c.args.rows.now c.args.table.now c.args.bound (omega arith) root (c.rows_hold.ensures.0 holds),
      λ is. c.rows_hold.ensures.1 (checks_from_IsCutTable c.args.rows.now c.args.table.now c.args.bound c.requires.forest is),
    )
