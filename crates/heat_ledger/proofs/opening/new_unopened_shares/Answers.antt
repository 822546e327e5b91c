use Rattle.std.proofs.Common.{◌≡◌, ◌∷◌, [], ◌++◌, rules}
use Rattle.std.specs.Arc.{arc_value}
use Rattle.heat_ledger.specs.Opening.{IsUnopened}
use Rattle.heat_ledger.proofs.Closings.{all_more}
use Rattle.heat_ledger.proofs.opening.new_unopened_shares.Goals as goal

pub loop-made-preserved : goal.loop-made-preserved
loop-made-preserved c =
    let inv = c.loop-made.invariant in
    let P = IsUnopened (arc_value c.args.tokens.now).shared.table_id c.args.entries in
    let order : c.push.new.self.items ≡ c.loop-made.unopened_shares.items ++ c.in_ok-new_unopened.field-0 ∷ [] = search rules in (
      search rules,
      all_more P c.loop-made.unopened_shares.items c.push.new.self.items c.in_ok-new_unopened.field-0 order inv.1 (search rules),
    )
