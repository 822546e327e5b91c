use Rattle.std.proofs.Common.{◌≡◌, length, arith}
use Rattle.std.proofs.lemmas.Bool.Decides.{nat_tests}
use Rattle.heat_ledger.specs.Rows.{IsZero}
use Rattle.heat_ledger.specs.Placed.{data_of}
use Rattle.heat_ledger.proofs.Marks.{tracked_others, zero_tracked}
use Rattle.heat_ledger.proofs.counts.Counts.is_settled.Goals as goal

pub returns : goal.returns
returns c =
    let pending = (data_of c.self.inside.kept).pending in
    let unsettled = c.self.inside.unsettled.items in
    let tracked = c.self.invariant.1 in (
      λ yes. (let none : length unsettled ≡ 0 = grind (arith, nat_tests) in
          rw (← c.self.view_is) (λ d. tracked_others pending unsettled d tracked (λ j h. absurd (omega arith)))),
      λ zero. (let zeros : IsZero pending = rw (← c.self.view_is) at zero in
          let none : length unsettled ≡ 0 = zero_tracked pending unsettled tracked zeros in grind (arith, nat_tests)),
    )
