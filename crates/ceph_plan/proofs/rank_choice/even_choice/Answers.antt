use Rattle.std.proofs.Common.{ℕ, List, refl, subst}
use Rattle.std.proofs.lemmas.Result.{IfOk-weaker}
use Rattle.ceph_plan.specs.Balance.{IsNearMean}
use Rattle.ceph_plan.proofs.PackedParts.{largest-first}
use Rattle.ceph_plan.proofs.rank_choice.even_choice.Goals as goal

pub returns-clause-even : goal.returns-clause-even
returns-clause-even c =
    let plain : List ℕ = c.in_ok-plain.plain.rank.items in
    IfOk-weaker c.evened.result _ _ (λ choice evened. record {
      plain = plain;
      largest_first = largest-first c.args.parts.now.ranks c.args.parts.now.hours.now c.args.parts.now.heats.now c.args.parts.now.inodes.now
          c.args.parts.now.root plain c.in_ok-plain.ensures.kept;
      near_mean = subst (IsNearMean c.args.parts.now.ranks c.args.parts.now.hours.now c.args.parts.now.heats.now c.args.parts.now.root)
          c.in_ok-plain.ensures.greatest (c.in_ok-plain.ensures.near_mean refl);
      evened = evened;
    })
    c.evened.ensures.evened
