use Rattle.std.proofs.Common.{◌≡◌, [], ◌∷◌, ◌++◌, All, subst, rules}
use Rattle.heat_ledger.specs.Tally.{both_of}
use Rattle.heat_ledger.specs.Ledger.{IsClean}
use Rattle.heat_ledger.proofs.Closings.{gathered_more, all_left, all_last}
use Rattle.heat_ledger.proofs.closing.gather.Goals as goal

pub loop-share-preserved : goal.loop-share-preserved
loop-share-preserved g c =
    let inv = c.loop-share.invariant in
    let x = c.in-Some.share in
    let u = c.into_token.result.me.0 in
    let order : c.loop-share.shares.items ≡ c.pop.new.self.items ++ x ∷ [] = search rules in
    let all = subst (All IsClean) order inv.3 in
    let now : c.take_back.new.authority.me.0 ≡ both_of c.loop-share.authority.me.0 u = search rules in (
      search rules,
      search rules,
      search rules,
      all_left IsClean c.pop.new.self.items x all,
      gathered_more c.args.authority.now.me.0.parts c.loop-share.authority.me.0 u _ _ _ _ x order inv.4
          (all_last IsClean c.pop.new.self.items x all) c.into_token.ensures.share c.take_back.ensures.backed now,
    )
