use Rattle.std.proofs.Common.{◌≡◌, ◌+◌, [], ◌∷◌, ◌++◌, rules, subst, sym}
use Rattle.heat_ledger.specs.declared.tally.TokenState.{TokenState}
use Rattle.heat_ledger.specs.Tally.{both_of}
use Rattle.heat_ledger.specs.Ledger.{IsShare}
use Rattle.heat_ledger.proofs.Audits.{laid_share, backed_both, can_give_back, audited_more}
use Rattle.heat_ledger.proofs.auditing.+audit_all.Goals as goal

pub audit_all-requires : goal.audit_all-requires
audit_all-requires g t c κs within =
    let both : c.take_back.new.authority.me.0 ≡ both_of c.args.authority.now.me.0 c.share.inside.token.me.0 = search rules in (
      search rules,
      (
        search rules,
        (
          search rules,
          (
            search rules,
            (
              search rules,
              backed_both c.args.authority.now.me.0 c.share.inside.token.me.0 c.take_back.new.authority.me.0 both c.requires.backed
                  c.take_back.ensures.backed,
            ),
          ),
        ),
      ),
    )

pub give_back-token-requires-clause-issues : goal.give_back-token-requires-clause-issues
give_back-token-requires-clause-issues g t c =
    let s = c.share.inside in
    let both : c.take_back.new.authority.me.0 ≡ both_of c.args.authority.now.me.0 s.token.me.0 = search rules in
    can_give_back (g.J.Naming.limit + g.J.Naming.limit) c.args.authority.now.me.0 s.token.me.0 c.take_back.new.authority.me.0
    c.audit_all.new.authority.me.0 s.weight s.counts c.pop.new.self.items c.share.invariant.2 both c.audit_all.ensures.audited
    c.requires.backed c.take_back.ensures.backed

pub invariant_of-push_reserved : goal.invariant_of-push_reserved
invariant_of-push_reserved g t c =
    let s = c.share.inside in (
      search rules,
      search rules,
      subst (λ (v : TokenState). IsShare (g.J.Naming.limit + g.J.Naming.limit) v s.weight s.counts) (sym c.give_back-token.ensures.token)
          (laid_share (g.J.Naming.limit + g.J.Naming.limit) s.token.me.0 s.weight s.counts c.share.invariant.2),
    )

pub returns-clause-audited : goal.returns-clause-audited
returns-clause-audited g t c =
    let s = c.share.inside in
    let both : c.take_back.new.authority.me.0 ≡ both_of c.args.authority.now.me.0 s.token.me.0 = search rules in
    let order : c.args.shares.now.items ≡ c.pop.new.self.items ++ c.in-Some.share ∷ [] = search rules in
    audited_more (g.J.Naming.limit + g.J.Naming.limit) c.args.authority.now.me.0 s.token.me.0 c.take_back.new.authority.me.0
    c.audit_all.new.authority.me.0 c.give_back-token.new.authority.me.0 c.args.shares.now.items c.pop.new.self.items s.weight s.counts
    c.share.invariant.2 both c.audit_all.ensures.audited
    (rw c.share.view_is order) c.give_back-token.ensures.authority
