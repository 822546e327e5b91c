use Rattle.ceph_plan.proofs.Proposed.{candidates-are}
use Rattle.ceph_plan.proofs.proposal.candidates.Goals as goal

pub returns-clause-candidates : goal.returns-clause-candidates
returns-clause-candidates c =
    candidates-are c.args.of.now.ranks c.args.of.now.hours.now c.args.of.now.rows.now c.args.own.now c.args.wanted.rests c.args.divided
    c.in_ok-found.found.items c.push.new.self.items
    c.in_ok-costed.field-0 c.in_ok-push.ensures.items c.in_ok-costed.ensures.candidate c.in_ok-costed.ensures.plan c.in_ok-found.ensures.begun
