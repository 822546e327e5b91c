use Rattle.ceph_plan.proofs.Choosing.{IsNextBefore}
use Rattle.ceph_plan.proofs.hour_choice.most_uneven.Given as goal

abbrev pub invariant-loop-h : goal.invariant-loop-h
invariant-loop-h l = IsNextBefore l.of.wanted.keep l.of.kept.now l.of.bounds.now l.greatest l.chosen l.h l.best
