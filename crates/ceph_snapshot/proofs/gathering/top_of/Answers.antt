use Rattle.std.proofs.Common.{arith}
use Rattle.ceph_snapshot.proofs.Heard.{lies_in_top, top_at, top_whole, user_top}
use Rattle.ceph_snapshot.proofs.gathering.top_of.Goals as goal

pub returns-then-path-end-eq47-clause-top : goal.returns-then-path-end-eq47-clause-top
returns-then-path-end-eq47-clause-top c =
    top_at c.args.path.now c.loop-end.end (omega (arith, c.loop-end.auto.end)) (omega (arith, c.loop-end-test.true)) c.loop-end.invariant
    (λ l. c.if-path-end-eq47.true)

pub returns-then-path-end-eq47-clause-user : goal.returns-then-path-end-eq47-clause-user
returns-then-path-end-eq47-clause-user c = user_top c.args.path.now c.loop-end.end (omega (arith, c.loop-end.auto.end))

pub returns-then-path-end-eq47-clause-lies : goal.returns-then-path-end-eq47-clause-lies
returns-then-path-end-eq47-clause-lies c = lies_in_top c.args.path.now _ (returns-then-path-end-eq47-clause-top c)

pub returns-clause-top : goal.returns-clause-top
returns-clause-top c = top_whole c.args.path.now c.loop-end.end c.loop-end-test.false c.loop-end.invariant

pub returns-clause-lies : goal.returns-clause-lies
returns-clause-lies c = lies_in_top c.args.path.now _ (returns-clause-top c)
