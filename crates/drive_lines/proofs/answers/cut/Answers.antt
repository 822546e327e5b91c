use Rattle.std.proofs.Common.{arith, rules}
use Rattle.drive_lines.proofs.Fields.{split_here, split_none}
use Rattle.drive_lines.proofs.answers.cut.Goals as goal

pub returns-then-byte-eq32-clause-some : goal.returns-then-byte-eq32-clause-some
returns-then-byte-eq32-clause-some c = split_here c.args.line.now c.loop-at.at (omega arith) c.loop-at.invariant (search rules)

pub returns-clause-none : goal.returns-clause-none
returns-clause-none c = λ is. split_none c.args.line.now (λ k h. c.loop-at.invariant k (omega arith))
