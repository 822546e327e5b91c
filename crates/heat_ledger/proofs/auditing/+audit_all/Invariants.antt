use Rattle.std.proofs.Common.{vec_len}
use Rattle.heat_ledger.proofs.auditing.+audit_all.Given as goal

abbrev pub decreases-audit_all : goal.decreases-audit_all
decreases-audit_all g l = vec_len l.shares.now
