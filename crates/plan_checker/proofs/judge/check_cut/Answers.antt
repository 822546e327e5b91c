use Rattle.std.proofs.Common.{rules, ◌↔◌, IsTrue}
use Rattle.mds_types.specs.Certificate.{IsCutCertified}
use Rattle.mds_types.specs.RankSet.{rank_count}
use Rattle.mds_types.proofs.CertificateLemmas.{least}
use Rattle.plan_checker.proofs.judge.check_cut.Goals as goal

pub returns-in_ok-is_cut_proof-clause-least : goal.returns-in_ok-is_cut_proof-clause-least
returns-in_ok-is_cut_proof-clause-least c =
    let rows = c.args.problem.now.rows in
    let ranks = rank_count c.args.problem.now.ranks in
    let certified : IsTrue c.in_ok-is_cut_proof.field-0
    ↔ IsCutCertified rows ranks c.args.part.now c.args.k c.args.greatest c.args.proof.now = search rules in
    λ holds.
    least rows ranks c.args.part.now c.args.k c.args.greatest c.args.proof.now
    (rw c.rows-rows.ensures.value at c.rows-rows.ensures.forest) (rw c.ranks.ensures.value at c.ranks.ensures.ranked)
    (certified.0 holds)
