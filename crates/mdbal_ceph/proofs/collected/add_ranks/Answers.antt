use Rattle.std.proofs.Common.{◌≡◌, ◌++◌, ℕ, List, arith, subst, sym}
use Rattle.mds_types.specs.declared.limits.TheConstants.{RANK_LIMIT}
use Rattle.mdbal_ceph.specs.Dumps.{AreRankDumps, RankDump, ranks_below, ranks_if}
use Rattle.mdbal_ceph.proofs.Faults.{read_more}
use Rattle.mdbal_ceph.proofs.Gathered.{adds_dumps, dumps_both, ranks_more}
use Rattle.std.proofs.lemmas.Result.{err_from_is_err_and}
use Rattle.mdbal_ceph.proofs.collected.add_ranks.Goals as goal

pub loop-number-preserved : goal.loop-number-preserved
loop-number-preserved g c =
    let was = c.loop-number.invariant in
    let here = c.in_ok-add_rank_if_in.ensures.added in
    let reads = g.F.Folder.reads c.args.source.now.files.now in
    let says = g.D.DumpReader.says in
    let dumps : List RankDump = was.0 in
    let one : List RankDump = here.0 in (
      dumps ++ one,
      subst (λ (ranks : List ℕ). AreRankDumps reads says c.args.source.now.mounted c.args.source.now.folder.now c.args.source.now.samples ranks (dumps ++ one))
          (sym (ranks_more c.args.ranks c.loop-number.number))
          (dumps_both reads says c.args.source.now.mounted c.args.source.now.folder.now c.args.source.now.samples
          (ranks_below c.args.ranks c.loop-number.number) (ranks_if c.args.ranks c.loop-number.number) dumps one was.1 here.1),
      adds_dumps c.args.gathering.now c.loop-number.gathering c.add_rank_if_in.new.gathering dumps one was.2 here.2,
    )

pub returns-clause-added : goal.returns-clause-added
returns-clause-added g c =
    let was = c.loop-number.invariant in
    let all : c.loop-number.number ≡ RANK_LIMIT = omega (arith, c.loop-number-test.false, c.loop-number.auto.number-end) in (
      was.0,
      subst (λ (n : ℕ). AreRankDumps (g.F.Folder.reads c.args.source.now.files.now) g.D.DumpReader.says c.args.source.now.mounted
          c.args.source.now.folder.now c.args.source.now.samples (ranks_below c.args.ranks n) was.0) all was.1,
      was.2,
    )

pub returns-in_err-add_rank_if_in-clause-failed : goal.returns-in_err-add_rank_if_in-clause-failed
returns-in_err-add_rank_if_in-clause-failed g c = λ read ranks.
    let e = err_from_is_err_and c.from_residual.result c.from_residual.ensures.1 in
    let was = c.loop-number.invariant in
    let more =
    read_more (g.F.Folder.reads c.args.source.now.files.now) g.D.DumpReader.says g.D.DumpReader.refuses c.args.source.now.folder.now
    c.args.source.now.mounted c.args.source.now.samples c.args.ranks c.loop-number.number was.0
    c.args.gathering.now c.loop-number.gathering read ranks was.1 was.2 in
    rw (e.1, e.2) (c.in_err-add_rank_if_in.ensures.failed more ranks)
