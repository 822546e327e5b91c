use Rattle.mds_types.specs.declared.limits.TheConstants.{RANK_LIMIT}
use Rattle.mdbal_ceph.specs.Dumps.{all_seen, root_facts}
use Rattle.mdbal_ceph.proofs.Gathered.{gathered}
use Rattle.std.proofs.lemmas.Result.{err_from_is_err_and}
use Rattle.mdbal_ceph.proofs.Faults.{read_more, read_none}
use Rattle.mdbal_ceph.proofs.collected.read_dumps.Goals as goal

pub returns-clause-gathered : goal.returns-clause-gathered
returns-clause-gathered g c =
    let here = c.in_ok-add_ranks.ensures.added in
    let new = c.in_ok-gathering.ensures in (
      here.0,
      here.1,
      gathered c.in_ok-gathering.gathering c.add_ranks.new.gathering (all_seen here.0) (root_facts here.0) new.seen new.told
          new.listed new.numbered here.2,
    )

pub returns-clause-read : goal.returns-clause-read
returns-clause-read g c = λ read ranks.
    let here = c.in_ok-add_ranks.ensures.added in
    let new = c.in_ok-gathering.ensures in
    let numbers = c.args.source.now.mounted in
    let count = c.args.source.now.samples in
    let reads = g.F.Folder.reads c.args.source.now.files.now in
    let says = g.D.DumpReader.says in
    let refuses = g.D.DumpReader.refuses in
    let folder = c.args.source.now.folder.now in
    read_more reads says refuses folder numbers count c.args.ranks RANK_LIMIT here.0 c.in_ok-gathering.gathering c.add_ranks.new.gathering
    (read_none reads says refuses folder numbers count c.in_ok-gathering.gathering read new.seen new.told) ranks here.1 here.2

pub returns-in_err-gathering-clause-failed : goal.returns-in_err-gathering-clause-failed
returns-in_err-gathering-clause-failed g c = λ read ranks.
    let e = err_from_is_err_and c.from_residual.result c.from_residual.ensures.1 in
    rw (e.1, e.2, c.in_err-gathering.ensures.failed) tt

pub returns-in_err-add_ranks-clause-failed : goal.returns-in_err-add_ranks-clause-failed
returns-in_err-add_ranks-clause-failed g c = λ read ranks.
    let reads = g.F.Folder.reads c.args.source.now.files.now in
    let says = g.D.DumpReader.says in
    let refuses = g.D.DumpReader.refuses in
    let folder = c.args.source.now.folder.now in
    let new = c.in_ok-gathering.ensures in
    let e = err_from_is_err_and c.from_residual-in_err-add_ranks.result c.from_residual-in_err-add_ranks.ensures.1 in
    rw (e.1, e.2)
    (c.in_err-add_ranks.ensures.failed
    (read_none reads says refuses folder c.args.source.now.mounted c.args.source.now.samples c.in_ok-gathering.gathering read new.seen new.told) ranks)
