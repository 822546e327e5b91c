use Rattle.std.proofs.Common.{Err, ap, ◌∙◌, ◌++◌, List, append-nil, subst, sym}
use Rattle.ceph_snapshot.specs.Growth.{IsClaimOrGrowth}
use Rattle.ceph_snapshot.specs.Named.{AreTooManyNamed}
use Rattle.ceph_snapshot.specs.Sightings.{PathHeat}
use Rattle.ceph_dumps.specs.declared.subtrees.SubtreeRoot.{SubtreeRoot}
use Rattle.ceph_snapshot.specs.Facts.{roots_in}
use Rattle.ceph_snapshot.specs.Heard.{HasTold}
use Rattle.std.proofs.lemmas.Result.{err_from_is_err_and}
use Rattle.mdbal_ceph.proofs.Faults.{claim_in, many_told_in, roots_there, twice_claimed}
use Rattle.mdbal_ceph.proofs.collected.add_subtrees.Goals as goal

pub returns-in-Ok-clause-added : goal.returns-in-Ok-clause-added
returns-in-Ok-clause-added g c = (
  c.in_ok-roots.roots.items,
  c.in_ok-roots.ensures.roots,
  record {
    seen_more = c.add_subtrees.ensures.seen ∙ sym (append-nil c.args.gathering.now.tree.seen);
    told = λ before is.
        subst (λ (those : List SubtreeRoot). HasTold c.add_subtrees.new.self (before ++ roots_in c.args.rank those)) c.as_slice.ensures.value
        (c.in-Ok.ensures.told before is);
    listed = c.add_subtrees.ensures.listed;
    numbered = c.add_subtrees.ensures.numbered;
  },
)

pub returns-in_err-roots-clause-failed : goal.returns-in_err-roots-clause-failed
returns-in_err-roots-clause-failed g c = λ read rank.
    let e = err_from_is_err_and c.from_residual.result c.from_residual.ensures.1 in
    rw (e.1, e.2) (c.in_err-roots.ensures.failed rank)

pub returns-clause-failed : goal.returns-clause-failed
returns-clause-failed g c = λ read rank.
    let reads = g.F.Folder.reads c.args.source.now.files.now in
    let says = g.D.DumpReader.says in
    let refuses = g.D.DumpReader.refuses in
    let folder = c.args.source.now.folder.now in
    let numbers = c.args.source.now.mounted in
    let roots : List SubtreeRoot = c.in_ok-roots.roots.items in
    let seen : List PathHeat = c.args.gathering.now.tree.seen in
    let many : Type 0 = AreTooManyNamed seen (read.facts ++ roots_in c.args.rank roots) in
    let is : IsClaimOrGrowth many c.in-Err.error =
    subst (λ (those : List SubtreeRoot). IsClaimOrGrowth (AreTooManyNamed seen (read.facts ++ roots_in c.args.rank those)) c.in-Err.error)
    c.as_slice.ensures.value (c.in-Err.ensures.many read.facts read.told) in
    rw c.claim_error.ensures
    (claim_in reads says refuses folder many c.in-Err.error is
    (λ so. many_told_in reads says refuses folder numbers c.args.source.now.samples c.args.gathering.now (roots_in c.args.rank roots) read
    (roots_there reads says refuses folder numbers c.args.rank roots rank c.in_ok-roots.ensures.roots) so)
    (λ path one two twice.
    twice_claimed reads says refuses folder c.args.rank numbers roots c.as_slice.result.now read.facts path one two
    read.read.numbers_are read.listed rank c.in_ok-roots.ensures.roots c.as_slice.ensures.value
    (c.in-Err.ensures.twice read.facts read.told path one two (ap Err twice))))
