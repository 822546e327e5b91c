use Rattle.std.proofs.Common.{◌≡◌, ◌++◌, List, append-nil, inl, subst, sym}
use Rattle.ceph_dumps.specs.declared.loads.FragmentHeat.{FragmentHeat}
use Rattle.ceph_snapshot.specs.Heard.{HasTold}
use Rattle.ceph_snapshot.specs.Growth.{IsGrowthError}
use Rattle.ceph_snapshot.specs.Named.{AreTooManyNamed}
use Rattle.ceph_snapshot.specs.Sightings.{PathHeat, seen_in}
use Rattle.std.proofs.lemmas.Result.{err_from_is_err_and}
use Rattle.mdbal_ceph.proofs.Faults.{growth_in, growth_of, heat_there, many_seen_in}
use Rattle.mdbal_ceph.proofs.collected.add_loads.Goals as goal

pub returns-clause-added : goal.returns-clause-added
returns-clause-added g c = (
  c.in_ok-loads.loads.items,
  c.in_ok-loads.ensures.loads,
  record {
    seen_more = subst (λ (those : List FragmentHeat). c.add_loads.new.self.tree.seen ≡ c.args.gathering.now.tree.seen
        ++ seen_in c.args.rank those) c.as_slice.ensures.value
        c.in_ok-add_loads.ensures.seen;
    told = λ before is. subst (HasTold c.add_loads.new.self) (sym (append-nil before)) (c.in_ok-add_loads.ensures.told before is);
    listed = c.add_loads.ensures.listed;
    numbered = c.add_loads.ensures.numbered;
  },
)

pub returns-in_err-loads-clause-failed : goal.returns-in_err-loads-clause-failed
returns-in_err-loads-clause-failed g c = λ read rank sample.
    let e = err_from_is_err_and c.from_residual.result c.from_residual.ensures.1 in
    rw (e.1, e.2) (c.in_err-loads.ensures.failed rank sample)

pub returns-in_err-add_loads-clause-failed : goal.returns-in_err-add_loads-clause-failed
returns-in_err-add_loads-clause-failed g c = λ read rank sample.
    let reads = g.F.Folder.reads c.args.source.now.files.now in
    let says = g.D.DumpReader.says in
    let refuses = g.D.DumpReader.refuses in
    let folder = c.args.source.now.folder.now in
    let numbers = c.args.source.now.mounted in
    let loads : List FragmentHeat = c.in_ok-loads.loads.items in
    let seen : List PathHeat = c.args.gathering.now.tree.seen in
    let many : Type 0 = AreTooManyNamed (seen ++ seen_in c.args.rank loads) read.facts in
    let is : IsGrowthError many c.in_err-add_loads.field-0.0 =
    subst (λ (those : List FragmentHeat). IsGrowthError (AreTooManyNamed (seen ++ seen_in c.args.rank those) read.facts) c.in_err-add_loads.field-0.0)
    c.as_slice.ensures.value (c.in_err-add_loads.ensures.many read.facts read.told) in
    let e = err_from_is_err_and c.from_residual-in_err-add_loads.result c.from_residual-in_err-add_loads.ensures.1 in
    rw (e.1, e.2)
    (growth_in reads says refuses folder many _
    (λ so. inl (many_seen_in reads says refuses folder numbers c.args.source.now.samples c.args.gathering.now (seen_in c.args.rank loads) read
    (heat_there reads says refuses folder numbers c.args.rank c.args.sample loads rank sample c.in_ok-loads.ensures.loads) so))
    (growth_of many _ is))
