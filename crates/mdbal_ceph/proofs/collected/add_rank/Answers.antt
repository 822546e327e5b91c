use Rattle.std.proofs.Common.{◌+◌, ◌≤◌, ◌≡◌, ◌++◌, ◌∷◌, [], ℕ, All, List, append-nil, arith, refl, subst, sym}
use Rattle.std.specs.List.{flat_map}
use Rattle.ceph_dumps.specs.declared.loads.FragmentHeat.{FragmentHeat}
use Rattle.ceph_snapshot.specs.Facts.{roots_in}
use Rattle.ceph_snapshot.specs.Sightings.{PathHeat, seen_in}
use Rattle.mdbal_ceph.specs.Causes.{IsFactIn, IsHeatIn, IsReadInto}
use Rattle.mdbal_ceph.specs.Collections.{Adds}
use Rattle.mdbal_ceph.specs.Dumps.{AreSamples}
use Rattle.mdbal_ceph.proofs.Faults.{read_adds, roots_there, samples_there}
use Rattle.mdbal_ceph.proofs.Gathered.{adds_both, adds_none, piece_more, samples_more, samples_none}
use Rattle.std.proofs.lemmas.Result.{err_from_is_err_and}
use Rattle.mdbal_ceph.proofs.collected.add_rank.Goals as goal

pub loop-sample-init : goal.loop-sample-init
loop-sample-init g c = (
  [],
  samples_none (g.F.Folder.reads c.args.source.now.files.now) g.D.DumpReader.says c.args.source.now.mounted c.args.source.now.folder.now c.args.rank,
  adds_none c.add_subtrees.new.gathering,
)

pub loop-sample-preserved : goal.loop-sample-preserved
loop-sample-preserved g c =
    let was = c.loop-sample.invariant in
    let here = c.in_ok-add_loads.ensures.added in
    let samples : List (List FragmentHeat) = was.0 in
    let loads : List FragmentHeat = here.0 in (
      samples ++ loads ∷ [],
      samples_more (g.F.Folder.reads c.args.source.now.files.now) g.D.DumpReader.says c.args.source.now.mounted c.args.source.now.folder.now
          c.args.rank c.loop-sample.sample samples loads was.1 here.1,
      subst (λ (s : List PathHeat). Adds c.add_subtrees.new.gathering c.add_loads.new.gathering s []) (sym (piece_more (seen_in c.args.rank) samples loads))
          (adds_both c.add_subtrees.new.gathering c.loop-sample.gathering c.add_loads.new.gathering (flat_map (seen_in c.args.rank) samples)
          (seen_in c.args.rank loads) [] [] was.2 here.2),
    )

pub returns-clause-added : goal.returns-clause-added
returns-clause-added g c =
    let was = c.loop-sample.invariant in
    let sub = c.in_ok-add_subtrees.ensures.added in
    let samples : List (List FragmentHeat) = was.0 in
    let all : c.loop-sample.sample ≡ c.args.source.now.samples = omega (arith, c.loop-sample-test.false, c.loop-sample.auto.sample-end) in (
      record { rank = c.args.rank; roots = sub.0; samples = samples },
      refl,
      record {
        roots = sub.1;
        samples = subst (λ (n : ℕ). AreSamples (g.F.Folder.reads c.args.source.now.files.now) g.D.DumpReader.says c.args.source.now.mounted
            c.args.source.now.folder.now c.args.rank n samples) all was.1;
      },
      subst (Adds c.args.gathering.now c.loop-sample.gathering (flat_map (seen_in c.args.rank) samples)) (append-nil (roots_in c.args.rank sub.0))
          (adds_both c.args.gathering.now c.add_subtrees.new.gathering c.loop-sample.gathering [] (flat_map (seen_in c.args.rank) samples)
          (roots_in c.args.rank sub.0) [] sub.2 was.2),
    )

pub returns-in_err-add_subtrees-clause-failed : goal.returns-in_err-add_subtrees-clause-failed
returns-in_err-add_subtrees-clause-failed g c = λ read rank.
    let e = err_from_is_err_and c.from_residual.result c.from_residual.ensures.1 in
    rw (e.1, e.2) (c.in_err-add_subtrees.ensures.failed read rank)

pub returns-in_err-add_loads-clause-failed : goal.returns-in_err-add_loads-clause-failed
returns-in_err-add_loads-clause-failed g c = λ read rank.
    let reads = g.F.Folder.reads c.args.source.now.files.now in
    let says = g.D.DumpReader.says in
    let refuses = g.D.DumpReader.refuses in
    let folder = c.args.source.now.folder.now in
    let numbers = c.args.source.now.mounted in
    let count = c.args.source.now.samples in
    let was = c.loop-sample.invariant in
    let sub = c.in_ok-add_subtrees.ensures.added in
    let none : All (IsHeatIn reads says refuses folder numbers) [] = λ k d l. absurd (omega (arith, l)) in
    let no_facts : All (IsFactIn reads says refuses folder numbers) [] = λ k d l. absurd (omega (arith, l)) in
    let few : c.loop-sample.sample ≤ count = omega (arith, c.loop-sample-test.true) in
    let roots : IsReadInto reads says refuses folder numbers count c.add_subtrees.new.gathering =
    read_adds reads says refuses folder numbers count c.args.gathering.now c.add_subtrees.new.gathering [] (roots_in c.args.rank sub.0) read
    sub.2.seen_more sub.2.told none (roots_there reads says refuses folder numbers c.args.rank sub.0 rank sub.1) in
    let samples : IsReadInto reads says refuses folder numbers count c.loop-sample.gathering =
    read_adds reads says refuses folder numbers count c.add_subtrees.new.gathering c.loop-sample.gathering (flat_map (seen_in c.args.rank) was.0) []
    roots was.2.seen_more was.2.told
    (samples_there reads says refuses folder numbers c.args.rank count c.loop-sample.sample was.0 rank read.read.count_is few was.1) no_facts in
    let e = err_from_is_err_and c.from_residual-in_err-add_loads.result c.from_residual-in_err-add_loads.ensures.1 in
    rw (e.1, e.2) (c.in_err-add_loads.ensures.failed samples rank (
      count,
      read.read.count_is,
      (let one : 1 ≤ c.loop-sample.sample + 1 = omega arith in one),
      (let last : c.loop-sample.sample + 1 ≤ count = omega (arith, c.loop-sample-test.true) in last),
    ))
