use Rattle.std.proofs.Common.{◌≡◌, ◌∷◌, [], ℕ, Bool, List, true, false, cond, rules, subst, sym}
use Rattle.mds_types.specs.RankSet.{has_rank}
use Rattle.mdbal_ceph.specs.Dumps.{AreRankDumps, RankDump}
use Rattle.mdbal_ceph.proofs.Gathered.{adds_dump, adds_none, dumps_none, dumps_one}
use Rattle.std.proofs.lemmas.Result.{err_from_is_err_and}
use Rattle.mdbal_ceph.proofs.collected.add_rank_if_in.Goals as goal

pub returns-then-not-has-clause-added : goal.returns-then-not-has-clause-added
returns-then-not-has-clause-added g c =
    let dumps_are : List ℕ → List RankDump → Type 0 = AreRankDumps (g.F.Folder.reads c.args.source.now.files.now) g.D.DumpReader.says
    c.args.source.now.mounted c.args.source.now.folder.now c.args.source.now.samples in
    let no : has_rank c.args.ranks c.args.number ≡ false = search rules in (
      [],
      subst (λ (b : Bool). dumps_are (cond b (c.args.number ∷ []) []) []) (sym no)
          (dumps_none (g.F.Folder.reads c.args.source.now.files.now) g.D.DumpReader.says c.args.source.now.mounted
          c.args.source.now.folder.now c.args.source.now.samples),
      adds_none c.args.gathering.now,
    )

pub returns-clause-added : goal.returns-clause-added
returns-clause-added g c =
    let dumps_are : List ℕ → List RankDump → Type 0 = AreRankDumps (g.F.Folder.reads c.args.source.now.files.now) g.D.DumpReader.says
    c.args.source.now.mounted c.args.source.now.folder.now c.args.source.now.samples in
    let here = c.in_ok-add_rank.ensures.added in
    let yes : has_rank c.args.ranks c.args.number ≡ true = search rules in
    let is : c.in-Some.rank ≡ c.args.number = search rules in (
      here.0 ∷ [],
      subst (λ (b : Bool). dumps_are (cond b (c.args.number ∷ []) []) (here.0 ∷ [])) (sym yes)
          (subst (λ (r : ℕ). dumps_are (r ∷ []) (here.0 ∷ [])) is
          (subst (λ (r : ℕ). dumps_are (r ∷ []) (here.0 ∷ [])) here.1
          (dumps_one (g.F.Folder.reads c.args.source.now.files.now) g.D.DumpReader.says c.args.source.now.mounted
          c.args.source.now.folder.now c.args.source.now.samples here.0 here.2))),
      adds_dump c.args.gathering.now c.add_rank.new.gathering here.0 here.3,
    )

pub returns-in_err-add_rank-clause-failed : goal.returns-in_err-add_rank-clause-failed
returns-in_err-add_rank-clause-failed g c = λ read ranks.
    let e = err_from_is_err_and c.from_residual.result c.from_residual.ensures.1 in
    rw (e.1, e.2) (c.in_err-add_rank.ensures.failed read (ranks c.in-Some.rank (search rules)))
