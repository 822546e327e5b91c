use Rattle.std.proofs.Common.{◌≡◌, ◌<◌, ◌+◌, ◌∙◌, ℕ, List, Some, ap, length, min, refl, slice_get, subst, sym}
use Rattle.std.proofs.lemmas.Option.{slice_get_read}
use Rattle.mds_types.specs.declared.problem.ProblemRow.{ProblemRow}
use Rattle.ceph_snapshot.specs.declared.directory.Directory.{Directory}
use Rattle.ceph_snapshot.specs.declared.held.Held.{Held}
use Rattle.ceph_snapshot.specs.Rows.{AreRowsOf, planned_row}
use Rattle.ceph_snapshot.proofs.Adding.{free-row, held-row, rows-more}
use Rattle.ceph_snapshot.proofs.rows.rows_of.Goals as goal
use Rattle.ceph_snapshot.proofs.rows.rows_of.Goals.{in-Free, in-Pinned}

pub loop-at-preserved : goal.loop-at-preserved
loop-at-preserved c =
    let ds : List Directory = c.args.directories.now in
    let holds : List Held = c.args.holds.now in
    let at : ℕ = c.loop-at.at in
    let d : Directory = c.index-directories-at.result in
    let inside : at < length ds = c.loop-at-test.true in
    let held : at < length holds = subst (λ (n : ℕ). at < n) (sym c.requires) inside in
    let read : slice_get ds at ≡ Some d = slice_get_read ds (length ds) at d refl inside c.index-directories-at.is in
    let row : ProblemRow = record { parent = d.parent; heat = c.match-holds-at.heat.0; inodes = c.match-holds-at.heat.1; now = d.now } in
    let here : row ≡ planned_row ds holds at = elim c.match-holds-at.branch [
      | in-Free w ↦
          free-row ds holds at c.match-holds-at.heat.0 c.match-holds-at.heat.1 d _ read held w.in-Free.is
          (ap (λ (both : ℕ × ℕ). both.0) w.heat-is ∙ w.min.ensures)
          (ap (λ (both : ℕ × ℕ). both.1) w.heat-is ∙ (w.min-in-Free.ensures ∙ ap (min d.inodes) w.from.ensures))
      | in-Pinned w ↦
          ap (λ (both : ℕ × ℕ). record { parent = d.parent; heat = both.0; inodes = both.1; now = d.now }) w.heat-is
          ∙ held-row ds holds at d _ read held w.in-Pinned.is
    ] in
    subst (λ (rows : List ProblemRow). AreRowsOf ds holds (at + 1) rows) (sym c.in_ok-push.ensures.items)
    (rows-more ds holds c.loop-at.rows.items row at c.loop-at.invariant here)
