use Rattle.std.proofs.Common.{◌<◌, ◌≤◌, ℕ, Some, Option, List, length, set, ap, ◌∙◌, refl, arith}
use Rattle.export_machine.specs.Columns.{DirColumns}
use Rattle.export_protocol.proofs.Marks.{mark_start, mark_next, mark_near, mark_end}
use Rattle.export_machine.proofs.dir_table.DirTable.mark_owner.Goals as goal

pub loop-dir-init : goal.loop-dir-init
loop-dir-init c = ap (λ (xs : List (Option ℕ)). record c.args.self.now { owners = xs }) (mark_start c.args.self.now.owners (Some c.args.rank))

pub set_owner-requires : goal.set_owner-requires
set_owner-requires c =
    let near : c.loop-dir.dir-index < length c.args.dirs.now = omega arith in
    record {
      near = mark_near c.args.self.now.owners c.loop-dir.self.owners (Some c.args.rank) c.args.dirs.now c.loop-dir.dir-index
          c.dir-item.result near c.dir-item.is c.requires.near (ap (λ (t : DirColumns). t.owners) c.loop-dir.invariant);
    }

pub loop-dir-preserved : goal.loop-dir-preserved
loop-dir-preserved c =
    let near : c.loop-dir.dir-index < length c.args.dirs.now = omega arith in
    c.set_owner.ensures
    ∙ (ap (λ (t : DirColumns). record t { owners = set t.owners c.dir-item.result (Some c.args.rank) }) c.loop-dir.invariant
    ∙ ap (λ (xs : List (Option ℕ)). record c.args.self.now { owners = xs })
    (mark_next c.args.self.now.owners _ (Some c.args.rank) c.args.dirs.now c.loop-dir.dir-index c.dir-item.result near c.dir-item.is
    refl))

pub returns : goal.returns
returns c =
    let past : length c.args.dirs.now ≤ c.loop-dir.dir-index = omega arith in
    c.loop-dir.invariant ∙ ap (λ (xs : List (Option ℕ)). record c.args.self.now { owners = xs })
    (mark_end c.args.self.now.owners _ (Some c.args.rank) c.args.dirs.now c.loop-dir.dir-index past refl)
