use Rattle.std.proofs.Common.{◌<◌, ◌≤◌, ℕ, Option, List, length, set, ap, ◌∙◌, refl, arith}
use Rattle.export_machine.specs.Columns.{DirColumns}
use Rattle.export_protocol.proofs.Marks.{mark_start, mark_next, mark_near, mark_end}
use Rattle.export_machine.proofs.dir_table.DirTable.mark_opened.Goals as goal

pub loop-dir-init : goal.loop-dir-init
loop-dir-init c = ap (λ (xs : List (Option ℕ)). record c.args.self.now { opened = xs }) (mark_start c.args.self.now.opened c.args.export)

pub set_opened-requires : goal.set_opened-requires
set_opened-requires c =
    let near : c.loop-dir.dir-index < length c.args.dirs.now = omega arith in
    record {
      near = mark_near c.args.self.now.opened c.loop-dir.self.opened c.args.export c.args.dirs.now c.loop-dir.dir-index c.dir-item.result
          near c.dir-item.is c.requires.near (ap (λ (t : DirColumns). t.opened) c.loop-dir.invariant);
    }

pub loop-dir-preserved : goal.loop-dir-preserved
loop-dir-preserved c =
    let near : c.loop-dir.dir-index < length c.args.dirs.now = omega arith in
    c.set_opened.ensures
    ∙ (ap (λ (t : DirColumns). record t { opened = set t.opened c.dir-item.result c.args.export }) c.loop-dir.invariant
    ∙ ap (λ (xs : List (Option ℕ)). record c.args.self.now { opened = xs })
    (mark_next c.args.self.now.opened _ c.args.export c.args.dirs.now c.loop-dir.dir-index c.dir-item.result near c.dir-item.is refl))

pub returns : goal.returns
returns c =
    let past : length c.args.dirs.now ≤ c.loop-dir.dir-index = omega arith in
    c.loop-dir.invariant ∙ ap (λ (xs : List (Option ℕ)). record c.args.self.now { opened = xs })
    (mark_end c.args.self.now.opened _ c.args.export c.args.dirs.now c.loop-dir.dir-index past refl)
