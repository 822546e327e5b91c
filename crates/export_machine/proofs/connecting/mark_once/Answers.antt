use Rattle.std.proofs.Common.{◌≡◌, ◌<◌, true, false, not, length, get_or, sym, ap, ◌∙◌, arith}
use Rattle.std.proofs.lemmas.List.{get_or_read, length-set}
use Rattle.export_machine.specs.Kept.{is_listed}
use Rattle.export_machine.proofs.Listing.{among_take, not_all, twice, once_next, marked_next, listed_near}
use Rattle.export_machine.proofs.connecting.mark_once.Goals as goal
use Rattle.export_machine.proofs.connecting.mark_once.Goals.{then-not-is_listed-via-then-not-is_listed, then-not-is_listed-via-else-not-is_listed+then-index}

pub returns-then-not-is_listed-clause-within : goal.returns-then-not-is_listed-clause-within
returns-then-not-is_listed-clause-within c = λ d h. among_take c.args.dirs.now c.loop-dir.dir-index d (sym (c.loop-dir.invariant.marked d) ∙ h)

pub returns-then-not-is_listed-clause-once : goal.returns-then-not-is_listed-clause-once
returns-then-not-is_listed-clause-once c =
    let near : c.loop-dir.dir-index < length c.args.dirs.now = omega arith in
    λ h. elim c.then-not-is_listed.branch [
      | then-not-is_listed-via-then-not-is_listed w ↦
          absurd (not_all (is_listed c.args.table.now.parents) c.args.dirs.now c.loop-dir.dir-index c.dir-item.result c.dir-item.is near
          (sym c.is_listed.ensures ∙ w.if-not-is_listed.true) h)
      | then-not-is_listed-via-else-not-is_listed+then-index w ↦
          (let there : c.dir-item.result < length c.args.table.now.parents =
          listed_near c.args.table.now.parents c.dir-item.result (sym c.is_listed.ensures ∙ w.if-not-is_listed.false) in
          let place : c.number-index.result < length c.loop-dir.marks.items = omega (arith, c.number-index.ensures, c.loop-dir.invariant.places) in
          let marked : get_or c.loop-dir.marks.items c.dir-item.result false ≡ true =
          ap (λ d. get_or c.loop-dir.marks.items d false) (sym c.number-index.ensures)
          ∙ (sym (get_or_read c.loop-dir.marks.items c.number-index.result w.index.result.now place w.index.ensures false)
          ∙ w.if-index.true) in
          ap not (sym (twice c.args.dirs.now c.loop-dir.dir-index c.dir-item.result near c.dir-item.is
          (sym (c.loop-dir.invariant.marked c.dir-item.result) ∙ marked))))
    ]

pub loop-dir-preserved : goal.loop-dir-preserved
loop-dir-preserved c =
    let near : c.loop-dir.dir-index < length c.args.dirs.now = omega arith in
    let there : c.dir-item.result < length c.args.table.now.parents =
    listed_near c.args.table.now.parents c.dir-item.result (sym c.is_listed.ensures ∙ c.if-not-is_listed.false) in
    let place : c.number-index.result < length c.loop-dir.marks.items = omega (arith, c.number-index.ensures, c.loop-dir.invariant.places) in
    let free : get_or c.loop-dir.marks.items c.dir-item.result false ≡ false =
    ap (λ d. get_or c.loop-dir.marks.items d false) (sym c.number-index.ensures)
    ∙ (sym (get_or_read c.loop-dir.marks.items c.number-index.result c.index.result.now place c.index.ensures false)
    ∙ c.if-index.false) in
    record {
      places = length-set c.loop-dir.marks.items c.number-index.result true ∙ c.loop-dir.invariant.places;
      marked = rw c.number-index.ensures
          (marked_next c.loop-dir.marks.items c.args.dirs.now c.loop-dir.dir-index c.dir-item.result near c.dir-item.is
          (rw (← c.number-index.ensures) place) c.loop-dir.invariant.marked);
      once = once_next c.args.dirs.now c.loop-dir.dir-index c.dir-item.result near c.dir-item.is c.loop-dir.invariant.once
          (sym (c.loop-dir.invariant.marked c.dir-item.result) ∙ free);
    }
