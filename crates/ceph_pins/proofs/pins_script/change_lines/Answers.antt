use Rattle.std.proofs.Common.{◌∙◌, ◌++◌, ◌||◌, [], Bool, List, ap, not, sym, take}
use Rattle.std.specs.Prelude.{is_some}
use Rattle.std.proofs.lemmas.List.Folds.{list_any_more}
use Rattle.ceph_plan.specs.declared.row.PinChange.{PinChange}
use Rattle.ceph_snapshot.specs.declared.directory.Directory.{Directory}
use Rattle.ceph_pins.specs.PinsScript.{change_command, change_line, needs_ceph, needs_mount}
use Rattle.ceph_pins.proofs.Lines.{more_lines}
use Rattle.ceph_pins.proofs.pins_script.change_lines.Goals as goal

pub loop-change-preserved : goal.loop-change-preserved
loop-change-preserved c =
    let change : PinChange = c.change-item.result in
    let directories : List Directory = c.args.directories.now in
    let by_ceph : Bool = c.args.mounted.by_ceph in
    let is_ceph : PinChange → Bool = λ one. is_some (change_command by_ceph directories one) in
    record {
      text = more_lines (change_line c.args.mounted.mount.now by_ceph directories) [] c.loop-change.text.items
          c.push_change.new.script.items c.args.changes.now c.loop-change.change-index change
          c.loop-change-test.true c.loop-change.invariant.text
          (c.in_ok-by_ceph.ensures.line
          ∙ ap (λ (one : PinChange). c.loop-change.text.items ++ change_line c.args.mounted.mount.now by_ceph directories one)
          c.change-item.is);
      mount = ap (λ (b : Bool). b || not c.in_ok-by_ceph.by_ceph) c.loop-change.invariant.mount
          ∙ (ap (λ (b : Bool). needs_mount by_ceph directories (take c.loop-change.change-index c.args.changes.now) || b)
          (ap not (c.in_ok-by_ceph.ensures.way ∙ ap is_ceph c.change-item.is))
          ∙ sym (list_any_more (λ (one : PinChange). not (is_ceph one)) c.args.changes.now c.loop-change.change-index change c.loop-change-test.true));
      ceph = ap (λ (b : Bool). b || c.in_ok-by_ceph.by_ceph) c.loop-change.invariant.ceph
          ∙ (ap (λ (b : Bool). needs_ceph by_ceph directories (take c.loop-change.change-index c.args.changes.now) || b)
          (c.in_ok-by_ceph.ensures.way ∙ ap is_ceph c.change-item.is)
          ∙ sym (list_any_more is_ceph c.args.changes.now c.loop-change.change-index change c.loop-change-test.true));
    }
