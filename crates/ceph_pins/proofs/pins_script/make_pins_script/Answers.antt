use Rattle.std.proofs.Common.{◌≡◌, ◌∙◌, ◌==◌, sym, false, length}
use Rattle.ceph_pins.proofs.Lines.{script_of}
use Rattle.ceph_pins.proofs.pins_script.make_pins_script.Goals as goal

pub returns-clause-script : goal.returns-clause-script
returns-clause-script c =
    let some : (length c.args.changes.now == 0) ≡ false = sym c.is_empty.ensures ∙ c.if-is_empty.false in
    rw (
      c.in_ok-extend_from_slice-2.ensures.items,
      c.in_ok-extend_from_slice.ensures.items,
      c.in_ok-push_if-2.ensures,
      c.in_ok-push_if.ensures,
      c.in_ok-push_variables.ensures.lines,
      c.in_ok-script.ensures.items,
      c.as_bytes-2.ensures.value,
      c.as_bytes-3.ensures.value,
      c.deref.ensures.value,
      c.in_ok-lines.ensures.text,
      c.in_ok-lines.ensures.mount,
      c.in_ok-lines.ensures.ceph,
    )
    (script_of c.args.mounted.mount.now c.args.mounted.name.now c.args.mounted.fsid.now c.args.mounted.by_ceph c.args.directories.now c.args.changes.now some)
