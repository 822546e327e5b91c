use Rattle.std.proofs.Common.{◌∙◌, false, true}
use Rattle.std.specs.Prelude.{string_bytes}
use Rattle.ceph_pins.specs.Back.{inverted}
use Rattle.mdbal_ceph.specs.Writing.{proposed_changes}
use Rattle.std.proofs.lemmas.Result.{err_from_is_err_and}
use Rattle.mdbal_ceph.proofs.Refusals.{unwritable, writable_same}
use Rattle.mdbal_ceph.proofs.writing.pin_files.Goals as goal

pub returns-in_err-make_pins_script-clause-failed : goal.returns-in_err-make_pins_script-clause-failed
returns-in_err-make_pins_script-clause-failed c =
    let e = err_from_is_err_and c.from_residual-in_err-make_pins_script.result c.from_residual-in_err-make_pins_script.ensures.1 in
    rw (e.1, e.2) (unwritable c.args.settings.now c.args.outcome.now _ (λ other. record {
      asked = c.requires;
      is_proposed = c.args.is_proposed;
      is_back = false;
      unwritable = λ w. other (c.in_err-make_pins_script.ensures.refused
          (writable_same c.args.settings.now.mount.now c.as_bytes.result.now (string_bytes c.args.outcome.now.file_system.name)
          c.as_bytes-2.result.now (string_bytes c.args.outcome.now.file_system.fsid) c.as_bytes-3.result.now
          c.args.outcome.now.directories.items c.as_slice-directories.result.now (proposed_changes c.args.outcome.now c.args.is_proposed)
          c.changes_of-changes.result.now (cc) (cc) (cc) (cc) (cc) w));
    }))

pub returns-in_err-make_pins_script-2-clause-failed : goal.returns-in_err-make_pins_script-2-clause-failed
returns-in_err-make_pins_script-2-clause-failed c =
    let e = err_from_is_err_and c.from_residual-in_err-make_pins_script-2.result c.from_residual-in_err-make_pins_script-2.ensures.1 in
    rw (e.1, e.2) (unwritable c.args.settings.now c.args.outcome.now _ (λ other. record {
      asked = c.requires;
      is_proposed = c.args.is_proposed;
      is_back = true;
      unwritable = λ w. other (c.in_err-make_pins_script-2.ensures.refused
          (writable_same c.args.settings.now.mount.now c.as_bytes.result.now (string_bytes c.args.outcome.now.file_system.name)
          c.as_bytes-2.result.now (string_bytes c.args.outcome.now.file_system.fsid) c.as_bytes-3.result.now
          c.args.outcome.now.directories.items c.as_slice-directories.result.now
          (inverted c.args.outcome.now.decision.proposal.rows.items (proposed_changes c.args.outcome.now c.args.is_proposed))
          c.deref.result.now (cc) (cc) (cc) (cc)
          (c.deref.ensures.value ∙ (rw (c.as_slice-rows.ensures.value, c.changes_of-changes.ensures) at c.in_ok-back.ensures.inverted)) w));
    }))
