use Rattle.std.proofs.Common.{◌≡◌, None, refl, sym, ◌∙◌}
use Rattle.export_protocol.specs.Authority.{exporter_of, importer_of}
use Rattle.export_protocol.specs.Step.{about, move}
use Rattle.export_machine.specs.Kept.{world_of}
use Rattle.export_machine.proofs.records.Records.receive.Goals as goal

pub carry_out-requires-clause-moves : goal.carry_out-requires-clause-moves
carry_out-requires-clause-moves c = rw (← c.export-export.ensures, ← c.exporter.ensures, ← c.importer.ensures) (sym c.move_of.ensures ∙ c.in-Some.is)

pub returns-in-None : goal.returns-in-None
returns-in-None c =
    let w = world_of c.args.self.now in
    let e : move c.args.message (exporter_of w (about c.args.message)) (importer_of w (about c.args.message)) ≡ None =
    rw (← c.export-export.ensures, ← c.exporter.ensures, ← c.importer.ensures) (sym c.move_of.ensures ∙ c.in-None.is) in
    record { effect = rw e refl; indexed = c.requires.can.kept.indexed }
