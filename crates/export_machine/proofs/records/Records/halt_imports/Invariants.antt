use Rattle.std.proofs.Common.{◌≡◌, [], false, cond, eqb, get_or, take}
use Rattle.export_protocol.specs.Authority.{to_of}
use Rattle.export_machine.specs.Kept.{world_of, indexes_of}
use Rattle.export_protocol.specs.Entries.{importer_at_stop}
use Rattle.export_machine.proofs.Listed.{changed_among}
use Rattle.export_machine.proofs.records.Records.halt_imports.Given as goal

-- the imports that are listed so far are as a stop leaves them
abbrev pub invariant-loop-at : goal.invariant-loop-at
invariant-loop-at l = record {
  others : l.self ≡ record l.fn.self { exports = record l.fn.self.exports { importers = l.self.exports.importers } };
  importers : l.self.exports.importers
      ≡ changed_among (λ x state. cond (eqb (to_of (world_of l.fn.self) x) l.rank)
      (importer_at_stop (get_or l.fn.self.exports.dropped x false) state) state)
      (take l.at (get_or (indexes_of l.fn.self).open_at l.rank [])) l.fn.self.exports.importers;
}
