use Rattle.std.proofs.Common.{◌≡◌, [], cond, eqb, get_or, take}
use Rattle.export_protocol.specs.Authority.{from_of}
use Rattle.export_machine.specs.Kept.{world_of, indexes_of, IsIndexed}
use Rattle.export_protocol.specs.Entries.{exporter_at_stop}
use Rattle.export_protocol.proofs.Found.{Safely}
use Rattle.export_machine.proofs.Listed.{changed_among}
use Rattle.export_machine.proofs.records.Records.halt_exports.Given as goal

-- the exports that are listed so far are as a stop leaves them
abbrev pub invariant-loop-at : goal.invariant-loop-at
invariant-loop-at l = record {
  others : l.self ≡ record l.fn.self {
    exports = record l.fn.self.exports { exporters = l.self.exports.exporters };
    dirs = record l.fn.self.dirs { opened = l.self.dirs.opened };
  };
  exporters : l.self.exports.exporters
      ≡ changed_among (λ x state. cond (eqb (from_of (world_of l.fn.self) x) l.rank) (exporter_at_stop state) state)
      (take l.at (get_or (indexes_of l.fn.self).open_at l.rank [])) l.fn.self.exports.exporters;
  indexed : IsIndexed (world_of l.self) (indexes_of l.self);
  safely : Safely (world_of l.self);
}
