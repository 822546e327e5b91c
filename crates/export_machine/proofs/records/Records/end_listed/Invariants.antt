use Rattle.std.proofs.Common.{◌≡◌, [], get_or, take}
use Rattle.export_machine.specs.Kept.{world_of, indexes_of, IsIndexed}
use Rattle.export_machine.proofs.ByRank.{ended_among}
use Rattle.export_machine.proofs.records.Records.end_listed.Given as goal

-- the requests of the tickets so far have ended
abbrev pub invariant-loop-at : goal.invariant-loop-at
invariant-loop-at l = record {
  others : l.self ≡ record l.fn.self { tickets = l.self.tickets; dirs = record l.fn.self.dirs { running = l.self.dirs.running } };
  tickets : l.self.tickets.items ≡ ended_among l.rank (take l.at (get_or (indexes_of l.fn.self).tickets_at l.rank [])) l.fn.self.tickets.items;
  indexed : IsIndexed (world_of l.self) (indexes_of l.self);
}
