use Rattle.std.proofs.Common.{◌≡◌, Some, cond, take}
use Rattle.export_protocol.specs.Authority.{is_among}
use Rattle.export_protocol.specs.Step.{map_at}
use Rattle.export_machine.proofs.dir_table.DirTable.mark_named.Given as goal

-- the directories so far have the new value
abbrev pub invariant-loop-dir : goal.invariant-loop-dir
invariant-loop-dir l = l.self ≡ record l.fn.self { named = map_at (λ d old. cond (is_among (take l.dir-index l.dirs) d) (Some l.rank) old) l.fn.self.named }
