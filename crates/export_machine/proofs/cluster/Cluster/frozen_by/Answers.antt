use Rattle.std.proofs.Common.{sym, ◌∙◌}
use Rattle.export_machine.specs.Kept.{world_of}
use Rattle.export_protocol.proofs.Found.{found_none, found_discovering, found_frozen}
use Rattle.export_machine.proofs.cluster.Cluster.frozen_by.Goals as goal

pub returns-in-None : goal.returns-in-None
returns-in-None c =
    rw (← c.self.view_is) (found_none (world_of c.self.inside.records) c.self.invariant.reached c.args.dir
    (rw (← c.self.view_is) at (sym c.open_export.ensures ∙ c.in-None.is)))

pub returns-in-Discovering : goal.returns-in-Discovering
returns-in-Discovering c =
    rw (← c.self.view_is) (found_discovering (world_of c.self.inside.records) c.self.invariant.reached c.args.dir c.in-Some.export
    (rw (← c.self.view_is) at (sym c.open_export.ensures ∙ c.in-Some.is)) (sym c.exporter.ensures ∙ c.in-Discovering.is))

pub returns-in_default : goal.returns-in_default
returns-in_default c =
    rw (← c.self.view_is) (found_frozen (world_of c.self.inside.records) c.self.invariant.reached c.args.dir c.in-Some.export
    (rw (← c.self.view_is) at (sym c.open_export.ensures ∙ c.in-Some.is)) (λ k. c.in_default.not-Discovering (c.exporter.ensures ∙ k)))
