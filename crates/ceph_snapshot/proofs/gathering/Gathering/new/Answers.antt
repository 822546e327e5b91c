use Rattle.std.proofs.Common.{[], List, subst, sym}
use Rattle.ceph_snapshot.specs.Named.{ArePathsNamed}
use Rattle.ceph_snapshot.specs.Sightings.{PathHeat}
use Rattle.ceph_snapshot.proofs.Heard.{told_nothing}
use Rattle.ceph_snapshot.proofs.gathering.Gathering.new.Goals as goal

pub returns-clause-told : goal.returns-clause-told
returns-clause-told c =
    told_nothing _ c.in_ok-new.ensures.told c.new-2.ensures.items c.new-3.ensures.items c.none.ensures
    (subst (λ (seen : List PathHeat). ArePathsNamed seen [] c.in_ok-new.field-0.nodes) (sym c.in_ok-new.ensures.seen) c.in_ok-new.ensures.only)
