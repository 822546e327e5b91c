use Rattle.std.proofs.Common.{length}
use Rattle.ceph_plan.specs.Changes.{applied}
use Rattle.ceph_pins.specs.OwnList.{earlier_pin}
use Rattle.mdbal_ceph.proofs.OwnLines.{own_lines_back}
use Rattle.mdbal_ceph.proofs.laws.own_list_is_read_back.Goals as goal

pub returns : goal.returns
returns c =
    λ directories rows changes found fine. own_lines_back directories (applied (earlier_pin rows) changes) (length rows) found fine
