use Rattle.std.proofs.Common.{refl}
use Rattle.mdbal_ceph.proofs.collected.own_pins.Goals as goal

pub returns-in_ok-own_list_of-in-Some-clause-own : goal.returns-in_ok-own_list_of-in-Some-clause-own
returns-in_ok-own_list_of-in-Some-clause-own g c = rw c.in-Some.is (c.in_ok-own_list_of-in-Some.field-0, refl, c.in_ok-own_list_of-in-Some.ensures.own)
