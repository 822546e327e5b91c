use Rattle.std.proofs.Common.{false, refl}
use Rattle.std.proofs.lemmas.Bool.{both_ways}
use Rattle.ceph_pins.proofs.LeftPaths.{in_if_slash, not_in}
use Rattle.ceph_pins.proofs.left.is_in.Goals as goal

pub returns-in-Some-len1-up : goal.returns-in-Some-len1-up
returns-in-Some-len1-up c =
    in_if_slash c.args.above.now c.args.path.now c.in-Some-len1-up.field-0.now c.in-Some-len1-up.ensures c.in-Some-len1-up.len_at_least

pub returns-in-None : goal.returns-in-None
returns-in-None c = (λ no. absurd (both_ways false refl no), λ lies. absurd (not_in c.args.above.now c.args.path.now c.in-None.ensures lies))
