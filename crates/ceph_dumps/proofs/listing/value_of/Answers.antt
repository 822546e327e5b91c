use Rattle.ceph_dumps.proofs.Attributes.{no_attribute, no_quote, pin_line}
use Rattle.ceph_dumps.proofs.listing.value_of.Goals as goal

pub returns-in_default : goal.returns-in_default
returns-in_default c = λ value. no_quote c.args.line.now value c.in_default.ensures

pub returns-in-None : goal.returns-in-None
returns-in-None c =
    no_attribute c.args.line.now c.in-Some.value.now c.in-Some.ensures c.in_default-after.ensures c.in_default-after-2.ensures
    c.in_default-after-3.ensures c.in-None.ensures

pub returns-in-Some-after-4 : goal.returns-in-Some-after-4
returns-in-Some-after-4 c =
    pin_line c.args.line.now c.in-Some.value.now c.in-Some.ensures c.in-Some-after-4.number.now c.pin_of.result c.in-Some-after-4.ensures c.pin_of.ensures
