use Rattle.std.proofs.Common.{refl}
use Rattle.script_session.proofs.stat.put_facts.Goals as goal

pub returns : goal.returns
returns c =
    rw (c.put-6.ensures.text, c.put_rank-2.ensures.text, c.put-5.ensures.text, c.put_rank.ensures.text, c.put-4.ensures.text, c.put_number-2.ensures.text)
    (rw (c.put-3.ensures.text, c.put_sum.ensures.text, c.put-2.ensures.text, c.put_number.ensures.text, c.put.ensures.text, c.requires) refl)
