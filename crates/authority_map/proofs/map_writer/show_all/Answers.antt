use Rattle.std.proofs.Common.{◌≡◌, [], refl, rules}
use Rattle.left_right.specs.Handles.{published, pending}
use Rattle.authority_map.proofs.WriterLemmas.{all_shown}
use Rattle.authority_map.proofs.map_writer.show_all.Goals as goal

pub returns-in-Ok-clause-ok : goal.returns-in-Ok-clause-ok
returns-in-Ok-clause-ok g c =
    let handed = c.hand_all.new.copies in
    let none : c.hand_all.new.queue.waiting ≡ [] = search rules in (
      rw (← c.hand_all.ensures.shown)
          (all_shown (published handed).prefix (published c.flush.new.self).prefix c.hand_all.new.queue.waiting _ (pending handed)
          c.in-Ok.ensures.values.0 c.hand_all.ensures.order none),
      rw (none, c.in-Ok.ensures.values.1) refl,
    )
