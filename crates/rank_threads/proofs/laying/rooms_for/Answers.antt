use Rattle.std.proofs.Common.{◌≤◌, length, take, get_or, vec_capacity, subst, arith, Vec, Global}
use Rattle.std.proofs.lemmas.Grind.{common_steps}
use Rattle.std.proofs.lemmas.Slice.Zip.{all_zipped_more}
use Rattle.std.proofs.lemmas.List.{take_more}
use Rattle.rank_threads.specs.declared.work.Work.{Work}
use Rattle.rank_threads.specs.Asking.{IsRoomFor}
use Rattle.rank_threads.proofs.laying.rooms_for.Goals as goal

pub loop-script-preserved : goal.loop-script-preserved
loop-script-preserved c =
    let item = c.script-item.result in
    let at = get_or c.args.scripts.now c.loop-script.script-index item in
    let room = c.in_ok-with_capacity.field-0 in
    let small : length item.items ≤ vec_capacity room = grind (arith, common_steps, c.in_ok-with_capacity.ensures.capacity) in
    let fits : length at.items ≤ vec_capacity room = subst (λ (s : Vec Work Global). length s.items ≤ vec_capacity room) c.script-item.is small in
    rw (c.in_ok-push.ensures.items, take_more c.args.scripts.now c.loop-script.script-index item c.loop-script-test.true)
    (all_zipped_more IsRoomFor (take c.loop-script.script-index c.args.scripts.now) c.loop-script.rooms.items at room c.loop-script.invariant
    (c.in_ok-with_capacity.ensures.items, fits))
