use Rattle.std.proofs.Common.{◌≡◌, arith, length}
use Rattle.std.proofs.lemmas.List.{length-map}
use Rattle.script_session.specs.Move.{export_line, pairs}
use Rattle.script_session.proofs.MoveLemmas.{length-pairs}
use Rattle.script_session.proofs.reply.CommandReply.line_count.Goals as goal

pub returns-in-Move : goal.returns-in-Move
returns-in-Move c board there =
    let orders = c.in-Move.orders.items in
    let outcomes = c.in-Move.field-1.items in
    let same : length outcomes ≡ length orders = rw (c.in-Move.is) at there in
    let count = length-pairs orders outcomes same in
    let lines = length-map (pairs orders outcomes) (export_line board) in
    rw (c.in-Move.is) (omega (arith, c.len-in-Move.ensures, c.in-Move.orders.ok.0, count, lines))
