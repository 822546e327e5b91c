use Rattle.std.proofs.Common.{◌≡◌, ◌∙◌, ◌++◌, ◌∷◌, [], ap, arith, length}
use Rattle.mds_board.specs.Stored.{HistoryData}
use Rattle.mds_board.specs.declared.entry.Entry.{Entry}
use Rattle.mds_board.proofs.Stored.{other_more}
use Rattle.mds_board.proofs.history.History.keep.Goals as goal

pub returns : goal.returns
returns c =
    let others = c.self.inside.others.items in
    let e : Entry = record { change = c.args.change; reply = c.args.reply } in
    let last : c.len.result ≡ length others = omega arith in
    rw (c.push_reserved-2.ensures.items, c.push_reserved.ensures.items)
    (other_more others c.self.inside.slots.items e c.len.result last c.self.invariant
    ∙ ap (λ (h : HistoryData). h.entries ++ e ∷ []) c.self.view_is)
