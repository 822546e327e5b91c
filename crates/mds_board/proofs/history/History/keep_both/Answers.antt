use Rattle.std.proofs.Common.{◌≡◌, ◌∙◌, ◌++◌, ◌∷◌, [], List, ap, append_assoc, arith, length}
use Rattle.mds_board.specs.declared.change.Answer.TheVariants as answer
use Rattle.mds_board.specs.declared.change.Change.TheVariants as change
use Rattle.mds_board.specs.Stored.{HistoryData, entries_in}
use Rattle.mds_board.specs.declared.entry.Entry.{Entry}
use Rattle.mds_board.specs.declared.history.Slot.TheVariants as slot
use Rattle.mds_board.proofs.Stored.{other_kept, other_more}
use Rattle.mds_board.proofs.history.History.keep_both.Goals as goal

pub returns-clause-kept : goal.returns-clause-kept
returns-clause-kept c =
    let others = c.self.inside.others.items in
    let slots = c.self.inside.slots.items in
    let opened : Entry = record { change = change.Open; reply = answer.Problem c.args.done.problem } in
    let adopted : Entry = record { change = change.Adopt c.args.done.plan; reply = answer.Orders c.args.done.orders } in
    let first : c.len.result ≡ length others = omega arith in
    let next : c.len-2.result ≡ length (others ++ opened ∷ []) = rw (← c.push_reserved-2.ensures.items) (omega arith) in
    rw (c.push_reserved-4.ensures.items, c.push_reserved-3.ensures.items, c.push_reserved-2.ensures.items, c.push_reserved.ensures.items)
    (other_more (others ++ opened ∷ []) (slots ++ slot.Other c.len.result ∷ []) adopted c.len-2.result next
    (other_kept others slots opened c.len.result first c.self.invariant)
    ∙ (ap (λ (es : List Entry). es ++ adopted ∷ []) (other_more others slots opened c.len.result first c.self.invariant)
    ∙ (append_assoc (entries_in others slots) (opened ∷ []) (adopted ∷ [])
    ∙ ap (λ (h : HistoryData). h.entries ++ opened ∷ adopted ∷ []) c.self.view_is)))
