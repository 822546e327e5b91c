use Rattle.std.proofs.Common.{sym, ◌∙◌, ap, length}
use Rattle.authority_map.proofs.HistoryLemmas.{appends_moves}
use Rattle.authority_map.proofs.history.LogPrefix.with.Goals as goal

pub compare_exchange-found-requires : goal.compare_exchange-found-requires
compare_exchange-found-requires g c =
    let named = c.args.count.now.named in
    let seen = c.again-seen.ensures in
    let pen = c.no_pen-pen.ensures in
    let offer = c.plain-offer.ensures in
    let book = ap (λ s. s.book) seen ∙ c.self.invariant.1 ∙ sym (ap (λ w. w.book) named) in (
      ap (λ w. w.tracked) named,
      book,
      pen.0 ∙ book,
      offer.0,
      rw (ap (λ w. w.key) named, pen.1, offer.1, offer.3)
          (appends_moves c.again-seen.result.log c.args.operation.now c.self.inside.count
          (ap (λ s. length s.log) seen ∙ sym c.self.invariant.0)),
    )
