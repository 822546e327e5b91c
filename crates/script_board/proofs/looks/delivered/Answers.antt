use Rattle.std.proofs.Common.{◌≡◌, ◌<◌, ◌||◌, ◌∙◌, ℕ, List, Option, Some, false, get_or, sym, ap, subst}
use Rattle.std.specs.Prelude.{slice_get}
use Rattle.std.proofs.lemmas.Option.{slice_get_within}
use Rattle.mds_board.specs.declared.entry.Entry.{Entry}
use Rattle.mds_board.specs.Stored.{shown_entry}
use Rattle.script_board.specs.Looks.{is_that}
use Rattle.script_board.proofs.LookLemmas.{delivered_more}
use Rattle.script_board.proofs.looks.delivered.Goals as goal

pub loop-number-preserved : goal.loop-number-preserved
loop-number-preserved g c =
    let history : List Entry = c.args.board.now.history in
    let i : ℕ = c.loop-number.number in
    let e : Entry = shown_entry c.at.result in
    let at : slice_get history i ≡ Some e = ap (λ (h : List Entry). slice_get h i) (sym c.history-history.ensures) ∙ c.at.ensures in
    record {
      size = c.mark.ensures.size ∙ c.loop-number.invariant.size;
      marks = λ m inside.
          delivered_more history i m e (get_or c.loop-number.marks.items m false) (get_or c.mark.new.marks.items m false)
          (slice_get_within history i e at) at (c.loop-number.invariant.marks m inside)
          (c.mark.ensures.marked m (subst (λ (n : ℕ). m < n) (sym c.loop-number.invariant.size) inside)
          ∙ ap (λ (o : Option ℕ). get_or c.loop-number.marks.items m false || is_that m o) c.message_come.ensures);
    }
