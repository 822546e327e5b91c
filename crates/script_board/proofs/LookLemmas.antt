-- Messages that an entry of the history delivers.
use Rattle.std.proofs.Common.{◌≡◌, ◌<◌, ◌+◌, ◌||◌, ℕ, Bool, List, length, take, sym, ap, ◌∙◌, Some}
use Rattle.std.specs.List.{list_any}
use Rattle.std.specs.Prelude.{slice_get}
use Rattle.std.proofs.lemmas.List.Folds.{list_any_more}
use Rattle.std.proofs.lemmas.Option.{get_or_from_slice_get}
use Rattle.mds_board.specs.declared.entry.Entry.{Entry}
use Rattle.script_board.specs.Looks.{brings}

-- one more entry of the history
pub delivered_more : (history : List Entry) (i m : ℕ) (e : Entry) (was now : Bool) → i < length history → slice_get history i ≡ Some e
    → was ≡ list_any (brings m) (take i history) → now ≡ (was || brings m e)
    → now ≡ list_any (brings m) (take (i + 1) history)
delivered_more history i m e was now inside at before one =
    one ∙ ap (λ (v : Bool). v || brings m e) before ∙ ap (λ (x : Entry). list_any (brings m) (take i history) || brings m x)
    (sym (get_or_from_slice_get history i e e at))
    ∙ sym (list_any_more (brings m) history i e inside)
