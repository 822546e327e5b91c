use Rattle.std.proofs.Common.{List, refl, subst, sym}
use mathlib.Core.List.{IsPrefix}
use Rattle.mds_board.specs.declared.entry.Entry.{Entry}
use Rattle.phased_board.proofs.phased.Phased.new.Goals as goal

pub note-requires : goal.note-requires
note-requires g c = subst (λ (l : List Entry). IsPrefix l c.args.board.history) (sym c.named-log.ensures) (c.args.board.history, refl)
