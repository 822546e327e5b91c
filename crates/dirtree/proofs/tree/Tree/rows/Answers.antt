use Rattle.std.proofs.Common.{◌≡◌, ℕ, List, [], ◌∷◌, ◌++◌, Option, sym, refl, take, ◌+◌, append-nil}
use Rattle.std.specs.Option.{option_map}
use Rattle.dirtree.specs.declared.node.Node.{Node}
use Rattle.dirtree.specs.Tree.{rows_from}
use Rattle.dirtree.specs.Keeps.{entry_of, entries_of}
use Rattle.dirtree.proofs.Sound.{rows_more}
use Rattle.dirtree.proofs.tree.Tree.rows.Goals as goal
use Rattle.dirtree.proofs.tree.Tree.rows.Goals.{in-Some+in_ok-push, in_default}

pub loop-number-preserved : goal.loop-number-preserved
loop-number-preserved c =
    let items : List (Option Node) = c.deref-place-items.result.now in
    let i : ℕ = c.loop-number.number in
    let more : rows_from 0 (entries_of (take (i + 1) items)) ≡ rows_from 0 (entries_of (take i items))
    ++ rows_from i (option_map entry_of c.place-item.result ∷ []) =
    rows_more items i c.place-item.result c.loop-number-test.true c.place-item.is in
    let before : c.loop-number.rows.items ≡ rows_from 0 (entries_of (take i items)) = c.loop-number.invariant in
    elim c.match-place.branch [
      | in-Some+in_ok-push w ↦ rw (w.rows-is, w.in_ok-push.ensures.items, before, w.new.ensures, w.new-in-Some.ensures, more, w.in-Some.is) refl
      | in_default w ↦ rw (w.rows-is, before, more, w.in_default.is) (sym (append-nil (rows_from 0 (entries_of (take i items)))))
    ]
