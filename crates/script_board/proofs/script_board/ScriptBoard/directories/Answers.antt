use Rattle.std.proofs.Common.{◌≡◌, ◌<◌, ℕ, List, [], ◌∷◌, ◌++◌, Option, true, false, cond, sym, ◌∙◌, refl, append-nil, ◌+◌, All, subst}
use Rattle.std.specs.Prelude.{filter}
use Rattle.dirtree.specs.Tree.{Entry, is_there}
use Rattle.dir_pins.specs.Pins.{below}
use Rattle.dir_pins.proofs.NearestPin.{below_more}
use Rattle.heat_ledger.proofs.Closings.{all_more}
use Rattle.script_board.proofs.CostLemmas.{passing}
use Rattle.script_board.proofs.script_board.ScriptBoard.directories.Goals as goal
use Rattle.script_board.proofs.script_board.ScriptBoard.directories.Goals.{then-contains+in_ok-push, else-contains}

pub loop-number-preserved : goal.loop-number-preserved
loop-number-preserved g c =
    let es : List (Option Entry) = c.args.self.now.world.state.directories.entries in
    let n : ℕ = c.loop-number.number in
    let more : filter (is_there es) (below (n + 1)) ≡ filter (is_there es) (below n) ++ cond (is_there es n) (n ∷ []) [] = below_more (is_there es) n in
    elim c.if-contains.branch [
      | then-contains+in_ok-push w ↦
          let is : is_there es n ≡ true = rw c.new-dir.ensures at (sym c.contains.ensures.there ∙ w.if-contains.true) in
          record {
            dirs = rw (w.dirs-is, w.in_ok-push.ensures.items, c.loop-number.invariant.dirs, c.new-dir.ensures, more, is) refl;
            inside = all_more (λ d. d < c.args.self.now.world.state.directories.limit) c.loop-number.dirs.items c.if-contains.dirs.items
                c.new-dir.result (rw (w.dirs-is, w.in_ok-push.ensures.items) refl) c.loop-number.invariant.inside
                (c.contains.ensures.below w.if-contains.true);
          }
      | else-contains w ↦
          let is : is_there es n ≡ false = rw c.new-dir.ensures at (sym c.contains.ensures.there ∙ w.if-contains.false) in
          record {
            dirs = rw (w.dirs-is, c.loop-number.invariant.dirs, more, is) (sym (append-nil (filter (is_there es) (below n))));
            inside = rw w.dirs-is c.loop-number.invariant.inside;
          }
    ]

pub returns-clause-there : goal.returns-clause-there
returns-clause-there g c =
    let es : List (Option Entry) = c.args.self.now.world.state.directories.entries in
    subst (λ (ds : List ℕ). All (λ d. is_there es d ≡ true) ds) (sym c.loop-number.invariant.dirs) (passing (is_there es) (below c.loop-number.number))
