use Rattle.std.proofs.Common.{◌≡◌, Some, None, Ok, Err, sym, refl, ◌∙◌, inl}
use Rattle.std.proofs.lemmas.Result.{err_from_is_err_and}
use Rattle.script_board.specs.Commands.{find, last_slash, parent_path}
use Rattle.script_board.proofs.SlashLemmas.{no_slash_passes, slash_found}
use Rattle.script_board.proofs.BoardLemmas.{made_below, refused_below}
use Rattle.script_board.proofs.script_board.ScriptBoard.make_dir.Goals as goal

pub returns-in_default-clause-fault : goal.returns-in_default-clause-fault
returns-in_default-clause-fault g c =
    let none : last_slash c.args.path.now ≡ None = no_slash_passes c.args.path.now c.in_default.ensures.cases in
    rw (none, c.from.ensures) (inl refl)

pub returns-in_err-parent-clause-fault : goal.returns-in_err-parent-clause-fault
returns-in_err-parent-clause-fault g c =
    let cut = c.in-Some.ensures.cases in
    let parts : last_slash c.args.path.now ≡ Some (c.in-Some.above.now, c.in-Some.name.now) =
    slash_found c.args.path.now c.in-Some.above.now c.in-Some.name.now cut.0 cut.1 cut.2 cut.3 cut.4 in
    let e = err_from_is_err_and c.from_residual.result c.from_residual.ensures.1 in
    let found : find c.args.self.now (parent_path c.in-Some.above.now) ≡ Err c.in_err-parent.field-0.0 = sym c.parent.ensures ∙ c.in_err-parent.was in
    rw (e.1, e.2) (inl (refused_below c.args.self.now c.args.path.now c.in-Some.above.now c.in-Some.name.now c.args.inodes
    c.in_err-parent.field-0.0 parts found))

pub returns-clause-done : goal.returns-clause-done
returns-clause-done g c =
    let cut = c.in-Some.ensures.cases in
    let parts : last_slash c.args.path.now ≡ Some (c.in-Some.above.now, c.in-Some.name.now) =
    slash_found c.args.path.now c.in-Some.above.now c.in-Some.name.now cut.0 cut.1 cut.2 cut.3 cut.4 in
    let found : find c.args.self.now (parent_path c.in-Some.above.now) ≡ Ok c.in_ok-parent.parent = sym c.parent.ensures ∙ c.in_ok-parent.was in
    rw (made_below c.args.self.now c.args.path.now c.in-Some.above.now c.in-Some.name.now c.in_ok-parent.parent c.args.inodes parts found)
    c.make_child.ensures.done

pub returns-clause-fault : goal.returns-clause-fault
returns-clause-fault g c =
    let cut = c.in-Some.ensures.cases in
    let parts : last_slash c.args.path.now ≡ Some (c.in-Some.above.now, c.in-Some.name.now) =
    slash_found c.args.path.now c.in-Some.above.now c.in-Some.name.now cut.0 cut.1 cut.2 cut.3 cut.4 in
    let found : find c.args.self.now (parent_path c.in-Some.above.now) ≡ Ok c.in_ok-parent.parent = sym c.parent.ensures ∙ c.in_ok-parent.was in
    rw (made_below c.args.self.now c.args.path.now c.in-Some.above.now c.in-Some.name.now c.in_ok-parent.parent c.args.inodes parts found)
    c.make_child.ensures.fault
