use Rattle.std.proofs.Common.{◌≡◌, ◌∙◌, map, ap, sym, subst, codes}
use Rattle.std.proofs.lemmas.Result.{err_from_is_err_and}
use Rattle.clap.specs.Kinds.{HasKind}
use Rattle.clap.specs.Matches.{found_of}
use Rattle.clap.specs.Words.{App, app_of, fault_of, first_of, is_simple_and_free, matches_of, rows_of}
use Rattle.clap.specs.Simple.{is_simple}
use Rattle.clap.proofs.WalkLemmas.{first_value-rows}
use Rattle.certificate_judge.specs.CommandLine.{mdbal_check, unless_dash}
use Rattle.certificate_judge.proofs.LineLemmas.{explained, is_plain_line, is_simple_line}
use Rattle.certificate_judge.proofs.settings.file_of.Goals as goal

pub returns-clause-accepted : goal.returns-clause-accepted
returns-clause-accepted g c =
    let is : app_of c.in_ok-command.field-0 ≡ mdbal_check = c.in_ok-command.ensures in
    ap (λ a. fault_of a (map g.S.AsStr.text c.args.words.now)) (sym is) ∙ c.in_ok-matches.ensures.kinds (ap is_simple_and_free is ∙ is_plain_line)

pub returns-clause-file : goal.returns-clause-file
returns-clause-file g c =
    let is : app_of c.in_ok-command.field-0 ≡ mdbal_check = c.in_ok-command.ensures in
    let m = c.in_ok-matches.matches in
    let rows : rows_of (found_of m) ≡ matches_of mdbal_check (map g.S.AsStr.text c.args.words.now) =
    (c.in_ok-matches.ensures.matches (ap is_simple is ∙ is_simple_line)).0 ∙ ap (λ a. matches_of a (map g.S.AsStr.text c.args.words.now)) is in
    c.unless_dash.ensures ∙ ap unless_dash (c.get_str.ensures ∙ first_value-rows (found_of m) (codes "file") ∙ ap (first_of (codes "file")) rows)

pub returns-in_err-matches-clause-refused : goal.returns-in_err-matches-clause-refused
returns-in_err-matches-clause-refused g c =
    let is : app_of c.in_ok-command.field-0 ≡ mdbal_check = c.in_ok-command.ensures in
    let words = map g.S.AsStr.text c.args.words.now in
    let kinds = subst (λ (a : App). HasKind (fault_of a words) c.in_err-matches.field-0.0) is
    (c.in_err-matches.ensures.kinds (ap is_simple_and_free is ∙ is_plain_line)) in
    let e = err_from_is_err_and c.from_residual-in_err-matches.result c.from_residual-in_err-matches.ensures.1 in
    rw e.1 (explained _ e.0 _ e.2 kinds)
