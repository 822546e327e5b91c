use Rattle.std.proofs.Common.{◌≡◌, ◌∙◌, map, ap, sym, subst, codes, false}
use Rattle.std.proofs.lemmas.Result.{err_from_is_err_and}
use Rattle.std.specs.Prelude.{option_map, unwrap_or}
use Rattle.std.specs.Option.{option_map_or}
use Rattle.std.specs.Str.{bytes_eq}
use Rattle.std.specs.Str.Parse.{ExplainsUnsignedError, HasUnsignedDigitsIfOk, ParsesUnsigned}
use Rattle.clap.specs.Kinds.{HasKind}
use Rattle.clap.specs.Matches.{found_of, one_text}
use Rattle.clap.specs.Words.{App, app_of, fault_of, first_of, is_simple_and_free, matches_of, one_of, rows_of}
use Rattle.clap.specs.Simple.{is_simple}
use Rattle.clap.proofs.WalkLemmas.{first_value-rows, one_text-rows}
use Rattle.command_line.specs.CommandLine.{mdbal, number_of}
use Rattle.command_line.proofs.Line.{explained, is_plain_line, is_simple_line, limit_given, limit_text, quiet_text, strict_given, strict_text}
use Rattle.command_line.proofs.settings.options.Goals as goal

pub returns-clause-accepted : goal.returns-clause-accepted
returns-clause-accepted g c =
    let is : app_of c.in_ok-command.field-0 ≡ mdbal = c.in_ok-command.ensures in
    ap (λ a. fault_of a (map g.S.AsStr.text c.args.words.now)) (sym is) ∙ c.in_ok-matches.ensures.kinds (ap is_simple_and_free is ∙ is_plain_line)

pub returns-clause-limit : goal.returns-clause-limit
returns-clause-limit g c =
    let is : app_of c.in_ok-command.field-0 ≡ mdbal = c.in_ok-command.ensures in
    let m = c.in_ok-matches.matches in
    let rows : rows_of (found_of m) ≡ matches_of mdbal (map g.S.AsStr.text c.args.words.now) =
    (c.in_ok-matches.ensures.matches (ap is_simple is ∙ is_simple_line)).0 ∙ ap (λ a. matches_of a (map g.S.AsStr.text c.args.words.now)) is in
    let text = one_text-rows (found_of m) (codes "limit") ∙ ap (one_of (codes "limit")) rows in
    c.unwrap_or.ensures ∙ ((limit_given _ (λ bs r. ParsesUnsigned 32 10 bs r × ExplainsUnsignedError 10 bs r × HasUnsignedDigitsIfOk bs r)
    (one_text (found_of m) (codes "limit")) c.get_one.result
    (λ t h. limit_text c.in_ok-command.field-0 m is c.in_ok-matches.ensures.parsed t h) c.get_one.ensures.none c.get_one.ensures.value (λ u x h. h.0)).0
    ∙ ap (λ o. unwrap_or (option_map number_of o) 65536) text)

pub returns-clause-within : goal.returns-clause-within
returns-clause-within g c =
    let is : app_of c.in_ok-command.field-0 ≡ mdbal = c.in_ok-command.ensures in
    let m = c.in_ok-matches.matches in
    let both = (limit_given _ (λ bs r. ParsesUnsigned 32 10 bs r × ExplainsUnsignedError 10 bs r × HasUnsignedDigitsIfOk bs r)
    (one_text (found_of m) (codes "limit")) c.get_one.result
    (λ t h. limit_text c.in_ok-command.field-0 m is c.in_ok-matches.ensures.parsed t h) c.get_one.ensures.none c.get_one.ensures.value (λ u x h. h.0)) in
    rw c.unwrap_or.ensures (both.1, both.2)

pub returns-clause-strict : goal.returns-clause-strict
returns-clause-strict g c =
    let is : app_of c.in_ok-command.field-0 ≡ mdbal = c.in_ok-command.ensures in
    let m = c.in_ok-matches.matches in
    let rows : rows_of (found_of m) ≡ matches_of mdbal (map g.S.AsStr.text c.args.words.now) =
    (c.in_ok-matches.ensures.matches (ap is_simple is ∙ is_simple_line)).0 ∙ ap (λ a. matches_of a (map g.S.AsStr.text c.args.words.now)) is in
    let text = one_text-rows (found_of m) (codes "strict") ∙ ap (one_of (codes "strict")) rows in
    strict_given (one_text (found_of m) (codes "strict")) c.get_flag.result
    (λ t h. strict_text c.in_ok-command.field-0 m is c.in_ok-matches.ensures.parsed t h) c.get_flag.ensures.none c.get_flag.ensures.value
    c.get_flag.ensures.other
    ∙ ap (λ o. option_map_or (λ t. bytes_eq t (codes "true")) o false) text

pub returns-clause-quiet : goal.returns-clause-quiet
returns-clause-quiet g c =
    let is : app_of c.in_ok-command.field-0 ≡ mdbal = c.in_ok-command.ensures in
    let m = c.in_ok-matches.matches in
    let rows : rows_of (found_of m) ≡ matches_of mdbal (map g.S.AsStr.text c.args.words.now) =
    (c.in_ok-matches.ensures.matches (ap is_simple is ∙ is_simple_line)).0 ∙ ap (λ a. matches_of a (map g.S.AsStr.text c.args.words.now)) is in
    let text = one_text-rows (found_of m) (codes "quiet") ∙ ap (one_of (codes "quiet")) rows in
    strict_given (one_text (found_of m) (codes "quiet")) c.get_flag-2.result
    (λ t h. quiet_text c.in_ok-command.field-0 m is c.in_ok-matches.ensures.parsed t h) c.get_flag-2.ensures.none c.get_flag-2.ensures.value
    c.get_flag-2.ensures.other
    ∙ ap (λ o. option_map_or (λ t. bytes_eq t (codes "true")) o false) text

pub returns-clause-proofs : goal.returns-clause-proofs
returns-clause-proofs g c =
    let is : app_of c.in_ok-command.field-0 ≡ mdbal = c.in_ok-command.ensures in
    let m = c.in_ok-matches.matches in
    let rows : rows_of (found_of m) ≡ matches_of mdbal (map g.S.AsStr.text c.args.words.now) =
    (c.in_ok-matches.ensures.matches (ap is_simple is ∙ is_simple_line)).0 ∙ ap (λ a. matches_of a (map g.S.AsStr.text c.args.words.now)) is in
    c.get_str.ensures ∙ first_value-rows (found_of m) (codes "proofs") ∙ ap (first_of (codes "proofs")) rows

pub returns-in_err-matches-clause-refused : goal.returns-in_err-matches-clause-refused
returns-in_err-matches-clause-refused g c =
    let is : app_of c.in_ok-command.field-0 ≡ mdbal = c.in_ok-command.ensures in
    let words = map g.S.AsStr.text c.args.words.now in
    let kinds = subst (λ (a : App). HasKind (fault_of a words) c.in_err-matches.field-0.0) is
    (c.in_err-matches.ensures.kinds (ap is_simple_and_free is ∙ is_plain_line)) in
    let e = err_from_is_err_and c.from_residual-in_err-matches.result c.from_residual-in_err-matches.ensures.1 in
    rw e.1 (explained _ e.0 _ e.2 kinds)
