use Rattle.std.proofs.Common.{◌∷◌, ◌++◌, [], All, List, rules, subst}
use Rattle.std.specs.Prelude.{codes}
use Rattle.std.proofs.lemmas.List.Elements.{All-append, All-cons, All-nil, All-push}
use Rattle.std.proofs.lemmas.Result.{err_from_is_err_and}
use Rattle.clap.specs.Words.{Row, found_of, rows_of}
use Rattle.mdbal_ceph.specs.WrongValues.{IsRight, IsWrong, least_order, parts_order, past_order}
use Rattle.mdbal_ceph.specs.declared.wrong_value.ValueOption.TheVariants.{Keep, Mask, MostInodes, Mount}
use Rattle.mdbal_ceph.specs.declared.wrong_value.WrongValue.{WrongValue}
use Rattle.mdbal_ceph.specs.declared.wrong_value.WrongValue.TheVariants.{Of}
use Rattle.mdbal_ceph.proofs.WrongValues.{first_at, first_in, given_if, given_or, right_or}
use Rattle.mdbal_ceph.proofs.settings.found.Goals as goal

-- what is looked at before the parts, the percentage of keep, the hours, the inodes, what a plan comes to, and the mount
abbrev to_mask : List WrongValue
to_mask = Of Mask ∷ []

abbrev to_parts : List WrongValue
to_parts = to_mask ++ parts_order

abbrev to_keep : List WrongValue
to_keep = to_parts ++ Of Keep ∷ []

abbrev to_past : List WrongValue
to_past = to_keep ++ past_order

abbrev to_inodes : List WrongValue
to_inodes = to_past ++ Of MostInodes ∷ []

abbrev to_least : List WrongValue
to_least = to_inodes ++ least_order

-- what lies behind them
abbrev from_mount : List WrongValue
from_mount = Of Mount ∷ []

abbrev from_least : List WrongValue
from_least = least_order ++ from_mount

abbrev from_past : List WrongValue
from_past = past_order ++ Of MostInodes ∷ from_least

-- all these are right, where each is
mask_right : (rows : List Row) → IsRight rows (Of Mask) → All (IsRight rows) to_mask
mask_right rows mask = All-cons (IsRight rows) (Of Mask) [] mask (All-nil (IsRight rows))

parts_right : (rows : List Row) → IsRight rows (Of Mask) → All (IsRight rows) parts_order → All (IsRight rows) to_parts
parts_right rows mask parts = All-append (IsRight rows) to_mask parts_order (mask_right rows mask) parts

keep_right : (rows : List Row) → IsRight rows (Of Mask) → All (IsRight rows) parts_order → IsRight rows (Of Keep) → All (IsRight rows) to_keep
keep_right rows mask parts keep = All-push (IsRight rows) to_parts (Of Keep) (parts_right rows mask parts) keep

past_right : (rows : List Row) → IsRight rows (Of Mask) → All (IsRight rows) parts_order → IsRight rows (Of Keep)
    → All (IsRight rows) past_order → All (IsRight rows) to_past
past_right rows mask parts keep past = All-append (IsRight rows) to_keep past_order (keep_right rows mask parts keep) past

inodes_right : (rows : List Row) → IsRight rows (Of Mask) → All (IsRight rows) parts_order → IsRight rows (Of Keep)
    → All (IsRight rows) past_order → IsRight rows (Of MostInodes) → All (IsRight rows) to_inodes
inodes_right rows mask parts keep past inodes =
    All-push (IsRight rows) to_past (Of MostInodes) (past_right rows mask parts keep past) inodes

least_right : (rows : List Row) → IsRight rows (Of Mask) → All (IsRight rows) parts_order → IsRight rows (Of Keep)
    → All (IsRight rows) past_order → IsRight rows (Of MostInodes) → All (IsRight rows) least_order → All (IsRight rows) to_least
least_right rows mask parts keep past inodes least =
    All-append (IsRight rows) to_inodes least_order (inodes_right rows mask parts keep past inodes) least

pub returns-clause-read : goal.returns-clause-read
returns-clause-read c = λ same. record {
  past = c.in_ok-folder.ensures.past same;
  parts = c.in_ok-parts.ensures.parts;
  keep = search rules;
  most_inodes = search rules;
  leave = search rules;
  least = c.in_ok-least.ensures.least;
  mask = search rules;
  mount = c.in_ok-mount.ensures.mount;
  own = search rules;
  check = search rules;
  pins = search rules;
  record_to = search rules;
  svg = search rules;
  script = search rules;
  subvolumes = search rules;
  json = search rules;
  paths0 = search rules;
}

pub returns-in_err-mask-clause-wrong : goal.returns-in_err-mask-clause-wrong
returns-in_err-mask-clause-wrong c = λ same.
    let rows = rows_of (found_of c.args.matches.now) in
    let e = err_from_is_err_and c.from_residual.result c.from_residual.ensures.1 in
    let wrong = c.in_err-mask.ensures.wrong in
    rw (e.1, e.2)
    (first_at rows [] (Of Mask) _ (parts_order ++ Of Keep ∷ from_past) wrong.0 (All-nil (IsRight rows))
    (given_if rows Mask _ c.value_of.ensures wrong.1))

pub returns-in_err-parts-clause-wrong : goal.returns-in_err-parts-clause-wrong
returns-in_err-parts-clause-wrong c = λ same.
    let rows = rows_of (found_of c.args.matches.now) in
    let e = err_from_is_err_and c.from_residual-in_err-parts.result c.from_residual-in_err-parts.ensures.1 in
    let mask : IsRight rows (Of Mask) = search rules in
    rw (e.1, e.2)
    (first_in rows to_mask parts_order (Of Keep ∷ from_past) _ (mask_right rows mask) c.in_err-parts.ensures.wrong)

pub returns-in_err-keep-clause-wrong : goal.returns-in_err-keep-clause-wrong
returns-in_err-keep-clause-wrong c = λ same.
    let rows = rows_of (found_of c.args.matches.now) in
    let e = err_from_is_err_and c.from_residual-in_err-keep.result c.from_residual-in_err-keep.ensures.1 in
    let mask : IsRight rows (Of Mask) = search rules in
    let wrong = c.in_err-keep.ensures.wrong in
    rw (e.1, e.2)
    (first_at rows to_parts (Of Keep) _ from_past wrong.0 (parts_right rows mask c.in_ok-parts.ensures.right)
    (given_or rows Keep (codes "5") c.value_or.result.now c.value_or.ensures (search rules) wrong.1))

pub returns-in_err-folder-clause-wrong : goal.returns-in_err-folder-clause-wrong
returns-in_err-folder-clause-wrong c = λ same.
    let rows = rows_of (found_of c.args.matches.now) in
    let e = err_from_is_err_and c.from_residual-in_err-folder.result c.from_residual-in_err-folder.ensures.1 in
    let mask : IsRight rows (Of Mask) = search rules in
    let keep = right_or rows Keep (codes "5") c.value_or.result.now c.value_or.ensures c.in_ok-keep.ensures.right in
    rw (e.1, e.2)
    (first_in rows to_keep past_order (Of MostInodes ∷ from_least) _ (keep_right rows mask c.in_ok-parts.ensures.right keep)
    (c.in_err-folder.ensures.wrong same))

pub returns-in_err-most_inodes-clause-wrong : goal.returns-in_err-most_inodes-clause-wrong
returns-in_err-most_inodes-clause-wrong c = λ same.
    let rows = rows_of (found_of c.args.matches.now) in
    let e = err_from_is_err_and c.from_residual-in_err-most_inodes.result c.from_residual-in_err-most_inodes.ensures.1 in
    let mask : IsRight rows (Of Mask) = search rules in
    let keep = right_or rows Keep (codes "5") c.value_or.result.now c.value_or.ensures c.in_ok-keep.ensures.right in
    let wrong = c.in_err-most_inodes.ensures.wrong in
    rw (e.1, e.2)
    (first_at rows to_past (Of MostInodes) _ from_least wrong.0
    (past_right rows mask c.in_ok-parts.ensures.right keep (c.in_ok-folder.ensures.right same))
    (given_if rows MostInodes _ c.value_of-2.ensures wrong.1))

pub returns-in_err-least-clause-wrong : goal.returns-in_err-least-clause-wrong
returns-in_err-least-clause-wrong c = λ same.
    let rows = rows_of (found_of c.args.matches.now) in
    let e = err_from_is_err_and c.from_residual-in_err-least.result c.from_residual-in_err-least.ensures.1 in
    let mask : IsRight rows (Of Mask) = search rules in
    let keep = right_or rows Keep (codes "5") c.value_or.result.now c.value_or.ensures c.in_ok-keep.ensures.right in
    let inodes : IsRight rows (Of MostInodes) = search rules in
    rw (e.1, e.2)
    (first_in rows to_inodes least_order from_mount _
    (inodes_right rows mask c.in_ok-parts.ensures.right keep (c.in_ok-folder.ensures.right same) inodes) c.in_err-least.ensures.wrong)

pub returns-in_err-mount-clause-wrong : goal.returns-in_err-mount-clause-wrong
returns-in_err-mount-clause-wrong c = λ same.
    let rows = rows_of (found_of c.args.matches.now) in
    let e = err_from_is_err_and c.from_residual-in_err-mount.result c.from_residual-in_err-mount.ensures.1 in
    let mask : IsRight rows (Of Mask) = search rules in
    let keep = right_or rows Keep (codes "5") c.value_or.result.now c.value_or.ensures c.in_ok-keep.ensures.right in
    let inodes : IsRight rows (Of MostInodes) = search rules in
    let wrong = c.in_err-mount.ensures.wrong in
    rw (e.1, e.2)
    (first_at rows to_least (Of Mount) _ [] wrong.0
    (least_right rows mask c.in_ok-parts.ensures.right keep (c.in_ok-folder.ensures.right same) inodes c.in_ok-least.ensures.right)
    (subst (IsWrong rows) wrong.0 wrong.1))

pub returns-clause-right : goal.returns-clause-right
returns-clause-right c = λ same.
    let rows = rows_of (found_of c.args.matches.now) in
    let mask : IsRight rows (Of Mask) = search rules in
    let keep = right_or rows Keep (codes "5") c.value_or.result.now c.value_or.ensures c.in_ok-keep.ensures.right in
    let inodes : IsRight rows (Of MostInodes) = search rules in
    All-push (IsRight rows) to_least (Of Mount)
    (least_right rows mask c.in_ok-parts.ensures.right keep (c.in_ok-folder.ensures.right same) inodes c.in_ok-least.ensures.right)
    c.in_ok-mount.ensures.right
