use Rattle.std.proofs.Common.{◌∙◌, Some, ap, arith, sym}
use Rattle.std.proofs.lemmas.Result.{err_from_is_err_and}
use Rattle.json.specs.Json.{object, parse_map}
use Rattle.json.proofs.Trees.{view-Object}
use Rattle.ceph_dumps.specs.Kept.{slim}
use Rattle.ceph_dumps.proofs.Keeping.{not_slim, slim_opened}
use Rattle.ceph_dumps.proofs.Saying.{no_object}
use Rattle.ceph_dumps.proofs.items.read_slim.Goals as goal

pub returns-then-not-open_object-clause-none : goal.returns-then-not-open_object-clause-none
returns-then-not-open_object-clause-none g c = λ _.
    no_object (slim g.T.Item.kept) (not_slim g.T.Item.kept) c.args.depth c.args.reader.now (grind arith)

pub returns-in_err-found-clause-none : goal.returns-in_err-found-clause-none
returns-in_err-found-clause-none g c =
    let e = err_from_is_err_and c.from_residual.result c.from_residual.ensures.1 in
    rw e.1 (λ other.
    slim_opened g.T.Item.kept c.args.depth c.args.reader.now c.open_object.new.reader (omega arith) (grind arith)
    ∙ ap (parse_map object) (c.in_err-found.ensures.none (λ memory. other (e.2 ∙ memory))))

pub returns-clause-is : goal.returns-clause-is
returns-clause-is g c =
    slim_opened g.T.Item.kept c.args.depth c.args.reader.now c.open_object.new.reader (omega arith) (grind arith)
    ∙ ap (parse_map object) c.in_ok-found.ensures.is
    ∙ ap (λ j. Some (j, c.read_kept.new.reader)) (sym (view-Object c.in_ok-found.found))
