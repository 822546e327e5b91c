use Rattle.std.proofs.Common.{◌∙◌, Some, arith, ap, map, option_map}
use Rattle.std.proofs.lemmas.Result.{err_from_is_err_and}
use Rattle.ceph_dumps.specs.Members.{list_in}
use Rattle.ceph_dumps.proofs.Saying.{no_object, not_listed, object_opened, object_refused, object_said, object_without}
use Rattle.ceph_dumps.proofs.items.read_list_in.Goals as goal

pub returns-then-not-open_object-clause-none : goal.returns-then-not-open_object-clause-none
returns-then-not-open_object-clause-none g c = λ _.
    no_object (list_in g.T.Item.said c.args.name.now) (not_listed g.T.Item.said c.args.name.now) c.args.depth c.args.reader.now (grind arith)

pub returns-in-Some-clause-is : goal.returns-in-Some-clause-is
returns-in-Some-clause-is g c =
    object_opened g.T.Item.said c.args.name.now c.args.depth c.args.reader.now c.open_object.new.reader (omega arith) (grind arith)
    ∙ object_said g.T.Item.said c.args.name.now _ (map g.T.Item.shown c.in-Some.found.items) c.read_members.new.reader
    (c.in_ok-found.ensures.is ∙ ap (λ o. Some (option_map (λ list. map g.T.Item.shown list.items) o, c.read_members.new.reader)) c.in-Some.is)

pub returns-in-None-clause-none : goal.returns-in-None-clause-none
returns-in-None-clause-none g c = λ _.
    object_opened g.T.Item.said c.args.name.now c.args.depth c.args.reader.now c.open_object.new.reader (omega arith) (grind arith)
    ∙ object_without g.T.Item.said c.args.name.now _ c.read_members.new.reader
    (c.in_ok-found.ensures.is ∙ ap (λ o. Some (option_map (λ list. map g.T.Item.shown list.items) o, c.read_members.new.reader)) c.in-None.is)

pub returns-in_err-found-clause-none : goal.returns-in_err-found-clause-none
returns-in_err-found-clause-none g c =
    let e = err_from_is_err_and c.from_residual.result c.from_residual.ensures.1 in
    rw e.1 (λ other.
    object_opened g.T.Item.said c.args.name.now c.args.depth c.args.reader.now c.open_object.new.reader (omega arith) (grind arith)
    ∙ object_refused g.T.Item.said c.args.name.now _ (c.in_err-found.ensures.none (λ memory. other (e.2 ∙ memory))))
