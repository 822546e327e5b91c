use Rattle.std.proofs.Common.{◌≡◌, ◌∙◌, ◌<◌, ◌-◌, ◌++◌, ◌∷◌, [], None, ap, arith, length, map, rules, sym}
use Rattle.std.proofs.lemmas.List.{map-append}
use Rattle.std.proofs.lemmas.Result.{err_from_is_err_and}
use Rattle.json.specs.Json.{after_end_array, items, value}
use Rattle.ceph_dumps.specs.Reading.{said_of}
use Rattle.ceph_dumps.proofs.Saying.{each_behind, item_refused, item_turn, items_over}
use Rattle.ceph_dumps.proofs.items.read_items.Goals as goal

pub returns-in_err-item-clause-none : goal.returns-in_err-item-clause-none
returns-in_err-item-clause-none g c =
    let e = err_from_is_err_and c.from_residual.result c.from_residual.ensures.1 in
    let l = c.loop-alloc in
    let going : (after_end_array l.reader ≡ None) × (c.take_end_array.new.self ≡ l.reader) = grind arith in
    rw e.1 (λ other.
    l.invariant.2
    ∙ item_refused g.T.Item.said (value c.args.depth) (map g.T.Item.shown l.found.items) l.invariant.0 l.reader going.0
    (rw (← going.1) (c.in_err-item.ensures.none (λ memory. other (e.2 ∙ memory)))))

pub loop-alloc-preserved : goal.loop-alloc-preserved
loop-alloc-preserved g c =
    let said = g.T.Item.said in
    let shown = g.T.Item.shown in
    let p = value c.args.depth in
    let l = c.loop-alloc in
    let n = l.invariant.0 in
    let item = c.in_ok-item.item in
    let r = c.read_item.new.reader in
    let going : (after_end_array l.reader ≡ None) × (c.take_end_array.new.self ≡ l.reader) = grind arith in
    let less : length r < length l.reader = rw (← going.1) c.in_ok-item.ensures.less in
    let pushed : c.push.new.self.items ≡ l.found.items ++ item ∷ [] = search rules in
    let turn = item_turn said p (map shown l.found.items) n l.reader r (shown item) (omega (arith, l.invariant.1, less)) going.0
    (rw (← going.1) c.in_ok-item.ensures.is) in
    let both = sym (ap (map shown) pushed ∙ map-append shown l.found.items (item ∷ [])) in (
      n - 1,
      omega (arith, l.invariant.1, less),
      l.invariant.2 ∙ turn ∙ ap (λ done. said_of (each_behind said done) (items p (n - 1) r)) both,
      omega (arith, l.invariant.3, less),
    )

pub returns-clause-is : goal.returns-clause-is
returns-clause-is g c =
    let l = c.loop-alloc in
    l.invariant.2
    ∙ items_over g.T.Item.said (value c.args.depth) (map g.T.Item.shown l.found.items) l.invariant.0 l.reader c.take_end_array.new.self
    l.invariant.1 (grind arith)
