use Rattle.std.proofs.Common.{◌≡◌, ◌<◌, ◌-◌, ◌∙◌, ◌++◌, ◌∷◌, [], ℕ, List, Some, length, get_or, ap, subst, sym}
use Rattle.std.proofs.Math.Nat.{le_of_lt}
use Rattle.std.proofs.lemmas.List.{get_or_default, get_or_read}
use Rattle.ceph_plan.specs.declared.row.PinChange.{PinChange}
use Rattle.ceph_plan.specs.declared.row.PinRow.{PinRow}
use Rattle.ceph_plan.specs.declared.hold.Hold.{Hold}
use Rattle.ceph_plan.specs.declared.hold.Hold.TheVariants.{Foreign, Free}
use Rattle.ceph_plan.specs.Rule.{no_row, row_at, target_at}
use Rattle.ceph_plan.specs.Holds.{hold_at}
use Rattle.ceph_plan.specs.Changes.{is_set, sets_below}
use Rattle.ceph_plan.proofs.PinList.{before-inside}
use Rattle.ceph_plan.proofs.ScriptEnds.{with_no_set, with_set}
use Rattle.ceph_plan.proofs.changes.push_sets.Goals as goal

-- whether a row is to get a new pin, as it is read
read-set : (rows : List PinRow) (holds : List Hold) (row : PinRow) (at : ℕ) → length holds ≡ length rows → at < length rows → row ≡ row_at rows at
    → is_set row (get_or holds at Foreign) ≡ is_set (row_at rows at) (hold_at holds at)
read-set rows holds row at size inside is =
    ap (λ (r : PinRow). is_set r (get_or holds at Foreign)) is
    ∙ ap (λ (h : Hold). is_set (row_at rows at) h) (get_or_default holds at Foreign Free (subst (λ (n : ℕ). at < n) (sym size) inside))

pub loop-i-preserved-in-Continue-1 : goal.loop-i-preserved-in-Continue-1
loop-i-preserved-in-Continue-1 c =
    let rows : List PinRow = c.args.rows.now in
    let holds : List Hold = c.args.holds.now in
    let done : List PinChange = c.loop-i.changes.items in
    let at : ℕ = c.loop-i.i - 1 in
    let inside : at < length rows = before-inside c.loop-i.i (length rows) c.loop-i-test.true c.loop-i.invariant.inside in
    let row : c.index-rows-i.result ≡ row_at rows at = get_or_read rows at c.index-rows-i.result inside c.index-rows-i.is no_row in
    let pinned : c.index-rows-i-then-sets.result ≡ row_at rows at =
    get_or_read rows at c.index-rows-i-then-sets.result inside c.index-rows-i-then-sets.is no_row in
    let pushed : c.push.new.self.items ≡ done ++ record { row = at; pin = Some (target_at rows at) } ∷ [] =
    c.in_ok-push.ensures.items ∙ ap (λ (one : PinRow). done ++ record { row = at; pin = Some one.target } ∷ []) (sym c.index-rows-i-then-sets.is ∙ pinned) in
    record {
      inside = le_of_lt inside;
      changes = ap (λ (changes : List PinChange). changes ++ sets_below rows holds at) pushed
          ∙ with_set rows holds done _ c.loop-i.i c.loop-i-test.true c.loop-i.invariant.changes
          (sym (read-set rows holds c.index-rows-i.result at c.requires.size inside row) ∙ sym c.if-sets.ensures);
    }

pub loop-i-preserved : goal.loop-i-preserved
loop-i-preserved c =
    let rows : List PinRow = c.args.rows.now in
    let holds : List Hold = c.args.holds.now in
    let at : ℕ = c.loop-i.i - 1 in
    let inside : at < length rows = before-inside c.loop-i.i (length rows) c.loop-i-test.true c.loop-i.invariant.inside in
    let row : c.index-rows-i.result ≡ row_at rows at = get_or_read rows at c.index-rows-i.result inside c.index-rows-i.is no_row in
    record {
      inside = le_of_lt inside;
      changes = with_no_set rows holds c.loop-i.changes.items _ c.loop-i.i c.loop-i-test.true c.loop-i.invariant.changes
          (sym (read-set rows holds c.index-rows-i.result at c.requires.size inside row) ∙ sym c.if-sets.ensures);
    }
