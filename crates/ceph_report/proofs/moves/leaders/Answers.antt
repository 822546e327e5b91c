use Rattle.std.proofs.Common.{◌≡◌, ◌∙◌, ◌+◌, ◌<◌, ◌≤◌, ◌++◌, ◌∷◌, [], ℕ, Bool, List, Option, None, ap, arith, get_or, is_some, length, sym, subst}
use Rattle.std.proofs.lemmas.List.{get_or_read}
use Rattle.ceph_plan.specs.declared.row.PinRow.{PinRow}
use Rattle.ceph_plan.specs.Rule.{no_row, parent_at, row_at}
use Rattle.ceph_report.specs.Moves.{AreLeaders, leader_of}
use Rattle.ceph_report.proofs.Led.{above_more, leaders_more}
use Rattle.ceph_report.proofs.moves.leaders.Goals as goal

pub loop-at-preserved : goal.loop-at-preserved
loop-at-preserved c =
    let rows : List PinRow = c.args.rows.now in
    let pins : ℕ → Bool = λ (i : ℕ). is_some (get_or c.args.pins.now i None) in
    let items : List ℕ = c.loop-at.leaders.items in
    let at : ℕ = c.loop-at.at in
    let size : length items ≡ at = c.loop-at.invariant.led.size in
    let one : ℕ = c.leader-one.result in
    let inside : at < length rows = omega arith in
    let read : PinRow = get_or rows at c.index-rows-at.result in
    let row : read ≡ row_at rows at = sym c.index-rows-at.is ∙ get_or_read rows at c.index-rows-at.result inside c.index-rows-at.is no_row in
    let read_pin : c.index-pins-at.result ≡ get_or c.args.pins.now at None =
    get_or_read c.args.pins.now at c.index-pins-at.result (omega (arith, inside, c.requires)) c.index-pins-at.is None in
    let pin : c.is_some-is_pinned.result ≡ pins at = c.is_some-is_pinned.ensures ∙ ap (λ (p : Option ℕ). is_some p) read_pin in
    let is : one ≡ leader_of (pins at) (parent_at rows at) at items =
    c.leader-one.ensures.is
    ∙ (ap (λ (xs : List ℕ). leader_of c.is_some-is_pinned.result read.parent (length xs) xs) c.deref.ensures.value
    ∙ (ap (λ (k : ℕ). leader_of c.is_some-is_pinned.result read.parent k items) size
    ∙ (ap (λ (p : Bool). leader_of p read.parent at items) pin
    ∙ ap (λ (r : PinRow). leader_of (pins at) r.parent at items) row))) in
    let last : one ≤ length items = subst (λ (xs : List ℕ). one ≤ length xs) c.deref.ensures.value c.leader-one.ensures.above in
    let pushed : c.push.new.self.items ≡ items ++ one ∷ [] = c.in_ok-push.ensures.items in
    subst (λ (xs : List ℕ). record {
      led : AreLeaders (parent_at rows) pins (at + 1) xs;
      above : (i : ℕ) → i < at + 1 → get_or xs i 0 ≤ i;
    }) (sym pushed) (record {
      led = leaders_more (parent_at rows) pins items at one c.loop-at.invariant.led is;
      above = above_more items at one size c.loop-at.invariant.above last;
    })
