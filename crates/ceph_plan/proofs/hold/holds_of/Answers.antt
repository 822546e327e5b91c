use Rattle.std.proofs.Common.{◌≡◌, ◌<◌, ℕ, length, ◌+◌, List, ◌∷◌, [], ◌++◌, arith, ◌∙◌, sym, ap, subst}
use Rattle.std.specs.Vec.{vec_len}
use Rattle.std.proofs.Math.Nat.{lt_trans}
use Rattle.std.proofs.lemmas.List.{get_or_read, length_push}
use Rattle.ceph_plan.specs.declared.row.PinRow.{PinRow}
use Rattle.ceph_plan.specs.declared.hold.Hold.{Hold}
use Rattle.ceph_plan.specs.declared.hold.Hold.TheVariants.{Free}
use Rattle.ceph_plan.specs.Rule.{no_row, parent_at, row_at}
use Rattle.ceph_plan.specs.Holds.{AreHolds, hold_at, hold_of}
use Rattle.ceph_plan.proofs.Found.{hold_more, parent-before}
use Rattle.ceph_plan.proofs.hold.holds_of.Goals as goal
use Rattle.ceph_plan.proofs.hold.holds_of.Goals.{then-i-eq0, else-i-eq0}

pub index-requires : goal.index-requires
index-requires c =
    let size : c.loop-i.i ≡ vec_len c.loop-i.holds = sym (c.loop-i.holds.ok.0 ∙ c.loop-i.invariant.size) in
    subst (λ (n : ℕ). c.index-rows-i.result.parent < n) size
    (parent-before c.args.rows.now c.index-rows-i.result c.loop-i.i c.requires c.if-i-eq0.false c.loop-i-test.true c.index-rows-i.is)

pub bounds-rows-parent : goal.bounds-rows-parent
bounds-rows-parent c =
    lt_trans (parent-before c.args.rows.now c.index-rows-i.result c.loop-i.i c.requires c.if-i-eq0.false c.loop-i-test.true
    c.index-rows-i.is) c.loop-i-test.true

pub loop-i-preserved : goal.loop-i-preserved
loop-i-preserved c =
    let rows : List PinRow = c.args.rows.now in
    let items : List Hold = c.loop-i.holds.items in
    let i : ℕ = c.loop-i.i in
    let pushed : c.push.new.self.items ≡ items ++ c.if-i-eq0.hold ∷ [] = c.in_ok-push.ensures.items in
    let inside : i < length rows = omega arith in
    let row : c.index-rows-i.result ≡ row_at rows i = get_or_read rows i c.index-rows-i.result inside c.index-rows-i.is no_row in
    record {
      size = ap length pushed ∙ (length_push items c.if-i-eq0.hold ∙ ap (λ (n : ℕ). n + 1) c.loop-i.invariant.size);
      holds = subst (λ (hs : List Hold). AreHolds rows hs (i + 1)) (sym pushed) (elim c.if-i-eq0.branch [
        | then-i-eq0 w ↦
            let is : i ≡ 0 = w.if-i-eq0.true in
            hold_more rows items c.if-i-eq0.hold i c.loop-i.invariant.size c.requires c.loop-i.invariant.holds inside (λ first. w.hold-is)
            (λ later. absurd (omega (arith, later, is)))
        | else-i-eq0 w ↦
            hold_more rows items c.if-i-eq0.hold i c.loop-i.invariant.size c.requires c.loop-i.invariant.holds inside (λ first. absurd (w.if-i-eq0.false first))
            (λ later.
            let up : parent_at rows i < i = c.requires.above i later inside in
            let at : c.index-rows-i.result.parent ≡ parent_at rows i = ap (λ (r : PinRow). r.parent) row in
            let parent : w.index-rows-parent.result ≡ row_at rows (parent_at rows i) =
            get_or_read rows c.index-rows-i.result.parent w.index-rows-parent.result (omega (arith, at, up, inside)) w.index-rows-parent.is no_row
            ∙ ap (λ (k : ℕ). row_at rows k) at in
            let hold : w.index.result.now ≡ hold_at items (parent_at rows i) =
            get_or_read items c.index-rows-i.result.parent w.index.result.now (omega (arith, at, up, c.loop-i.invariant.size)) w.index.ensures Free
            ∙ ap (λ (k : ℕ). hold_at items k) at in
            w.hold-is ∙ (w.next_hold-hold.ensures
            ∙ (ap (λ (r : PinRow). hold_of r w.index-rows-parent.result w.index.result.now) row
            ∙ (ap (λ (r : PinRow). hold_of (row_at rows i) r w.index.result.now) parent
            ∙ ap (λ (h : Hold). hold_of (row_at rows i) (row_at rows (parent_at rows i)) h) hold))))
      ]);
    }
