use Rattle.std.proofs.Common.{◌≡◌, ◌+◌, ◌<◌, ◌∙◌, ℕ, List, ap, arith, get_or, length, length-set, min, refl}
use Rattle.std.proofs.lemmas.List.{get_or_read}
use Rattle.ceph_snapshot.specs.Holding.{most_heat}
use Rattle.ceph_report.specs.Moves.{brought_by}
use Rattle.ceph_report.proofs.Totals.{brought_step, sums_more}
use Rattle.ceph_report.proofs.moves.brought_sums.Goals as goal

pub loop-at-preserved : goal.loop-at-preserved
loop-at-preserved c =
    let items : List ℕ = c.loop-at.sums.items in
    let leaders : List ℕ = c.args.leaders.now in
    let at : ℕ = c.loop-at.at in
    let leader : ℕ = get_or leaders at 0 in
    let size : length items ≡ length c.args.rows.now = c.loop-at.invariant.size in
    let inside : leader < length c.args.rows.now = c.requires.inside at (omega (arith, c.loop-at-test.true, c.requires.size)) in
    let here : c.index.result.now ≡ get_or items leader 0 = get_or_read items leader c.index.result.now (omega (arith, inside, size)) c.index.ensures 0 in
    let by : ℕ → ℕ → ℕ = λ (n r : ℕ). brought_by c.args.what c.args.directories.now c.args.holds.now c.args.rows.now leaders n r in
    record {
      size = length-set items leader c.saturating_add.result ∙ size;
      sums = sums_more items (by at) (by (at + 1)) (length c.args.rows.now) leader c.leaving_at-more.result c.saturating_add.result size
          c.loop-at.invariant.sums inside (omega (arith, here, c.saturating_add.ensures))
          (λ r. brought_step c.args.what c.args.directories.now c.args.holds.now c.args.rows.now leaders r at leader
          c.leaving_at-more.result refl c.leaving_at-more.ensures);
    }

pub returns : goal.returns
returns c =
    let end : c.loop-at.at ≡ length c.args.rows.now = omega (arith, c.loop-at-test.false, c.loop-at.auto.at-end, c.requires.size) in
    record {
      size = c.loop-at.invariant.size;
      sums = λ i below.
          c.loop-at.invariant.sums i below
          ∙ ap (λ (n : ℕ). min most_heat (brought_by c.args.what c.args.directories.now c.args.holds.now c.args.rows.now c.args.leaders.now n i)) end;
    }
