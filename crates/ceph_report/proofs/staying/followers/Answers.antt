use Rattle.std.proofs.Common.{◌≡◌, ◌+◌, ◌<◌, ◌∙◌, ℕ, List, ap, arith, get_or, length, length-set, min, refl}
use Rattle.std.proofs.lemmas.List.{get_or_read}
use Rattle.ceph_snapshot.specs.Holding.{most_heat}
use Rattle.ceph_report.specs.Staying.{followers}
use Rattle.ceph_report.proofs.Totals.{followers_step, sums_more}
use Rattle.ceph_report.proofs.staying.followers.Goals as goal

pub loop-at-preserved : goal.loop-at-preserved
loop-at-preserved c =
    let items : List ℕ = c.loop-at.counts.items in
    let leaders : List ℕ = c.args.leaders.now in
    let at : ℕ = c.loop-at.at in
    let leader : ℕ = get_or leaders at 0 in
    let size : length items ≡ length leaders = c.loop-at.invariant.size in
    let inside : leader < length leaders = c.requires at (omega (arith, c.loop-at-test.true)) in
    let here : c.index.result.now ≡ get_or items leader 0 = get_or_read items leader c.index.result.now (omega (arith, inside, size)) c.index.ensures 0 in
    record {
      size = length-set items leader c.saturating_add.result ∙ size;
      counts = sums_more items (followers leaders at) (followers leaders (at + 1)) (length leaders) leader c.follows-more.result
          c.saturating_add.result size c.loop-at.invariant.counts inside (omega (arith, here, c.saturating_add.ensures))
          (λ r. followers_step leaders r at leader c.follows-more.result refl c.follows-more.ensures);
    }

pub returns : goal.returns
returns c =
    let end : c.loop-at.at ≡ length c.args.leaders.now = omega (arith, c.loop-at-test.false, c.loop-at.auto.at-end) in
    record {
      size = c.loop-at.invariant.size;
      counts = λ i below.
          c.loop-at.invariant.counts i below
          ∙ ap (λ (n : ℕ). min most_heat (followers c.args.leaders.now n i)) end;
    }
