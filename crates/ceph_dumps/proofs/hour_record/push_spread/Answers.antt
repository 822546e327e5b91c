use Rattle.std.proofs.Common.{◌∙◌, ◌<◌, ◌++◌, ℕ, List, ap, append_assoc, length, slice_index, take}
use Rattle.ceph_dumps.specs.HourRecord.{next_number, numbers_text}
use Rattle.ceph_dumps.proofs.Lines.{spread_next}
use Rattle.ceph_dumps.proofs.hour_record.push_spread.Goals as goal

pub loop-at-preserved : goal.loop-at-preserved
loop-at-preserved c =
    let xs : List ℕ = c.args.spread.now in
    let at : ℕ = c.loop-at.at in
    let inside : at < length xs = c.loop-at-test.true in
    c.in_ok-push_next.ensures
    ∙ (ap (λ (text : List ℕ). text ++ next_number at (slice_index xs at)) c.loop-at.invariant
    ∙ (append_assoc c.args.text.now.items (numbers_text (take at xs)) (next_number at (slice_index xs at))
    ∙ ap (λ (text : List ℕ). c.args.text.now.items ++ text) (spread_next xs at inside)))
