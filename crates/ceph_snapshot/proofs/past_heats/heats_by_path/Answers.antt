use Rattle.std.proofs.Common.{◌≡◌, ◌<◌, ◌+◌, ◌-◌, ℕ, List, arith, drop, length, subst, sym}
use Rattle.std.specs.HashMap.{get_by}
use Rattle.std.specs.Option.{unwrap_or}
use Rattle.std.specs.Str.{bytes_eq}
use Rattle.ceph_dumps.specs.declared.hour_record.PastHeat.{PastHeat}
use Rattle.ceph_snapshot.specs.Hours.{heat_then}
use Rattle.ceph_snapshot.proofs.Earlier.{then_more}
use Rattle.ceph_snapshot.proofs.past_heats.heats_by_path.Goals as goal

pub loop-at-preserved : goal.loop-at-preserved
loop-at-preserved c =
    let past : List PastHeat = c.args.past.now in
    let at : ℕ = c.loop-at.at - 1 in
    let some : at + 1 ≡ c.loop-at.at = omega (arith, c.loop-at-test.true) in
    let inside : at < length past = omega (arith, c.loop-at-test.true, c.loop-at.invariant.inside) in
    record {
      inside = omega (arith, c.loop-at.invariant.inside);
      heats = λ path.
          then_more past at c.index-past-at.result path (get_by (λ key. bytes_eq path key.items) c.loop-at.heats)
          (get_by (λ key. bytes_eq path key.items) c.note.new.heats) inside c.index-past-at.is
          (c.in_ok-note.ensures path)
          (subst (λ (n : ℕ). unwrap_or (get_by (λ key. bytes_eq path key.items) c.loop-at.heats) 0 ≡ heat_then (drop n past) path)
          (sym some) (c.loop-at.invariant.heats path));
    }
