use Rattle.std.proofs.Common.{◌≡◌, ◌<◌, ◌≤◌, ◌-◌, ◌∙◌, ℕ, Bool, List, Option, Some, false, true, length, slice_get, get_or, set, ap, refl, sym, subst, arith}
use Rattle.std.specs.Option.{option_map_or}
use Rattle.std.proofs.lemmas.Grind.{common_steps}
use Rattle.std.proofs.lemmas.Bool.{both_ways}
use Rattle.std.proofs.lemmas.List.{get_or_default}
use Rattle.std.proofs.lemmas.Option.{slice_get-get_or}
use Rattle.ceph_snapshot.specs.declared.directory.Directory.{Directory}
use Rattle.ceph_folding.specs.Folding.{HasToStay, IsPlain}
use Rattle.ceph_snapshot.specs.Holding.{parent_at, is_marked}
use Rattle.ceph_folding.proofs.HeatBelow.{marked-needed}
use Rattle.ceph_folding.proofs.Keys.{marked_above, marked_plain, parent_le}
use Rattle.ceph_folding.proofs.coldest.staying.Goals as goal
use Rattle.ceph_folding.proofs.coldest.staying.Goals.{then-index-via-then-index, then-index-via-else-index+then-not-is_plain}

pub loop-at-preserved-in-loop-at : goal.loop-at-preserved-in-loop-at
loop-at-preserved-in-loop-at c =
    let ds : List Directory = c.args.directories.now in
    let stays : List Bool = c.loop-at.stays.items in
    let at : ℕ = c.loop-at.at - 1 in
    let inside : at < length ds = omega (arith, c.loop-at-test.true, c.loop-at.invariant.low) in
    let read : slice_get ds at ≡ Some (get_or ds at c.index-directories-at.result) = slice_get-get_or ds at c.index-directories-at.result inside in
    let above : ℕ = (get_or ds at c.index-directories-at.result).parent in
    let parent : parent_at ds at ≡ above = ap (λ (o : Option Directory). option_map_or (λ (one : Directory). one.parent) o 0) read in
    let up : parent_at ds at ≤ at = parent_le ds at c.requires inside in
    let long : length (set stays at true) ≡ length stays = grind (arith, common_steps) in
    let first : at < length stays = omega (arith, inside, c.loop-at.invariant.size) in
    let second : above < length (set stays at true) = omega (arith, inside, c.loop-at.invariant.size, long, up, parent) in
    let before : above ≤ at = omega (arith, up, parent) in
    let is : c.mark.new.stays.items ≡ set (set stays at true) above true = c.mark.ensures in
    let size : length c.mark.new.stays.items ≡ length stays = grind (arith, common_steps, is) in
    let here : HasToStay ds at = elim c.then-index.branch [
      | then-index-via-then-index w ↦
          c.loop-at.invariant.needed at (sym (get_or_default stays at c.index.result.now false first) ∙ (sym c.index.ensures ∙ w.if-index.true))
      | then-index-via-else-index+then-not-is_plain w ↦
          record { below = at; inside = inside; steps = 0; there = refl; stays = λ plain. both_ways _ w.if-not-is_plain.true (w.is_plain.ensures.1 plain) }
    ] in
    record {
      size = size ∙ c.loop-at.invariant.size;
      low = omega (arith, inside);
      plain = subst (λ (marks : List Bool). (i : ℕ) → at ≤ i → i < length ds → is_marked marks i ≡ false → IsPlain ds i) (sym is)
          (marked_plain ds stays at above first second (λ i low. c.loop-at.invariant.plain i (omega (arith, low))));
      above = subst (λ (marks : List Bool). (i : ℕ) → 0 < i → at ≤ i → i < length ds → is_marked marks i ≡ true
          → is_marked marks (parent_at ds i) ≡ true) (sym is)
          (marked_above ds stays at above first second (sym parent) before (λ i some low. c.loop-at.invariant.above i some (omega (arith, low))));
      needed = subst (λ (marks : List Bool). (i : ℕ) → is_marked marks i ≡ true → HasToStay ds i) (sym is)
          (marked-needed ds stays at above first second (sym parent) here c.loop-at.invariant.needed);
    }
