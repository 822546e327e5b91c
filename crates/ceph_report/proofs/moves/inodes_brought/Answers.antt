use Rattle.std.proofs.Common.{◌≡◌, ◌<◌, ℕ, List, Option, None, ap, get_or, is_some, length, subst}
use Rattle.ceph_plan.specs.declared.row.PinRow.{PinRow}
use Rattle.ceph_plan.specs.Rule.{parent_at}
use Rattle.ceph_snapshot.specs.declared.directory.Directory.{Directory}
use Rattle.ceph_snapshot.specs.declared.held.Held.{Held}
use Rattle.ceph_report.specs.declared.moves.Brought.TheVariants.{Inodes}
use Rattle.ceph_report.specs.Moves.{AreLeaders, brought_at, is_pinned_after}
use Rattle.ceph_report.proofs.Led.{leaders_same}
use Rattle.ceph_report.proofs.moves.inodes_brought.Goals as goal

pub returns : goal.returns
returns c =
    let ds : List Directory = c.args.directories.now in
    let holds : List Held = c.args.holds.now in
    let rows : List PinRow = c.args.rows.now in
    let pins : List (Option ℕ) = c.in_ok-pins.pins.items in
    let leaders : List ℕ = c.in_ok-leaders.leaders.items in
    let inodes : List ℕ = c.in_ok-inodes.inodes.items in
    let led : AreLeaders (parent_at rows) (λ (i : ℕ). is_some (get_or pins i None)) (length rows) leaders =
    subst (λ (ps : List (Option ℕ)). AreLeaders (parent_at rows) (λ (i : ℕ). is_some (get_or ps i None)) (length rows) leaders)
    c.deref.ensures.value c.in_ok-leaders.ensures.led in
    record {
      leaders = leaders;
      led = leaders_same (parent_at rows) (λ (i : ℕ). is_some (get_or pins i None)) (is_pinned_after rows c.args.changes.now) (length rows) leaders
          (λ i below. ap (λ (pin : Option ℕ). is_some pin) (c.in_ok-pins.ensures.pins i below)) led;
      size = c.in_ok-inodes.ensures.size;
      each = subst (λ (ls : List ℕ). (i : ℕ) → i < length rows → get_or inodes i 0 ≡ brought_at Inodes ds holds rows ls i)
          c.deref-2.ensures.value c.in_ok-inodes.ensures.sums;
    }
