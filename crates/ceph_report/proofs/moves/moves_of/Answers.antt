use Rattle.std.proofs.Common.{◌≡◌, ◌∙◌, ◌<◌, ◌-◌, ℕ, List, Option, None, ap, get_or, is_some, length, rules, subst}
use Rattle.std.proofs.lemmas.List.Sorted.{IsNonDecreasingBy-from_sort_by_key}
use Rattle.ceph_plan.specs.declared.row.PinRow.{PinRow}
use Rattle.ceph_plan.specs.Rule.{parent_at}
use Rattle.ceph_snapshot.specs.declared.directory.Directory.{Directory}
use Rattle.ceph_snapshot.specs.declared.held.Held.{Held}
use Rattle.ceph_snapshot.specs.Holding.{most_heat}
use Rattle.ceph_report.specs.declared.moves.Brought.TheVariants.{Heat, Inodes}
use Rattle.ceph_report.specs.declared.moves.Move.{Move}
use Rattle.ceph_report.specs.Moves.{AreLeaders, brought_at, moves_below, pin_move}
use Rattle.ceph_report.proofs.Led.{are_moves}
use Rattle.ceph_report.proofs.moves.moves_of.Goals as goal

pub returns : goal.returns
returns c =
    let ds : List Directory = c.args.directories.now in
    let holds : List Held = c.args.holds.now in
    let rows : List PinRow = c.args.rows.now in
    let pins : List (Option ℕ) = c.in_ok-pins.pins.items in
    let leaders : List ℕ = c.in_ok-leaders.leaders.items in
    let inodes : List ℕ = c.in_ok-inodes.inodes.items in
    let heats : List ℕ = c.in_ok-heats.heats.items in
    let moves : List Move = c.in_ok-moves.moves.items in
    let led : AreLeaders (parent_at rows) (λ (i : ℕ). is_some (get_or pins i None)) (length rows) leaders =
    subst (λ (ps : List (Option ℕ)). AreLeaders (parent_at rows) (λ (i : ℕ). is_some (get_or ps i None)) (length rows) leaders)
    c.deref.ensures.value c.in_ok-leaders.ensures.led in
    let into : (i : ℕ) → i < length rows → get_or inodes i 0 ≡ brought_at Inodes ds holds rows leaders i =
    subst (λ (ls : List ℕ). (i : ℕ) → i < length rows → get_or inodes i 0 ≡ brought_at Inodes ds holds rows ls i) c.deref-2.ensures.value
    c.in_ok-inodes.ensures.sums in
    let warm : (i : ℕ) → i < length rows → get_or heats i 0 ≡ brought_at Heat ds holds rows leaders i =
    subst (λ (ls : List ℕ). (i : ℕ) → i < length rows → get_or heats i 0 ≡ brought_at Heat ds holds rows ls i) c.deref-3.ensures.value
    c.in_ok-heats.ensures.sums in
    let made : moves ≡ moves_below (λ (i : ℕ). pin_move (get_or pins i None) (get_or inodes i 0) (get_or heats i 0) i) (length pins) =
    c.in_ok-moves.ensures
    ∙ (ap (λ (ps : List (Option ℕ)). moves_below
    (λ (i : ℕ). pin_move (get_or ps i None) (get_or c.deref-5.result.now i 0) (get_or c.deref-6.result.now i 0) i) (length ps))
    c.deref-4.ensures.value
    ∙ (ap (λ (ns : List ℕ). moves_below (λ (i : ℕ). pin_move (get_or pins i None) (get_or ns i 0) (get_or c.deref-6.result.now i 0) i)
    (length pins)) c.deref-5.ensures.value
    ∙ ap (λ (ns : List ℕ). moves_below (λ (i : ℕ). pin_move (get_or pins i None) (get_or inodes i 0) (get_or ns i 0) i) (length pins))
    c.deref-6.ensures.value)) in
    are_moves ds holds rows c.args.changes.now pins leaders inodes heats moves c.sort_by_key.new.self.items c.in_ok-pins.ensures.size
    c.in_ok-pins.ensures.pins led into warm made c.in_ok-sort_by_key.ensures.permutation
    (IsNonDecreasingBy-from_sort_by_key (λ (one : Move). most_heat - one.inodes) _ c.in_ok-sort_by_key.ensures.sorted (λ a r q k. search rules))
