-- What leads each directory, and the moves of all pins.
use Rattle.std.proofs.Common.{◌≡◌, ◌∙◌, ◌+◌, ◌<◌, ◌≤◌, ◌-◌, ℕ, zero, suc, Bool, true, false, cond, is_some, List}
use Rattle.std.proofs.Common.{[], ◌∷◌, ◌++◌, Option, None, ap, arith, get_or, leb, length, refl, subst, sym, below_more, ⊎_elim}
use Rattle.std.proofs.lemmas.Bool.{cases_Bool, leb-false}
use Rattle.std.proofs.lemmas.List.{get_or_append_left, get_or_push, length_push}
use Rattle.ceph_plan.specs.declared.row.PinRow.{PinRow}
use Rattle.ceph_plan.specs.Rule.{parent_at}
use Rattle.std.specs.List.Sorted.{IsNonDecreasingBy, IsPermutation}
use Rattle.ceph_plan.specs.declared.row.PinChange.{PinChange}
use Rattle.ceph_snapshot.specs.declared.directory.Directory.{Directory}
use Rattle.ceph_snapshot.specs.declared.held.Held.{Held}
use Rattle.ceph_snapshot.specs.Holding.{most_heat}
use Rattle.ceph_report.specs.declared.moves.Brought.TheVariants.{Heat, Inodes}
use Rattle.ceph_report.specs.declared.moves.Move.{Move}
use Rattle.ceph_report.specs.Moves.{AreLeaders, AreMoves, brought_at, is_pinned_after, leader_of, moved_after, moves_below, pin_after, pin_move}

-- only leaders before directory i count
unpinned_kept : (parent i x : ℕ) (xs : List ℕ) → i ≤ length xs
    → cond (leb i parent) i (get_or xs parent 0) ≡ cond (leb i parent) i (get_or (xs ++ x ∷ []) parent 0)
unpinned_kept parent i x xs inside =
    ⊎_elim (λ (past : leb i parent ≡ true). rw past refl)
    (λ (before : leb i parent ≡ false).
    let above : parent < i = leb-false i parent before in
    ap (λ (k : ℕ). cond (leb i parent) i k) (sym (get_or_append_left xs (x ∷ []) 0 parent (omega (arith, above, inside)))))
    (cases_Bool (leb i parent))

leader_kept : (leads : Bool) (parent i x : ℕ) (xs : List ℕ) → i ≤ length xs → leader_of leads parent i xs ≡ leader_of leads parent i (xs ++ x ∷ [])
leader_kept false parent i x xs inside = unpinned_kept parent i x xs inside
leader_kept true parent i x xs inside = refl

-- one more leader
pub leaders_more : (parent : ℕ → ℕ) (leads : ℕ → Bool) (xs : List ℕ) (at x : ℕ) → AreLeaders parent leads at xs
    → x ≡ leader_of (leads at) (parent at) at xs → AreLeaders parent leads (at + 1) (xs ++ x ∷ [])
leaders_more parent leads xs at x are is = record {
  size = length_push xs x ∙ ap (λ (n : ℕ). n + 1) are.size;
  led = below_more (λ (i : ℕ). get_or (xs ++ x ∷ []) i 0 ≡ leader_of (leads i) (parent i) i (xs ++ x ∷ [])) at
      (λ i before.
      get_or_append_left xs (x ∷ []) 0 i (omega (arith, before, are.size))
      ∙ (are.led i before ∙ leader_kept (leads i) (parent i) i x xs (omega (arith, before, are.size))))
      (get_or_push xs x 0 at are.size ∙ (is ∙ leader_kept (leads at) (parent at) at x xs (omega (arith, are.size))));
}

pub above_more : (xs : List ℕ) (at x : ℕ) → length xs ≡ at → ((i : ℕ) → i < at → get_or xs i 0 ≤ i) → x ≤ length xs → (i : ℕ) → i < at + 1
    → get_or (xs ++ x ∷ []) i 0 ≤ i
above_more xs at x size above last =
    below_more (λ (i : ℕ). get_or (xs ++ x ∷ []) i 0 ≤ i) at
    (λ i before. omega (arith, get_or_append_left xs (x ∷ []) 0 i (omega (arith, before, size)), above i before))
    (omega (arith, get_or_push xs x 0 at size, last, size))

-- with the same pins
pub leaders_same : (parent : ℕ → ℕ) (leads others : ℕ → Bool) (n : ℕ) (xs : List ℕ) → ((i : ℕ) → i < n → leads i ≡ others i)
    → AreLeaders parent leads n xs → AreLeaders parent others n xs
leaders_same parent leads others n xs same are = record {
  size = are.size;
  led = λ i below. are.led i below ∙ ap (λ (one : Bool). leader_of one (parent i) i xs) (same i below);
}

-- the same moves
pub moves_same : (f g : ℕ → Option Move) (n : ℕ) → ((i : ℕ) → i < n → f i ≡ g i) → moves_below f n ≡ moves_below g n
moves_same f g zero same = refl
moves_same f g (suc n) same =
    ap (λ (moves : List Move). moved_after moves (f n)) (moves_same f g n (λ i below. same i (omega (arith, below))))
    ∙ ap (λ (one : Option Move). moved_after (moves_below g n) one) (same n (omega arith))

-- the moves, once they are sorted
pub are_moves : (directories : List Directory) (holds : List Held) (rows : List PinRow) (changes : List PinChange) (pins : List (Option ℕ))
    (leaders inodes heats : List ℕ) (moves sorted : List Move)
    → length pins ≡ length rows
    → ((i : ℕ) → i < length rows → get_or pins i None ≡ pin_after rows changes i)
    → AreLeaders (parent_at rows) (λ (i : ℕ). is_some (get_or pins i None)) (length rows) leaders
    → ((i : ℕ) → i < length rows → get_or inodes i 0 ≡ brought_at Inodes directories holds rows leaders i)
    → ((i : ℕ) → i < length rows → get_or heats i 0 ≡ brought_at Heat directories holds rows leaders i)
    → moves ≡ moves_below (λ (i : ℕ). pin_move (get_or pins i None) (get_or inodes i 0) (get_or heats i 0) i) (length pins)
    → IsPermutation moves sorted
    → IsNonDecreasingBy (λ (one : Move). most_heat - one.inodes) sorted
    → AreMoves directories holds rows changes sorted
are_moves directories holds rows changes pins leaders inodes heats moves sorted size pinned led into warm is permuted first =
    let made : ℕ → Option Move = λ (i : ℕ). pin_move (get_or pins i None) (get_or inodes i 0) (get_or heats i 0) i in
    let meant : ℕ → Option Move = λ (i : ℕ). pin_move (pin_after rows changes i) (brought_at Inodes directories holds rows leaders i)
    (brought_at Heat directories holds rows leaders i) i in
    let each : (i : ℕ) → i < length rows → made i ≡ meant i =
    λ (i : ℕ) (below : i < length rows).
    ap (λ (pin : Option ℕ). pin_move pin (get_or inodes i 0) (get_or heats i 0) i) (pinned i below)
    ∙ (ap (λ (n : ℕ). pin_move (pin_after rows changes i) n (get_or heats i 0) i) (into i below)
    ∙ ap (λ (n : ℕ). pin_move (pin_after rows changes i) (brought_at Inodes directories holds rows leaders i) n i) (warm i below)) in
    let all : moves ≡ moves_below meant (length rows) =
    is ∙ (ap (λ (n : ℕ). moves_below made n) size ∙ moves_same made meant (length rows) each) in
    record {
      leaders = leaders;
      led = leaders_same (parent_at rows) (λ (i : ℕ). is_some (get_or pins i None)) (is_pinned_after rows changes) (length rows) leaders
          (λ i below. ap (λ (pin : Option ℕ). is_some pin) (pinned i below)) led;
      each = subst (λ (ones : List Move). IsPermutation ones sorted) all permuted;
      most_first = first;
    }
