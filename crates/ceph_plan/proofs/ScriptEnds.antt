-- The contract of the changes, and one more row.
use Rattle.std.proofs.Common.{All, ◌≡◌, ◌≢◌, ℕ, zero, suc, ◌+◌, ◌-◌, ◌<◌, ◌≤◌, List, [], ◌∷◌, ◌++◌, length, take, true}
use Rattle.std.proofs.Common.{false, cond, eqb, not, ◌&&◌, Option, Some, None, refl, ap, sym, ◌∙◌, arith, ⊎_elim, inl, inr, subst}
use Rattle.std.specs.Prelude.{is_some, is_none}
use Rattle.std.proofs.lemmas.Bool.{and_from, and_parts, both_ways, cases_Bool, cases_lt, eq-eqb, not-true, not_from_false, lt-ltb, le-ltb}
use Rattle.std.proofs.lemmas.List.{get_or_past}
use Rattle.std.proofs.lemmas.List.Elements.{All-append, All-cons, All-nil}
use Rattle.ceph_plan.specs.declared.row.PinRow.{PinRow}
use Rattle.ceph_plan.specs.declared.row.PinChange.{PinChange}
use Rattle.ceph_plan.specs.declared.hold.Hold.{Hold}
use Rattle.ceph_plan.specs.declared.hold.Hold.TheVariants.{Foreign, Free, Own}
use Rattle.ceph_plan.specs.Rule.{IsAt, IsRealized, first_of, foreign_at, no_row, parent_at, row_at, target_at, without}
use Rattle.ceph_plan.specs.Holds.{HoldEach, hold_at, hold_of, is_own, rests_at}
use Rattle.ceph_plan.specs.Changes.{AreForced, AreNeeded, AreUntouched, MovesOnce, StillHolds, applied, before_pin}
use Rattle.ceph_plan.specs.Changes.{drops_from, is_dropped, is_set, sets_below, stands, while_set, while_unset}
use Rattle.ceph_plan.proofs.Held.{IsHeld, IsOwnBy, own_below, own_by, own_held, own_inside, rests_is, some_or_none}
use Rattle.ceph_plan.proofs.Held as held
use Rattle.ceph_plan.proofs.Found.{new_pin}
use Rattle.ceph_plan.proofs.Found as found
use Rattle.ceph_plan.proofs.PinList.{more-before, with_none, with_one}
use Rattle.ceph_plan.proofs.Script.{AreSame, AreStates, ends, once, same_at, same_near}

is_none_none : (o : Option ℕ) → is_none o ≡ true → o ≡ None
is_none_none None e = refl
is_none_none (Some r) e = absurd (both_ways false refl e)

rank_in : Option ℕ → ℕ
rank_in None = 0
rank_in (Some rank) = rank

rests_false : (o : Option ℕ) (target : ℕ) → rests_at o target ≡ false → o ≢ Some target
unfolding rank_in
rests_false None target is same = both_ways (is_none (Some target)) refl (ap is_none (sym same))
rests_false (Some rank) target is same = both_ways (rests_at (Some rank) target) is (eq-eqb rank target (ap rank_in same))

-- a new pin that isn't set is there already
standing_is : (row : PinRow) (hold : Hold) → is_own hold ≡ true → is_set row hold ≡ false → first_of row.foreign row.earlier ≡ Some row.target
standing_is row hold own is =
    ⊎_elim (λ (yes : stands row ≡ true). rests_is (first_of row.foreign row.earlier) row.target yes)
    (λ (no : stands row ≡ false). absurd (both_ways (is_set row hold) is (and_from (is_own hold) (not (stands row)) own (not_from_false (stands row) no))))
    (cases_Bool (stands row))

pub states : (rows : List PinRow) (holds : List Hold) → HoldEach rows holds → AreStates rows holds (before_pin rows) (new_pin rows holds)
states rows holds are =
    let by : IsOwnBy rows holds (new_pin rows holds) = own_by rows holds are in
    let mine_none : (i : ℕ) → foreign_at rows i ≡ None → is_own (hold_at holds i) ≡ false → new_pin rows holds i ≡ None =
    λ i none is. by.mine i none ∙ (rw is refl) in
    record {
      set = λ i is.
          let own : is_own (hold_at holds i) ≡ true = (and_parts (is_own (hold_at holds i)) (not (stands (row_at rows i))) is).0 in
          let here : IsHeld rows (new_pin rows holds) i Own = own_held rows holds (new_pin rows holds) i are by own in here.1;
      not_set = λ i is.
          ⊎_elim (λ (some : (r : ℕ) × (foreign_at rows i ≡ Some r)).
          let after : new_pin rows holds i ≡ Some some.0 = by.foreign i some.0 some.1 in
          let before : before_pin rows i ≡ Some some.0 = ap (λ (o : Option ℕ). first_of o (row_at rows i).earlier) some.1 in
          ap (λ (o : Option ℕ). first_of o (before_pin rows i)) after ∙ sym before)
          (λ (none : foreign_at rows i ≡ None).
          ⊎_elim (λ (own : is_own (hold_at holds i) ≡ true).
          let after : new_pin rows holds i ≡ Some (target_at rows i) = by.mine i none ∙ (rw own refl) in
          let before : before_pin rows i ≡ Some (target_at rows i) = standing_is (row_at rows i) (hold_at holds i) own is in
          ap (λ (o : Option ℕ). first_of o (before_pin rows i)) after ∙ sym before)
          (λ (own : is_own (hold_at holds i) ≡ false). ap (λ (o : Option ℕ). first_of o (before_pin rows i)) (mine_none i none own))
          (cases_Bool (is_own (hold_at holds i))))
          (some_or_none (foreign_at rows i));
      dropped = λ i is.
          let parts = and_parts (is_none (foreign_at rows i)) (is_some (row_at rows i).earlier && not (is_own (hold_at holds i))) is in
          let own = not-true (is_own (hold_at holds i)) (and_parts (is_some (row_at rows i).earlier) (not (is_own (hold_at holds i))) parts.1).1 in
          mine_none i (is_none_none (foreign_at rows i) parts.0) own;
      not_dropped = λ i is.
          ⊎_elim (λ (some : (r : ℕ) × (foreign_at rows i ≡ Some r)).
          let after : new_pin rows holds i ≡ Some some.0 = by.foreign i some.0 some.1 in
          ap (λ (o : Option ℕ). first_of o (before_pin rows i)) after ∙ sym after)
          (λ (none : foreign_at rows i ≡ None).
          ⊎_elim (λ (own : is_own (hold_at holds i) ≡ true).
          let after : new_pin rows holds i ≡ Some (target_at rows i) = by.mine i none ∙ (rw own refl) in
          ap (λ (o : Option ℕ). first_of o (before_pin rows i)) after ∙ sym after)
          (λ (own : is_own (hold_at holds i) ≡ false).
          let after : new_pin rows holds i ≡ None = mine_none i none own in
          let before : before_pin rows i ≡ (row_at rows i).earlier = ap (λ (o : Option ℕ). first_of o (row_at rows i).earlier) none in
          ⊎_elim (λ (some : (r : ℕ) × ((row_at rows i).earlier ≡ Some r)).
          let yes : is_dropped (row_at rows i) (hold_at holds i) ≡ true =
          and_from (is_none (foreign_at rows i)) (is_some (row_at rows i).earlier && not (is_own (hold_at holds i))) (ap is_none none)
          (and_from (is_some (row_at rows i).earlier) (not (is_own (hold_at holds i))) (ap is_some some.1) (not_from_false (is_own (hold_at holds i)) own)) in
          absurd (both_ways (is_dropped (row_at rows i) (hold_at holds i)) is yes))
          (λ (no : (row_at rows i).earlier ≡ None).
          ap (λ (o : Option ℕ). first_of o (before_pin rows i)) after ∙ (before ∙ (no ∙ sym after)))
          (some_or_none (row_at rows i).earlier))
          (cases_Bool (is_own (hold_at holds i))))
          (some_or_none (foreign_at rows i));
    }

start : (rows : List PinRow) (holds : List Hold) (old new : ℕ → Option ℕ) → length holds ≡ length rows → AreStates rows holds old new
    → AreSame old (while_set old new (length rows))
start rows holds old new size states = record {
  same = λ j.
      ⊎_elim (λ (low : j < length rows). rw (lt-ltb j (length rows) low) refl)
      (λ (high : length rows ≤ j).
      let free : hold_at holds j ≡ Free = get_or_past holds j Free (omega (arith, size, high)) in
      rw (le-ltb j (length rows) high) (sym (states.not_set j (ap (λ (hold : Hold). is_set (row_at rows j) hold) free))))
      (cases_lt j (length rows));
}

finish : (rows : List PinRow) (holds : List Hold) (old new : ℕ → Option ℕ) (n : ℕ) → n ≡ length rows → AreStates rows holds old new
    → AreSame (while_unset old new n) new
finish rows holds old new n is states = record {
  same = λ j.
      ⊎_elim (λ (low : j < n). rw (lt-ltb j n low) refl)
      (λ (high : n ≤ j).
      let none : row_at rows j ≡ no_row = get_or_past rows j no_row (omega (arith, is, high)) in
      let kept : is_dropped (row_at rows j) (hold_at holds j) ≡ false = ap (λ (row : PinRow). is_dropped row (hold_at holds j)) none in
      rw (le-ltb j n high) (states.not_dropped j kept))
      (cases_lt j n);
}

-- the whole list
pub record AreChanges (rows : List PinRow) (holds : List Hold) (changes : List PinChange) : Type 0 where
  pub held : HoldEach rows holds
  pub changes_are : changes ≡ sets_below rows holds (length rows) ++ drops_from rows holds (length rows) 0

in_the_end : (rows : List PinRow) (holds : List Hold) (changes : List PinChange) → AreChanges rows holds changes
    → AreSame (applied (before_pin rows) changes) (new_pin rows holds)
in_the_end rows holds changes f =
    let is = states rows holds f.held in
    let begin = start rows holds (before_pin rows) (new_pin rows holds) f.held.size is in
    let near = ends rows holds (before_pin rows) (new_pin rows holds) is begin in
    let last = finish rows holds (before_pin rows) (new_pin rows holds) (0 + length rows) (omega arith) is in
    subst (λ (cs : List PinChange). AreSame (applied (before_pin rows) cs) (new_pin rows holds)) (sym f.changes_are)
    (record { same = λ j. near.same j ∙ last.same j })

back : (own other : ℕ → Option ℕ) → AreSame own other → AreSame other own
back own other s = record { same = λ j. sym (s.same j) }

pub realized : (rows : List PinRow) (holds : List Hold) (changes : List PinChange) → AreChanges rows holds changes
    → IsRealized rows (applied (before_pin rows) changes)
realized rows holds changes f i ours =
    same_at rows (new_pin rows holds) (applied (before_pin rows) changes) i (target_at rows i)
    (back (applied (before_pin rows) changes) (new_pin rows holds) (in_the_end rows holds changes f))
    (held.realized rows holds (new_pin rows holds) f.held (own_by rows holds f.held) i ours)

pub moves_once : (rows : List PinRow) (holds : List Hold) (changes : List PinChange) → AreChanges rows holds changes → MovesOnce rows changes
moves_once rows holds changes f k i r l near =
    let is = states rows holds f.held in
    let begin = start rows holds (before_pin rows) (new_pin rows holds) f.held.size is in
    elim (once rows holds (before_pin rows) (new_pin rows holds) k i r f.held.are is begin l
    (subst (λ (cs : List PinChange). IsAt rows (applied (before_pin rows) (take k cs)) i r) f.changes_are near)) [
      | inl before ↦ inl before
      | inr after ↦ inr (same_at rows (new_pin rows holds) (applied (before_pin rows) changes) i r
          (back (applied (before_pin rows) changes) (new_pin rows holds) (in_the_end rows holds changes f)) after)
    ]

pub with_no_set : (rows : List PinRow) (holds : List Hold) (done all : List PinChange) (i : ℕ) → 0 < i
    → done ++ sets_below rows holds i ≡ all → is_set (row_at rows (i - 1)) (hold_at holds (i - 1)) ≡ false
    → done ++ sets_below rows holds (i - 1) ≡ all
with_no_set rows holds done all i l is set = with_none done (sets_below rows holds (i - 1)) all
    (record { row = i - 1; pin = Some (target_at rows (i - 1)) }) (is_set (row_at rows (i - 1)) (hold_at holds (i - 1)))
    (subst (λ (n : ℕ). done ++ sets_below rows holds n ≡ all) (more-before i l) is) set

pub with_set : (rows : List PinRow) (holds : List Hold) (done all : List PinChange) (i : ℕ) → 0 < i → done ++ sets_below rows holds i ≡ all
    → is_set (row_at rows (i - 1)) (hold_at holds (i - 1)) ≡ true
    → (done ++ record { row = i - 1; pin = Some (target_at rows (i - 1)) } ∷ []) ++ sets_below rows holds (i - 1) ≡ all
with_set rows holds done all i l is set = with_one done (sets_below rows holds (i - 1)) all
    (record { row = i - 1; pin = Some (target_at rows (i - 1)) }) (is_set (row_at rows (i - 1)) (hold_at holds (i - 1)))
    (subst (λ (n : ℕ). done ++ sets_below rows holds n ≡ all) (more-before i l) is) set

drops-split : (rows : List PinRow) (holds : List Hold) (n i : ℕ) → i < n
    → drops_from rows holds (n - i) i ≡ cond (is_dropped (row_at rows i) (hold_at holds i)) (record { row = i; pin = None } ∷ []) []
    ++ drops_from rows holds (n - (i + 1)) (i + 1)
drops-split rows holds n i l =
    let more : n - i ≡ suc (n - (i + 1)) = omega (arith, l) in
    let next : i + 1 ≡ suc i = omega arith in
    rw (more, next) refl

pub with_drop : (rows : List PinRow) (holds : List Hold) (done all : List PinChange) (n i : ℕ) → i < n
    → done ++ drops_from rows holds (n - i) i ≡ all → is_dropped (row_at rows i) (hold_at holds i) ≡ true
    → (done ++ record { row = i; pin = None } ∷ []) ++ drops_from rows holds (n - (i + 1)) (i + 1) ≡ all
with_drop rows holds done all n i l is drop = with_one done (drops_from rows holds (n - (i + 1)) (i + 1)) all
    (record { row = i; pin = None }) (is_dropped (row_at rows i) (hold_at holds i))
    (subst (λ (cs : List PinChange). done ++ cs ≡ all) (drops-split rows holds n i l) is) drop

pub with_no_drop : (rows : List PinRow) (holds : List Hold) (done all : List PinChange) (n i : ℕ) → i < n
    → done ++ drops_from rows holds (n - i) i ≡ all → is_dropped (row_at rows i) (hold_at holds i) ≡ false
    → done ++ drops_from rows holds (n - (i + 1)) (i + 1) ≡ all
with_no_drop rows holds done all n i l is drop = with_none done (drops_from rows holds (n - (i + 1)) (i + 1)) all
    (record { row = i; pin = None }) (is_dropped (row_at rows i) (hold_at holds i))
    (subst (λ (cs : List PinChange). done ++ cs ≡ all) (drops-split rows holds n i l) is) drop

-- what holds of each change that is made holds of all
all_sets : (P : PinChange → Type 0) (rows : List PinRow) (holds : List Hold)
    → ((i : ℕ) → is_set (row_at rows i) (hold_at holds i) ≡ true → P (record { row = i; pin = Some (target_at rows i) }))
    → (n : ℕ) → All P (sets_below rows holds n)
all_sets P rows holds each zero = All-nil P
all_sets P rows holds each (suc n) =
    ⊎_elim (λ (is : is_set (row_at rows n) (hold_at holds n) ≡ true).
    rw is (All-cons P (record { row = n; pin = Some (target_at rows n) }) (sets_below rows holds n) (each n is) (all_sets P rows holds each n)))
    (λ (is : is_set (row_at rows n) (hold_at holds n) ≡ false). rw is (all_sets P rows holds each n))
    (cases_Bool (is_set (row_at rows n) (hold_at holds n)))

all_drops : (P : PinChange → Type 0) (rows : List PinRow) (holds : List Hold)
    → ((i : ℕ) → is_dropped (row_at rows i) (hold_at holds i) ≡ true → P (record { row = i; pin = None }))
    → (n m : ℕ) → All P (drops_from rows holds n m)
all_drops P rows holds each zero m = All-nil P
all_drops P rows holds each (suc n) m =
    ⊎_elim (λ (is : is_dropped (row_at rows m) (hold_at holds m) ≡ true).
    rw is (All-cons P (record { row = m; pin = None }) (drops_from rows holds n (suc m)) (each m is) (all_drops P rows holds each n (suc m))))
    (λ (is : is_dropped (row_at rows m) (hold_at holds m) ≡ false). rw is (all_drops P rows holds each n (suc m)))
    (cases_Bool (is_dropped (row_at rows m) (hold_at holds m)))

all_changes : (P : PinChange → Type 0) (rows : List PinRow) (holds : List Hold) (changes : List PinChange) → AreChanges rows holds changes
    → ((i : ℕ) → is_set (row_at rows i) (hold_at holds i) ≡ true → P (record { row = i; pin = Some (target_at rows i) }))
    → ((i : ℕ) → is_dropped (row_at rows i) (hold_at holds i) ≡ true → P (record { row = i; pin = None })) → All P changes
all_changes P rows holds changes f set dropped =
    subst (All P) (sym f.changes_are)
    (All-append P (sets_below rows holds (length rows)) (drops_from rows holds (length rows) 0) (all_sets P rows holds set (length rows))
    (all_drops P rows holds dropped (length rows) 0))

pub needed : (rows : List PinRow) (holds : List Hold) (changes : List PinChange) → AreChanges rows holds changes → AreNeeded rows changes
needed rows holds changes f =
    all_changes (λ change. before_pin rows change.row ≢ change.pin) rows holds changes f
    (λ i is. rests_false (before_pin rows i) (target_at rows i)
    (not-true (stands (row_at rows i)) (and_parts (is_own (hold_at holds i)) (not (stands (row_at rows i))) is).1))
    (λ i is same.
    let parts = and_parts (is_none (foreign_at rows i)) (is_some (row_at rows i).earlier && not (is_own (hold_at holds i))) is in
    let some = (and_parts (is_some (row_at rows i).earlier) (not (is_own (hold_at holds i))) parts.1).0 in
    let before : before_pin rows i ≡ (row_at rows i).earlier =
    ap (λ (o : Option ℕ). first_of o (row_at rows i).earlier) (is_none_none (foreign_at rows i) parts.0) in
    both_ways (is_some (row_at rows i).earlier) (ap is_some (sym before ∙ same)) some)

-- no change is of a row whose pin is to stay
no_foreign : (row parent : PinRow) (above : Hold) → is_own (hold_of row parent above) ≡ true → row.foreign ≡ None
no_foreign row parent above own =
    ⊎_elim (λ (some : is_some row.foreign ≡ true).
    let hold : hold_of row parent above ≡ Foreign = rw some refl in
    absurd (both_ways (is_own (hold_of row parent above)) (ap is_own hold) own))
    (λ (none : is_some row.foreign ≡ false). none_of row.foreign none)
    (cases_Bool (is_some row.foreign))
  where
    none_of : (o : Option ℕ) → is_some o ≡ false → o ≡ None
    none_of None e = refl
    none_of (Some r) e = absurd (both_ways true e refl)

own_unpinned : (rows : List PinRow) (holds : List Hold) (i : ℕ) → HoldEach rows holds → is_own (hold_at holds i) ≡ true
    → foreign_at rows i ≡ None
own_unpinned rows holds i are own =
    no_foreign (row_at rows i) (row_at rows (parent_at rows i)) (hold_at holds (parent_at rows i))
    (sym (ap is_own (are.each.below i (own_below rows holds i are own) (own_inside rows holds i are own))) ∙ own)

pub untouched : (rows : List PinRow) (holds : List Hold) (changes : List PinChange) → AreChanges rows holds changes → AreUntouched rows changes
untouched rows holds changes f =
    all_changes (λ change. foreign_at rows change.row ≡ None) rows holds changes f
    (λ i is. own_unpinned rows holds i f.held (and_parts (is_own (hold_at holds i)) (not (stands (row_at rows i))) is).0)
    (λ i is. is_none_none (foreign_at rows i)
    (and_parts (is_none (foreign_at rows i)) (is_some (row_at rows i).earlier && not (is_own (hold_at holds i))) is).0)

-- what a pin holds that is to stay, it still holds
pub kept : (rows : List PinRow) (holds : List Hold) (changes : List PinChange) → AreChanges rows holds changes
    → StillHolds rows (applied (before_pin rows) changes)
kept rows holds changes f i r near =
    same_near rows (new_pin rows holds) (applied (before_pin rows) changes) i r
    (back (applied (before_pin rows) changes) (new_pin rows holds) (in_the_end rows holds changes f))
    (held.kept rows holds (new_pin rows holds) f.held (own_by rows holds f.held) i r near)

-- a pin of ours that is there in the end is needed
pub forced : (rows : List PinRow) (holds : List Hold) (changes : List PinChange) → AreChanges rows holds changes
    → AreForced rows (applied (before_pin rows) changes)
forced rows holds changes f i free some there =
    let last = in_the_end rows holds changes f in
    found.needed rows holds i f.held
    (λ none. some (last.same i ∙ rw (free, none) refl))
    (same_at rows (without i (applied (before_pin rows) changes)) (without i (new_pin rows holds)) i (target_at rows i)
    (record { same = λ j. ap (λ (x : Option ℕ). cond (eqb j i) None x) (last.same j) }) there)
