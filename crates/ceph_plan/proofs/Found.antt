-- The contract's clauses, of the pins that the holds give; and one more hold.
use Rattle.std.proofs.Common.{◌≡◌, ◌≢◌, ℕ, ◌+◌, ◌<◌, ◌≤◌, List, [], ◌∷◌, ◌++◌, get_or, length}
use Rattle.std.proofs.Common.{true, false, Option, None, refl, ap, sym, ◌∙◌, arith, ⊎_elim, subst}
use Rattle.std.proofs.lemmas.Bool.{cases_eq, cases_lt, cases_Bool}
use Rattle.std.proofs.lemmas.List.{get_or_append_left, get_or_push, get_or_read}
use Rattle.ceph_plan.specs.declared.row.PinRow.{PinRow}
use Rattle.ceph_plan.specs.declared.hold.Hold.{Hold}
use Rattle.ceph_plan.specs.declared.hold.Hold.TheVariants.{Free}
use Rattle.ceph_plan.specs.Rule.{ArePinsFor, AreRows, IsAt, IsOurs, IsOursPinned, no_row, own_pin, parent_at, pin_at, row_at, row_index, target_at, without}
use Rattle.ceph_plan.specs.Holds.{AreHolds, HoldEach, hold_at, hold_of, is_own, pins_below}
use Rattle.ceph_plan.proofs.Climbs.{climb-le}
use Rattle.ceph_plan.proofs.PinList.{each_pin, falling, pin_at-below, pin_at-past, row-below}
use Rattle.ceph_plan.proofs.Held.{IsHeld, IsOwnBy, own_below, own_by, own_held, own_inside}
use Rattle.ceph_plan.proofs.Held as held
use Rattle.ceph_plan.proofs.Least as least_of
use Rattle.ceph_plan.specs.declared.hold.Hold.TheVariants.{Own}

-- the rows' own pins once the new ones are set
abbrev pub new_pin : List PinRow → List Hold → ℕ → Option ℕ
new_pin rows holds = own_pin rows (pins_below rows holds (length rows))

new_own : (rows : List PinRow) (holds : List Hold) (n i : ℕ) → pin_at (pins_below rows holds n) i ≢ None → is_own (hold_at holds i) ≡ true
new_own rows holds n i some =
    ⊎_elim (λ (is : is_own (hold_at holds i) ≡ true). is)
    (λ (is : is_own (hold_at holds i) ≡ false).
    ⊎_elim (λ (inside : i < n). absurd (some (pin_at-below rows holds n i inside ∙ (rw is refl))))
    (λ (past : n ≤ i). absurd (some (pin_at-past rows holds n i past)))
    (cases_lt i n))
    (cases_Bool (is_own (hold_at holds i)))

ours_here : (rows : List PinRow) (holds : List Hold) (i : ℕ) → HoldEach rows holds → is_own (hold_at holds i) ≡ true → IsOurs rows i
ours_here rows holds i are is =
    let here : IsHeld rows (new_pin rows holds) i Own = own_held rows holds (new_pin rows holds) i are (own_by rows holds are) is in
    record { inside = own_inside rows holds i are is; free = here.0 }

pub needed : (rows : List PinRow) (holds : List Hold) (i : ℕ) → HoldEach rows holds → pin_at (pins_below rows holds (length rows)) i ≢ None
    → IsAt rows (without i (new_pin rows holds)) i (target_at rows i) → ⊥
needed rows holds i are some there =
    let is : is_own (hold_at holds i) ≡ true = new_own rows holds (length rows) i some in
    let here : IsHeld rows (new_pin rows holds) i Own = own_held rows holds (new_pin rows holds) i are (own_by rows holds are) is in
    least_of.needed rows (new_pin rows holds) i are.are (own_below rows holds i are is) (own_inside rows holds i are is) here.2 there

pub pins_found : (rows : List PinRow) (holds : List Hold) → HoldEach rows holds → ArePinsFor rows (pins_below rows holds (length rows))
pins_found rows holds are =
    let by : IsOwnBy rows holds (new_pin rows holds) = own_by rows holds are in
    record {
      realized = held.realized rows holds (new_pin rows holds) are by;
      kept = held.kept rows holds (new_pin rows holds) are by;
      ours = each_pin rows holds (IsOursPinned rows) (length rows) (λ i le is. record {
        below = own_below rows holds i are is;
        ours = ours_here rows holds i are is;
        target = refl;
      });
      needed = λ i some there. needed rows holds i are some there;
      least = λ settled other choice real i some none.
          let is : is_own (hold_at holds i) ≡ true = new_own rows holds (length rows) i some in
          let here : IsHeld rows (new_pin rows holds) i Own = own_held rows holds (new_pin rows holds) i are by is in
          least_of.least rows (new_pin rows holds) other i are.are settled choice real (own_below rows holds i are is)
          (ours_here rows holds i are is) here.2 none;
      order = λ p q steps less l same.
          let fall = falling rows holds (length rows) p q less l in
          let inside = row-below rows holds (length rows) q l in
          let low = climb-le rows steps (row_index (pins_below rows holds (length rows)) q) are.are inside in
          omega (arith, fall, low, same);
    }

pub hold_more : (rows : List PinRow) (holds : List Hold) (h : Hold) (i : ℕ) → length holds ≡ i → AreRows rows → AreHolds rows holds i
    → i < length rows → (i ≡ 0 → h ≡ Free)
    → (0 < i → h ≡ hold_of (row_at rows i) (row_at rows (parent_at rows i)) (hold_at holds (parent_at rows i)))
    → AreHolds rows (holds ++ h ∷ []) (i + 1)
hold_more rows holds h i size are so_far l root below =
    let last : hold_at (holds ++ h ∷ []) i ≡ h = get_or_push holds h Free i size in
    let before : (j : ℕ) → j < i → hold_at (holds ++ h ∷ []) j ≡ hold_at holds j = λ j le. get_or_append_left holds (h ∷ []) Free j (omega (arith, le, size)) in
    record {
      root = λ some.
          ⊎_elim (λ (first : i ≡ 0). ap (λ (k : ℕ). hold_at (holds ++ h ∷ []) k) (sym first) ∙ (last ∙ root first))
          (λ (later : i ≢ 0). before 0 (omega (arith, later)) ∙ so_far.root (omega (arith, later)))
          (cases_eq i 0);
      below = λ j some le.
          ⊎_elim (λ (same : i ≡ j).
          let up : parent_at rows i < i = are.above i (omega (arith, same, some)) l in
          subst (λ (k : ℕ). hold_at (holds ++ h ∷ []) k ≡ hold_of (row_at rows k) (row_at rows (parent_at rows k))
          (hold_at (holds ++ h ∷ []) (parent_at rows k))) same
          (last ∙ (below (omega (arith, same, some)) ∙ ap (λ (x : Hold). hold_of (row_at rows i) (row_at rows (parent_at rows i)) x)
          (sym (before (parent_at rows i) up)))))
          (λ (other : i ≢ j).
          let less : j < i = omega (arith, other, le) in
          let up : parent_at rows j < j = are.above j some (omega (arith, less, l)) in
          before j less ∙ (so_far.below j some less ∙ ap (λ (x : Hold). hold_of (row_at rows j) (row_at rows (parent_at rows j)) x)
          (sym (before (parent_at rows j) (omega (arith, up, less))))))
          (cases_eq i j);
    }

-- the parent of a row that is read
pub parent-before : (rows : List PinRow) (row : PinRow) (i : ℕ) → AreRows rows → i ≢ 0 → i < length rows → row ≡ get_or rows i row → row.parent < i
parent-before rows row i are later inside is =
    let same : row ≡ row_at rows i = get_or_read rows i row inside is no_row in
    subst (λ (one : PinRow). one.parent < i) (sym same) (are.above i (omega (arith, later)) inside)
