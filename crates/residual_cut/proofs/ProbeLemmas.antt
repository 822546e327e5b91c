-- The walk that keeps only what is left of each subtree: it is that of a table which nobody keeps.
use Rattle.std.proofs.Common.{◌≡◌, ◌≢◌, ◌∙◌, ℕ, ◌+◌, ◌-◌, ◌<◌, ◌≤◌, ◌^◌, IsPermutation, true, false}
use Rattle.std.proofs.Common.{cond, ◌&&◌, eqb, ltb, List, ◌∷◌, length, slice_index_or, set, map, max, refl}
use Rattle.std.proofs.Common.{ap, sym, subst, arith, ⊎_elim, get_or-set_other, get_or-set_same, length-set, suc, zero, slice_index}
use Rattle.std.proofs.lemmas.Bool.{cases_Bool, cases_eq, cases_lt, and_from, and_right, lt-ltb, le-ltb, eqb-true, eq-eqb, ne_eqb, false≢true, or_cases}
use Rattle.mds_types.specs.declared.problem.ProblemRow.{ProblemRow}
use Rattle.mds_types.specs.declared.cut_proof.Row.{Row}
use Rattle.mds_types.specs.Problem.{IsForest, parent_at, heat_at}
use Rattle.mds_types.specs.Sums.{sum_below}
use Rattle.mds_types.specs.Division.{HasFew, NeedsMore}
use Rattle.mds_types.specs.CutTable.{is_child, cuts_at, rest_at, price_at, is_cut_at, no_cut, sum_of_children}
use Rattle.mds_types.proofs.SumsLemmas.{sum_below-same, sum_below-zero, sum_below-term}
use Rattle.residual_cut.specs.declared.child.Child.{Child}
use Rattle.residual_cut.specs.declared.probe.Seen.{Seen}
use Rattle.residual_cut.specs.Heap.{is_free}
use Rattle.residual_cut.specs.Hottest.{AreHottest}
use Rattle.residual_cut.specs.Subtrees.{limit_of, AreHot, AreSums}
use Rattle.residual_cut.specs.Walk.{IsGivenRow, first_row}
use Rattle.residual_cut.specs.Probing.{is_waiting, IsProbed, IsSeenWith}
use Rattle.residual_cut.proofs.CutIs.{few_from_table}
use Rattle.residual_cut.proofs.CutLemmas.{IsWalked-less, IsSameBut-none, rest_fits, rest_within_row, own_heat, walked_on, counted_on, above_on, same_on}
use Rattle.std.specs.BinaryHeap.{IsUpperBound}
use Rattle.std.proofs.lemmas.List.Sorted.{length_permutation}
use Rattle.residual_cut.proofs.HeapLemmas.{IsPopped, child_cmp}
use Rattle.residual_cut.proofs.HotLemmas.{limit_first, limit_next, limit_le}
use Rattle.residual_cut.proofs.HottestLemmas.{hottest_free, hottest_same, hottest_left, hottest_popped, hottest_empty}
use Rattle.residual_cut.proofs.SeenLemmas.{seen_start, seen_cut, seen_given, walk_raise}
use Rattle.residual_cut.proofs.TableLemmas.{first_walked, first_rows, first_uncut, needs_more, walk_given, walk_end, walk_count, given_count}
use Rattle.residual_cut.proofs.WalkLemmas.{child_above, child_parent, sum_below-but}

-- the table with a child cut from row i
abbrev pub table_with_cut : List Row → ℕ → Child → List Row
table_with_cut table i x =
    set (set table i (record {
      cuts = cuts_at table i + 1;
      rest = rest_at table i - x.rest;
      price = x.rest;
      cut = is_cut_at table i;
    })) x.row.0 (record (slice_index_or table x.row.0 no_cut) { cut = true })

-- the table after row i has given what is left of it to its parent
abbrev pub table_with_gift : List Row → ℕ → ℕ → List Row
table_with_gift table parent i =
    set table parent (record {
      cuts = cuts_at table parent + cuts_at table i;
      rest = rest_at table parent + rest_at table i;
      price = max (price_at table parent) (rest_at table i);
      cut = is_cut_at table parent;
    })

gift_is : (table : List Row) (parent i : ℕ) → parent < length table → IsGivenRow table (table_with_gift table parent i) parent i
gift_is table parent i inside = record {
  here = get_or-set_same table parent _ no_cut inside;
  other = λ v apart. get_or-set_other table parent v _ no_cut apart;
}

-- the whole subtrees that wait for row v
abbrev waiting : List ProblemRow → (ℕ → ℕ) → ℕ → ℕ → ℕ
waiting rows heat m v = sum_below (length rows) (λ j. cond (is_waiting rows m v j) (heat j) 0)

-- no child of a row from m - 1 on waits
none_waits : (rows : List ProblemRow) (heat : ℕ → ℕ) (m v : ℕ) → IsForest rows → m ≤ v + 1 → waiting rows heat m v ≡ 0
none_waits rows heat m v forest le =
    sum_below-zero (length rows) (λ j. cond (is_waiting rows m v j) (heat j) 0)
    (λ j l.
    ⊎_elim
    (λ (child : is_child rows v j ≡ true).
    rw (le-ltb j m (let up = child_above rows forest v j l child in omega arith)) refl)
    (λ (other : is_child rows v j ≡ false). rw (and_right (ltb j m) (is_child rows v j) other) refl)
    (cases_Bool (is_child rows v j)))

-- all children of a row wait at first
all_wait : (rows : List ProblemRow) (heat : ℕ → ℕ) (v : ℕ) → waiting rows heat (length rows) v ≡ sum_of_children rows v heat
all_wait rows heat v =
    sum_below-same (length rows) (λ j. cond (is_waiting rows (length rows) v j) (heat j) 0) (λ j. cond (is_child rows v j) (heat j) 0)
    (λ j l. rw (lt-ltb j (length rows) l) refl)

-- row i waits no more
one_less_waits :
    (rows : List ProblemRow) (heat : ℕ → ℕ) (i v : ℕ) → i < length rows
    → waiting rows heat (i + 1) v ≡ waiting rows heat i v + cond (is_child rows v i) (heat i) 0
one_less_waits rows heat i v here =
    let sums = sum_below-but (length rows) i (λ j. cond (is_waiting rows (i + 1) v j) (heat j) 0)
    (λ j. cond (is_waiting rows i v j) (heat j) 0) here
    (λ j l apart.
    ap (λ b. cond (b && is_child rows v j) (heat j) 0)
    (⊎_elim (λ (below : j < i). lt-ltb j (i + 1) (omega arith) ∙ sym (lt-ltb j i below))
    (λ (past : i ≤ j). le-ltb j (i + 1) (omega arith) ∙ sym (le-ltb j i past))
    (cases_lt j i))) in
    let known = rw (lt-ltb i (i + 1) (omega arith), le-ltb i i (omega arith)) at sums in
    omega (arith, known)

-- a child's subtree is part of its parent's
pub subtree_le : (rows : List ProblemRow) (heat : ℕ → ℕ) (v j : ℕ) → v < length rows → j < length rows → AreSums rows heat
    → is_child rows v j ≡ true → heat j ≤ heat v
subtree_le rows heat v j lv l sums child =
    let term = rw child at (sum_below-term (length rows) j (λ x. cond (is_child rows v x) (heat x) 0) l) in
    omega (arith, term, sums v lv)

-- the walk starts
pub probed_start :
    (rows : List ProblemRow) (heat rest : ℕ → ℕ) (bound : ℕ) (seen : Seen) → IsForest rows → AreSums rows heat
    → ((v : ℕ) → v < length rows → rest v ≡ heat v) → seen.cuts ≡ 0 → seen.above ≡ 2 ^ 64 - 1 → seen.hottest ≡ 0
    → IsProbed rows heat rest bound (length rows) (length rows) seen
probed_start rows heat rest bound seen forest sums same cuts above hottest =
    let table = map (λ (row : ProblemRow). first_row row.heat) rows in
    let first = first_rows rows table refl in
    let walked = first_walked rows table bound refl in
    record {
      table = table;
      walked = walked;
      rest_is = λ v l. omega (
        arith,
        same v l,
        sums v l,
        ap (λ (row : Row). row.rest) (first v),
        all_wait rows heat v,
      );
      less = λ v l. omega (arith, same v l);
      whole = λ v l le. same v l;
      counted = first_uncut rows table first ∙ sym cuts;
      seen_is = seen_start rows table bound seen.above forest walked;
      above = λ some. absurd (omega arith);
      idle = λ none. above;
      tops = λ j l cut. absurd (false≢true (sym (ap (λ (row : Row). row.cut) (first j)) ∙ cut));
      within = omega arith;
    }

module _ (rows : List ProblemRow) (forest : IsForest rows) (heat rest : ℕ → ℕ) (bound m s : ℕ) (seen : Seen)
    (is : IsProbed rows heat rest bound m s seen) where
  -- where no child waits, the rest is the table's
  pub settled : (v : ℕ) → v < length rows → m ≤ v + 1 → rest v ≡ rest_at is.table v
  settled v l le = omega (arith, is.rest_is v l, none_waits rows heat m v forest le)

  pub probed_less : (t : ℕ) → t ≤ s → IsProbed rows heat rest bound m t seen
  probed_less t le = record {
    table = is.table;
    walked = IsWalked-less rows is.table bound m s t le is.walked;
    rest_is = is.rest_is;
    less = is.less;
    whole = is.whole;
    counted = is.counted;
    seen_is = is.seen_is;
    above = is.above;
    idle = is.idle;
    tops = is.tops;
    within = is.within;
  }

-- a child is cut from row i
module _ (rows : List ProblemRow) (forest : IsForest rows) (heat rest rest2 : ℕ → ℕ) (bound i : ℕ) (seen seen2 : Seen)
    (here : i < length rows) (is : IsProbed rows heat rest bound (i + 1) i seen) (x : Child)
    (pop : IsPopped rows (rest_at is.table) (is_cut_at is.table) i x) (hot : bound < rest i)
    (change_here : rest2 i ≡ rest i - x.rest) (change_other : (v : ℕ) → v ≢ i → rest2 v ≡ rest v)
    (with_cut : IsSeenWith seen (rest i) x.rest seen2) where
  settled_i : rest i ≡ rest_at is.table i
  settled_i = settled rows forest heat rest bound (i + 1) i seen is i here (omega arith)

  hot_table : bound < rest_at is.table i
  hot_table = omega (arith, settled_i)

  apart_x : x.row.0 ≢ i
  apart_x same = (let up = child_above rows forest i x.row.0 pop.inside pop.child in omega arith)

  table2 : List Row
  table2 = table_with_cut is.table i x

  size2 : length (table_with_cut is.table i x) ≡ length is.table
  size2 = length-set (set is.table i _) x.row.0 _ ∙ length-set is.table i _

  at_i : slice_index_or (table_with_cut is.table i x) i no_cut ≡ record {
    cuts = cuts_at is.table i + 1;
    rest = rest_at is.table i - x.rest;
    price = x.rest;
    cut = is_cut_at is.table i;
  }
  at_i =
      get_or-set_other (set is.table i _) x.row.0 i _ no_cut (λ same. apart_x (sym same))
      ∙ get_or-set_same is.table i _ no_cut (omega (arith, is.walked.size))

  at_x : slice_index_or (table_with_cut is.table i x) x.row.0 no_cut ≡ record (slice_index_or is.table x.row.0 no_cut) { cut = true }
  at_x =
      (let new_row : Row = record {
        cuts = cuts_at is.table i + 1;
        rest = rest_at is.table i - x.rest;
        price = x.rest;
        cut = is_cut_at is.table i;
      } in
      get_or-set_same (set is.table i new_row) x.row.0 _ no_cut
      (omega (arith, length-set is.table i new_row, is.walked.size, pop.inside)))

  at_other : (v : ℕ) → v ≢ i → v ≢ x.row.0 → slice_index_or (table_with_cut is.table i x) v no_cut ≡ slice_index_or is.table v no_cut
  at_other v apart else =
      get_or-set_other (set is.table i _) x.row.0 v _ no_cut else ∙ get_or-set_other is.table i v _ no_cut apart

  x_within : x.rest ≤ rest i
  x_within = omega (
    arith,
    settled_i,
    pop.rest_is,
    rest_within_row rows forest is.table bound i here is.walked x.row.0 pop.inside pop.child pop.free,
  )

  table_rest_here : rest_at (table_with_cut is.table i x) i ≡ rest_at is.table i - x.rest
  table_rest_here = ap (λ (row : Row). row.rest) at_i

  pub table_rest_other : (v : ℕ) → v ≢ i → rest_at (table_with_cut is.table i x) v ≡ rest_at is.table v
  table_rest_other v apart =
      ⊎_elim (λ (same : v ≡ x.row.0). rw same (ap (λ (row : Row). row.rest) at_x))
      (λ (else : v ≢ x.row.0). ap (λ (row : Row). row.rest) (at_other v apart else))
      (cases_eq v x.row.0)

  pub table_cut_other : (v : ℕ) → v ≢ x.row.0 → is_cut_at (table_with_cut is.table i x) v ≡ is_cut_at is.table v
  table_cut_other v else =
      ⊎_elim (λ (same : v ≡ i). rw same (ap (λ (row : Row). row.cut) at_i))
      (λ (apart : v ≢ i). ap (λ (row : Row). row.cut) (at_other v apart else))
      (cases_eq v i)

  pub table_cut_here : is_cut_at (table_with_cut is.table i x) x.row.0 ≡ true
  table_cut_here = ap (λ (row : Row). row.cut) at_x

  up : bound < seen2.above
  up =
      ⊎_elim (λ (some : 0 < seen.cuts). omega (arith, with_cut.above, is.above some))
      (λ (none : seen.cuts ≤ 0).
      omega (
        arith,
        with_cut.above,
        is.idle (omega arith),
        settled_i,
        rest_fits rows is.table bound (i + 1) i i forest (omega arith) is.walked,
      ))
      (cases_lt 0 seen.cuts)

  pub probed_cut : (next : IsProbed rows heat rest2 bound (i + 1) i seen2) × (next.table ≡ table_with_cut is.table i x)
  probed_cut = (
    record {
      table = table_with_cut is.table i x;
      walked = walked_on rows forest is.table bound i here is.walked x pop hot_table (table_with_cut is.table i x) size2 at_i at_x at_other;
      rest_is = λ v l.
          ⊎_elim
          (λ (same : v ≡ i).
          rw same (omega (arith, change_here, table_rest_here, is.rest_is i here, settled_i, x_within)))
          (λ (apart : v ≢ i). omega (arith, change_other v apart, table_rest_other v apart, is.rest_is v l))
          (cases_eq v i);
      less = λ v l.
          ⊎_elim (λ (same : v ≡ i). rw same (omega (arith, change_here, is.less i here)))
          (λ (apart : v ≢ i). omega (arith, change_other v apart, is.less v l))
          (cases_eq v i);
      whole = λ v l le.
          ⊎_elim (λ (same : v ≡ i). absurd (omega (arith, is.less i here, ap heat same)))
          (λ (apart : v ≢ i). change_other v apart ∙ is.whole v l le)
          (cases_eq v i);
      counted = omega (
        arith,
        counted_on rows forest is.table bound i here is.walked x pop hot_table (table_with_cut is.table i x) size2 at_i at_x at_other,
        is.counted,
        with_cut.cuts,
      );
      seen_is = rw with_cut.above
          (seen_cut rows is.table (table_with_cut is.table i x) i seen.above (rest i) 1
          (same_on rows forest is.table bound i here is.walked x pop hot_table (table_with_cut is.table i x) size2 at_i at_x at_other
          is.table (IsSameBut-none rows is.table i))
          (λ _. settled_i
          ∙ above_on rows forest is.table bound i here is.walked x pop hot_table (table_with_cut is.table i x) size2 at_i at_x at_other)
          (λ none. absurd (omega arith)) is.seen_is);
      above = λ some. up;
      idle = λ none. absurd (omega (arith, with_cut.cuts));
      tops = λ j l cut.
          ⊎_elim
          (λ (this : j ≡ x.row.0).
          rw this (omega (arith, with_cut.hottest, table_rest_other x.row.0 apart_x, pop.rest_is)))
          (λ (else : j ≢ x.row.0).
          let was = is.tops j l (sym (table_cut_other j else) ∙ cut) in
          ⊎_elim (λ (same : j ≡ i). omega (
            arith,
            with_cut.hottest,
            was,
            ap (rest_at (table_with_cut is.table i x)) same,
            ap (rest_at is.table) same,
            table_rest_here,
          ))
          (λ (apart : j ≢ i). omega (arith, with_cut.hottest, was, table_rest_other j apart))
          (cases_eq j i))
          (cases_eq j x.row.0);
      within =
          (let up = child_above rows forest i x.row.0 pop.inside pop.child in
          omega (
            arith,
            with_cut.hottest,
            is.within,
            pop.rest_is,
            is.walked.walk.within x.row.0 (omega arith) pop.inside,
          ));
    },
    refl,
  )

-- what was cut off below row i was part of the parent's subtree
pub enough_left :
    (rows : List ProblemRow) (heat rest : ℕ → ℕ) (bound i parent : ℕ) (seen : Seen) → IsForest rows → i < length rows → 0 < i
    → parent ≡ parent_at rows i → IsProbed rows heat rest bound (i + 1) i seen → heat i - rest i ≤ rest parent
enough_left rows heat rest bound i parent seen forest here deep parent_is is =
    let before = forest.above i deep here in
    let child : is_child rows parent i ≡ true =
    and_from (ltb 0 i) (eqb (parent_at rows i) parent) (lt-ltb 0 i deep) (eq-eqb (parent_at rows i) parent (sym parent_is)) in
    let waits = rw child at (one_less_waits rows heat i parent here) in
    omega (arith, waits, is.rest_is parent (omega arith))

-- row i, which is within the bound, has given what is left of it to its parent: what was cut off is taken from the parent too
module _ (rows : List ProblemRow) (forest : IsForest rows) (heat rest rest2 : ℕ → ℕ) (bound i parent : ℕ) (seen : Seen)
    (sums : AreSums rows heat) (here : i < length rows) (deep : 0 < i) (parent_is : parent ≡ parent_at rows i)
    (fits : rest i ≤ bound) (is : IsProbed rows heat rest bound (i + 1) i seen)
    (change_here : rest2 parent ≡ rest parent - (heat i - rest i))
    (change_other : (v : ℕ) → v ≢ parent → rest2 v ≡ rest v) where
  before_i : parent < i
  before_i = omega (arith, forest.above i deep here)

  child_i : is_child rows parent i ≡ true
  child_i = and_from (ltb 0 i) (eqb (parent_at rows i) parent) (lt-ltb 0 i deep) (eq-eqb (parent_at rows i) parent (sym parent_is))

  settled_given : rest i ≡ rest_at is.table i
  settled_given = settled rows forest heat rest bound (i + 1) i seen is i here (omega arith)

  given : IsGivenRow is.table (table_with_gift is.table parent i) parent i
  given = gift_is is.table parent i (omega (arith, before_i, is.walked.size))

  -- the parent is not cut yet
  parent_free : is_cut_at is.table parent ≡ false
  parent_free =
      is.walked.walk.uncut parent (omega (arith, before_i))
      (⊎_elim (λ (far : 0 < parent). omega (arith, forest.above parent far (omega (arith, before_i)), before_i))
      (λ (root : parent ≤ 0). (let zero_is : parent ≡ 0 = omega arith in
      omega (arith, ap (parent_at rows) zero_is, forest.root)))
      (cases_lt 0 parent))

  table_rest_given : (v : ℕ) → v ≢ parent → rest_at (table_with_gift is.table parent i) v ≡ rest_at is.table v
  table_rest_given v apart = ap (λ (row : Row). row.rest) (given.other v apart)

  cut_given : (v : ℕ) → is_cut_at (table_with_gift is.table parent i) v ≡ is_cut_at is.table v
  cut_given v =
      ⊎_elim (λ (same : v ≡ parent). rw same (ap (λ (row : Row). row.cut) given.here))
      (λ (apart : v ≢ parent). ap (λ (row : Row). row.cut) (given.other v apart))
      (cases_eq v parent)

  pub probed_given : IsProbed rows heat rest2 bound i i seen
  probed_given = record {
    table = table_with_gift is.table parent i;
    walked = walk_given rows is.table (table_with_gift is.table parent i) bound i parent forest here deep parent_is
        (omega (arith, settled_given)) (length-set is.table parent _) given is.walked;
    rest_is = λ v l.
        (let waits = one_less_waits rows heat i v here in
        ⊎_elim
        (λ (same : v ≡ parent).
        let child : is_child rows v i ≡ true = rw same child_i in
        let known = rw child at waits in
        omega (
          arith,
          known,
          is.rest_is v l,
          ap rest same,
          ap rest2 same,
          ap (rest_at is.table) same,
          ap (rest_at (table_with_gift is.table parent i)) same,
          ap (λ (row : Row). row.rest) given.here,
          change_here,
          settled_given,
          is.less i here,
        ))
        (λ (apart : v ≢ parent).
        let no_child : is_child rows v i ≡ false =
        and_right (ltb 0 i) (eqb (parent_at rows i) v) (ne_eqb (parent_at rows i) v (λ same. apart (sym same ∙ sym parent_is))) in
        let known = rw no_child at waits in
        omega (arith, known, is.rest_is v l, table_rest_given v apart, change_other v apart))
        (cases_eq v parent));
    less = λ v l.
        ⊎_elim (λ (same : v ≡ parent). rw same (omega (arith, change_here, is.less parent (omega (arith, before_i)))))
        (λ (apart : v ≢ parent). omega (arith, change_other v apart, is.less v l))
        (cases_eq v parent);
    whole = λ v l le.
        ⊎_elim
        (λ (same : v ≡ parent).
        let below = subtree_le rows heat parent i (omega (arith, before_i)) here sums child_i in
        let small : heat i ≤ bound = omega (arith, below, ap heat same) in
        rw same (omega (arith, change_here, is.whole i here small, is.whole parent (omega (arith, before_i)) (omega (arith, ap heat same)))))
        (λ (apart : v ≢ parent). change_other v apart ∙ is.whole v l le)
        (cases_eq v parent);
    counted = given_count rows is.table (table_with_gift is.table parent i) parent i given ∙ is.counted;
    seen_is = seen_given rows is.table (table_with_gift is.table parent i) parent i seen.above given is.seen_is;
    above = is.above;
    idle = is.idle;
    tops = λ j l cut.
        (let was = sym (cut_given j) ∙ cut in
        let apart : j ≢ parent = λ same. false≢true (sym parent_free ∙ (ap (is_cut_at is.table) (sym same) ∙ was)) in
        omega (arith, table_rest_given j apart, is.tops j l was));
    within = is.within;
  }

-- row i's subtree is within the bound: it is passed over
pub probed_over :
    (rows : List ProblemRow) (heat rest : ℕ → ℕ) (bound i : ℕ) (seen : Seen) → IsForest rows → AreSums rows heat
    → i < length rows → 0 < i → heat i ≤ bound → IsProbed rows heat rest bound (i + 1) (i + 1) seen
    → IsProbed rows heat rest bound i i seen
probed_over rows heat rest bound i seen forest sums here deep small is =
    let same = is.whole i here small in
    probed_given rows forest heat rest rest bound i (parent_at rows i) seen sums here deep refl (omega (arith, same))
    (probed_less rows forest heat rest bound (i + 1) (i + 1) seen is i (omega arith)) (omega (arith, same)) (λ v apart. refl)

-- rows whose subtrees are within the bound are passed over
pub probed_skip :
    (rows : List ProblemRow) (heat rest : ℕ → ℕ) (bound : ℕ) (seen : Seen) → IsForest rows → AreSums rows heat
    → (d m end : ℕ) → end ≡ m + d → end ≤ length rows → 0 < m → ((v : ℕ) → m ≤ v → v < end → heat v ≤ bound)
    → IsProbed rows heat rest bound end end seen → IsProbed rows heat rest bound m m seen
probed_skip rows heat rest bound seen forest sums zero m end is le deep small probed =
    let P : ℕ → Type 0 = λ x. IsProbed rows heat rest bound x x seen in
    let same : end ≡ m = omega arith in subst P same probed
probed_skip rows heat rest bound seen forest sums (suc d) m end is le deep small probed =
    let P : ℕ → Type 0 = λ x. IsProbed rows heat rest bound x x seen in
    let same : end ≡ (m + d) + 1 = omega arith in
    probed_skip rows heat rest bound seen forest sums d m (m + d) refl (omega arith) deep (λ v from before. small v from (omega arith))
    (probed_over rows heat rest bound (m + d) seen forest sums (omega arith) (omega arith) (small (m + d) (omega arith) (omega arith))
    (subst P same probed))

-- down to the next hot row
pub probed_to :
    (rows : List ProblemRow) (heat rest : ℕ → ℕ) (bound low k : ℕ) (hot : List ℕ) (seen : Seen) → IsForest rows → AreSums rows heat
    → AreHot (length rows) heat low 1 hot → low ≤ bound → k < length hot
    → IsProbed rows heat rest bound (limit_of (length rows) hot k) (limit_of (length rows) hot k) seen
    → IsProbed rows heat rest bound (slice_index hot k + 1) (slice_index hot k + 1) seen
probed_to rows heat rest bound low k hot seen forest sums are le l probed =
    let end = limit_of (length rows) hot k in
    let falls = are.falls k l in
    probed_skip rows heat rest bound seen forest sums (end - (slice_index hot k + 1)) (slice_index hot k + 1) end (omega arith)
    (limit_le (length rows) heat low 1 hot are k (omega arith)) (omega arith)
    (λ v from before.
    (let cool = are.light k v (omega arith) (omega arith) before (λ _. omega arith) in omega arith))
    probed

-- down to row 0
pub probed_to_root :
    (rows : List ProblemRow) (heat rest : ℕ → ℕ) (bound low : ℕ) (hot : List ℕ) (seen : Seen) → IsForest rows → AreSums rows heat
    → AreHot (length rows) heat low 1 hot → low ≤ bound → 0 < length rows
    → IsProbed rows heat rest bound (limit_of (length rows) hot (length hot)) (limit_of (length rows) hot (length hot)) seen
    → IsProbed rows heat rest bound 1 1 seen
probed_to_root rows heat rest bound low hot seen forest sums are le some probed =
    let end = limit_of (length rows) hot (length hot) in
    let deep : 0 < limit_of (length rows) hot (length hot) =
    ⊎_elim (λ (none : length hot ≡ 0). omega (arith, limit_first (length rows) hot (length hot) none))
    (λ (more : length hot ≢ 0).
    let same : length hot - 1 + 1 ≡ length hot = omega arith in
    omega (
      arith,
      ap (limit_of (length rows) hot) same,
      limit_next (length rows) hot (length hot - 1),
      are.from (length hot - 1) (omega arith),
    ))
    (cases_eq (length hot) 0) in
    probed_skip rows heat rest bound seen forest sums (end - 1) 1 end (omega arith)
    (limit_le (length rows) heat low 1 hot are (length hot) (omega arith)) (omega arith)
    (λ v from before.
    (let cool = are.light (length hot) v (omega arith) from before (λ more. absurd (omega arith)) in omega arith))
    probed

-- too many rows are cut
pub probed_more :
    (rows : List ProblemRow) (heat rest : ℕ → ℕ) (bound i most : ℕ) (seen : Seen) → IsForest rows → i < length rows → 0 < most
    → most ≤ seen.cuts → IsProbed rows heat rest bound (i + 1) i seen → (bound < seen.above) × NeedsMore rows most (seen.above - 1)
probed_more rows heat rest bound i most seen forest here some many is =
    let up = is.above (omega arith) in (
      up,
      needs_more rows is.table (seen.above - 1) i most forest here (omega (arith, is.counted))
          (walk_raise rows is.table bound (seen.above - 1) seen.above (i + 1) i (omega arith) (omega arith) is.seen_is is.walked),
    )

-- the root is within the bound
pub probed_end :
    (rows : List ProblemRow) (heat rest : ℕ → ℕ) (bound most : ℕ) (seen : Seen) → IsForest rows → 0 < length rows
    → ((v : ℕ) → v < length rows → heat_at rows v ≤ bound) → rest 0 ≤ bound → seen.cuts < most
    → IsProbed rows heat rest bound 1 0 seen
    → HasFew rows most (max seen.hottest (rest 0)) × (max seen.hottest (rest 0) ≤ bound)
probed_end rows heat rest bound most seen forest some cool root few is =
    let settled_root = settled rows forest heat rest bound 1 0 seen is 0 some (omega arith) in
    let table = walk_end rows is.table bound forest some cool (omega (arith, settled_root)) is.walked in
    let count = walk_count rows is.table bound 0 is.walked in (
      few_from_table rows is.table bound most (max seen.hottest (rest 0)) forest some table count
          (omega (arith, count, is.counted))
          (λ j l begins.
          ⊎_elim
          (λ (top : eqb j 0 ≡ true).
          let zero_is = eqb-true j 0 top in
          omega (arith, settled_root, ap (rest_at is.table) zero_is))
          (λ (cut : is_cut_at is.table j ≡ true). omega (arith, is.tops j l cut))
          (or_cases (eqb j 0) (is_cut_at is.table j) begins)),
      omega (arith, is.within),
    )

-- while children are cut from row i: the hottest of those that are left
pub record IsCutting (rows : List ProblemRow) (heat rest : ℕ → ℕ) (bound i most : ℕ) (seen : Seen) (children : List Child) : Type 0 where
  pub floor : ℕ
  pub probed : IsProbed rows heat rest bound (i + 1) i seen
  pub are : AreHottest rows (rest_at probed.table) (is_free probed.table) i most floor children

pub cutting_start :
    (rows : List ProblemRow) (heat rest : ℕ → ℕ) (bound i most floor : ℕ) (seen : Seen) (children moved : List Child) → IsForest rows
    → IsProbed rows heat rest bound (i + 1) (i + 1) seen → AreHottest rows rest (λ _. true) i most floor children
    → IsPermutation children moved → IsCutting rows heat rest bound i most seen moved
unfolding probed_less
cutting_start rows heat rest bound i most floor seen children moved forest is are same = record {
  floor = floor;
  probed = probed_less rows forest heat rest bound (i + 1) (i + 1) seen is i (omega arith);
  are = hottest_free rows (rest_at is.table) (is_cut_at is.table) i most floor children moved
      (λ j l child. is.walked.walk.uncut j l (omega (arith, child_parent rows i j child))) same
      (hottest_same rows rest (rest_at is.table) (λ _. true) i most floor children forest
      (λ j after l. sym (settled rows forest heat rest bound (i + 1) (i + 1) seen is j l (omega arith))) are);
}

pub cutting_step :
    (rows : List ProblemRow) (heat rest rest2 : ℕ → ℕ) (bound i most most2 : ℕ) (seen seen2 : Seen) (children left : List Child) (x : Child)
    → IsForest rows → i < length rows → (is : IsCutting rows heat rest bound i most seen children) → bound < rest i
    → IsPopped rows (rest_at is.probed.table) (is_cut_at is.probed.table) i x
    → rest2 i ≡ rest i - x.rest → ((v : ℕ) → v ≢ i → rest2 v ≡ rest v) → IsSeenWith seen (rest i) x.rest seen2
    → most ≡ most2 + 1 → IsPermutation children (x ∷ left) → IsCutting rows heat rest2 bound i most2 seen2 left
cutting_step rows heat rest rest2 bound i most most2 seen seen2 children left x forest here is hot pop change_here change_other with_cut fewer moved =
    let next = probed_cut rows forest heat rest rest2 bound i seen seen2 here is.probed x pop hot change_here change_other with_cut in
    let size : length (x ∷ left) ≡ length children = length_permutation children (x ∷ left) moved in
    let P : List Row → Type 0 = λ table. AreHottest rows (rest_at table) (is_free table) i most2 is.floor left in
    record {
      floor = is.floor;
      probed = next.0;
      are = subst P (sym next.1)
          (hottest_left rows (rest_at is.probed.table) (rest_at (table_with_cut is.probed.table i x)) (is_cut_at is.probed.table)
          (is_cut_at (table_with_cut is.probed.table i x)) i most most2 is.floor children left x
          (table_rest_other rows forest heat rest rest2 bound i seen seen2 here is.probed x pop hot change_here change_other with_cut)
          (table_cut_here rows forest heat rest rest2 bound i seen seen2 here is.probed x pop hot change_here change_other with_cut)
          (table_cut_other rows forest heat rest rest2 bound i seen seen2 here is.probed x pop hot change_here change_other with_cut)
          pop fewer (omega (arith, size)) is.are moved (λ j l child same. (let up = child_above rows forest i j l child in omega arith)));
    }

-- what comes out of the heap
pub cutting_popped :
    (rows : List ProblemRow) (heat rest : ℕ → ℕ) (bound i most : ℕ) (seen : Seen) (children left : List Child) (x : Child)
    → (is : IsCutting rows heat rest bound i most seen children) → IsPermutation children (x ∷ left) → IsUpperBound child_cmp x children
    → IsPopped rows (rest_at is.probed.table) (is_cut_at is.probed.table) i x
cutting_popped rows heat rest bound i most seen children left x is moved upper =
    hottest_popped rows (rest_at is.probed.table) (is_cut_at is.probed.table) i most is.floor children left x is.are moved upper

-- where the heap is empty, only the row's own heat is left
pub cutting_empty :
    (rows : List ProblemRow) (heat rest : ℕ → ℕ) (bound i most : ℕ) (seen : Seen) (children : List Child) → IsForest rows
    → i < length rows → heat_at rows i ≤ bound → IsCutting rows heat rest bound i most seen children → length children ≡ 0 → 0 < most
    → rest i ≤ bound
cutting_empty rows heat rest bound i most seen children forest here cool is none some =
    omega (
      arith,
      settled rows forest heat rest bound (i + 1) i seen is.probed i here (omega arith),
      own_heat rows forest is.probed.table bound i here is.probed.walked
          (hottest_empty rows (rest_at is.probed.table) (is_cut_at is.probed.table) i most is.floor children is.are none some),
      cool,
    )
