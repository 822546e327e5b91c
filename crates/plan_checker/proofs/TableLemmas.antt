-- The sums over the children of each row, and what a table says row by row.
use Rattle.std.proofs.Common.{◌≡◌, ◌≢◌, ◌∙◌, ◌↔◌, ◌+◌, ◌-◌, ◌^◌, ◌<◌, ◌≤◌, ap, cond, eqb, ltb, sym}
use Rattle.std.proofs.Common.{ℕ, suc, Bool, true, false, List, length, refl, add-one, arith, ⊎_elim, slice_index_or, subst}
use Rattle.std.proofs.lemmas.Bool.{cases_eq, eq-eqb, eqb-true, lt-ltb, ltb-true, and_parts, and_from}
use Rattle.mds_types.specs.declared.problem.ProblemRow.{ProblemRow}
use Rattle.mds_types.specs.declared.cut_proof.Row.{Row}
use Rattle.mds_types.specs.Problem.{IsForest, parent_at, row_at}
use Rattle.mds_types.specs.CutTable.{is_child, is_cut_at, cuts_at, no_cut, sum_of_children, IsChildCut, IsCutTable}
use Rattle.mds_types.proofs.Pieces.{children_after, not_child}
use Rattle.mds_types.proofs.SumsLemmas.{sum_from}
use Rattle.plan_checker.specs.declared.gathered.Gathered.{Gathered}
use Rattle.plan_checker.specs.Table.{all_cuts, capped, cuts_of_children, kept_of_children, kept_rest, nothing, ChildHolds, HoldsAt, IsChecked, RowHolds}

-- what row v gets from its children among the rows from m on
abbrev pub got_from : List ProblemRow → (ℕ → ℕ) → ℕ → ℕ → ℕ
got_from rows amount v m = sum_from (length rows - m) m (λ x. cond (is_child rows v x) (amount x) 0)

-- one row more
got_more : (rows : List ProblemRow) (amount : ℕ → ℕ) (v i : ℕ) → i < length rows
    → got_from rows amount v i ≡ cond (is_child rows v i) (amount i) 0 + got_from rows amount v (i + 1)
got_more rows amount v i l =
    let left : length rows - i ≡ suc (length rows - (i + 1)) = omega arith in rw (left, add-one) refl

-- once the rows after it are read, a row has got all
pub got_all : (rows : List ProblemRow) (amount : ℕ → ℕ) (i : ℕ) → IsForest rows → i < length rows
    → got_from rows amount i (i + 1) ≡ sum_of_children rows i amount
got_all rows amount i forest l =
    rw add-one (sym (children_after (length rows) (parent_at rows) forest.above (length rows - suc i) i amount (omega arith)))

-- what row j gives
abbrev pub kept_at : List Row → ℕ → ℕ
kept_at table j = kept_rest (slice_index_or table j no_cut)

abbrev pub all_cuts_at : List Row → ℕ → ℕ
all_cuts_at table j = all_cuts (slice_index_or table j no_cut)

-- the rows before m have got what the rows from m on give
pub record HaveGot (rows : List ProblemRow) (table : List Row) (sums : List Gathered) (m : ℕ) : Type 0 where
  pub rests : (v : ℕ) → v < m → (slice_index_or sums v nothing).rests ≡ capped (got_from rows (kept_at table) v m)
  pub cuts : (v : ℕ) → v < m → (slice_index_or sums v nothing).cuts ≡ capped (got_from rows (all_cuts_at table) v m)

capped_more : (old given sum : ℕ) → old ≡ capped sum → capped (old + given) ≡ capped (given + sum)
capped_more old given sum is = omega (arith, is)

-- a row gives to its parent
got_step :
    (rows : List ProblemRow) (amount : ℕ → ℕ) (i v old new : ℕ) → i < length rows → v < i
    → old ≡ capped (got_from rows amount v (i + 1))
    → (v ≡ parent_at rows i → new ≡ capped (old + amount i)) → (v ≢ parent_at rows i → new ≡ old)
    → new ≡ capped (got_from rows amount v i)
got_step rows amount i v old new l before is here other =
    let more = got_more rows amount v i l in
    ⊎_elim
    (λ (same : v ≡ parent_at rows i).
    let child : is_child rows v i ≡ true =
    and_from (ltb 0 i) (eqb (parent_at rows i) v) (lt-ltb 0 i (omega arith)) (eq-eqb (parent_at rows i) v (sym same)) in
    let step = rw child at more in
    here same ∙ capped_more old (amount i) (got_from rows amount v (i + 1)) is ∙ ap capped (sym step))
    (λ (apart : v ≢ parent_at rows i).
    let step = rw (not_child (parent_at rows) v i apart) at more in
    omega (arith, other apart, is, step))
    (cases_eq v (parent_at rows i))

pub have_got_more :
    (rows : List ProblemRow) (table : List Row) (sums new : List Gathered) (m i p : ℕ) → i < length rows → m ≡ i + 1
    → p ≡ parent_at rows i
    → (slice_index_or new p nothing).rests ≡ capped ((slice_index_or sums p nothing).rests + kept_at table i)
    → (slice_index_or new p nothing).cuts ≡ capped ((slice_index_or sums p nothing).cuts + all_cuts_at table i)
    → ((v : ℕ) → v ≢ p → slice_index_or new v nothing ≡ slice_index_or sums v nothing)
    → HaveGot rows table sums m → HaveGot rows table new i
have_got_more rows table sums new m i p l m_is p_is rests cuts other have = record {
  rests = λ v before.
      got_step rows (kept_at table) i v (slice_index_or sums v nothing).rests (slice_index_or new v nothing).rests l before
      (have.rests v (omega arith) ∙ ap (λ x. capped (got_from rows (kept_at table) v x)) m_is)
      (λ same. rw (same ∙ sym p_is) rests)
      (λ apart. ap (λ (s : Gathered). s.rests) (other v (λ same. apart (same ∙ p_is))));
  cuts = λ v before.
      got_step rows (all_cuts_at table) i v (slice_index_or sums v nothing).cuts (slice_index_or new v nothing).cuts l before
      (have.cuts v (omega arith) ∙ ap (λ x. capped (got_from rows (all_cuts_at table) v x)) m_is)
      (λ same. rw (same ∙ sym p_is) cuts)
      (λ apart. ap (λ (s : Gathered). s.cuts) (other v (λ same. apart (same ∙ p_is))));
}

-- sums that end at the greatest number do as well as whole ones
pub capped_row :
    (row : ProblemRow) (in_table : Row) (rests cuts bound : ℕ) → bound < 2 ^ 64 - 1 → in_table.cuts < 2 ^ 32
    → RowHolds row in_table (capped rests) (capped cuts) bound ↔ RowHolds row in_table rests cuts bound
capped_row row in_table rests cuts bound small few = (
  λ is. record {
    heat = is.heat;
    rest_is = omega (arith, is.rest_is, is.rest_within);
    rest_within = is.rest_within;
    cuts_is = omega (arith, is.cuts_is);
  },
  λ is. record {
    heat = is.heat;
    rest_is = omega (arith, is.rest_is, is.rest_within);
    rest_within = is.rest_within;
    cuts_is = omega (arith, is.cuts_is);
  },
)

-- a row that has got all is tested against what its children give
pub holds_here :
    (rows : List ProblemRow) (table : List Row) (sums : List Gathered) (m i bound : ℕ) → IsForest rows → i < length rows
    → m ≡ i + 1 → HaveGot rows table sums m → bound < 2 ^ 64 - 1 → cuts_at table i < 2 ^ 32
    → HoldsAt rows table (slice_index_or sums i nothing).rests (slice_index_or sums i nothing).cuts bound i
    ↔ IsChecked rows table bound i
holds_here rows table sums m i bound forest l m_is have small few =
    let rests : (slice_index_or sums i nothing).rests ≡ capped (kept_of_children rows table i) =
    have.rests i (omega arith)
    ∙ ap capped (ap (got_from rows (kept_at table) i) m_is ∙ got_all rows (kept_at table) i forest l) in
    let cuts : (slice_index_or sums i nothing).cuts ≡ capped (cuts_of_children rows table i) =
    have.cuts i (omega arith)
    ∙ ap capped (ap (got_from rows (all_cuts_at table) i) m_is ∙ got_all rows (all_cuts_at table) i forest l) in
    let same = capped_row (row_at rows i) (slice_index_or table i no_cut) (kept_of_children rows table i)
    (cuts_of_children rows table i) bound small few in
    rw (rests, cuts) (λ h. (same.0 h.0, h.1), λ h. (same.1 h.0, h.1))

-- a cut table is one that holds row by row
pub IsCutTable-from_checks :
    (rows : List ProblemRow) (table : List Row) (bound : ℕ) → length table ≡ length rows → is_cut_at table 0 ≡ false
    → ((i : ℕ) → i < length rows → IsChecked rows table bound i) → IsCutTable rows table bound
IsCutTable-from_checks rows table bound size root checked = record {
  size = size;
  top = root;
  each = λ i l.
      (let row = (checked i l).0 in
      let child : (j : ℕ) (cut : Bool) → IsChildCut rows table i j cut
      → ChildHolds (slice_index_or table i no_cut) (slice_index_or table j no_cut) bound = λ j cut is.
      (let parts = and_parts (ltb 0 j) (eqb (parent_at rows j) i) is.child in
      let P : ℕ → Type 0 = λ x. ChildHolds (slice_index_or table x no_cut) (slice_index_or table j no_cut) bound in
      subst P (eqb-true (parent_at rows j) i parts.1) ((checked j is.inside).1 (ltb-true 0 j parts.0))) in
      record {
        heat = row.heat;
        rest_is = row.rest_is;
        rest_within = row.rest_within;
        cuts_is = row.cuts_is;
        kept = λ j is. (child j false is).kept is.cut_is;
        cut = λ j is. (child j true is).cut is.cut_is;
        full = λ j is. (child j true is).full is.cut_is;
      });
}

pub checks_from_IsCutTable :
    (rows : List ProblemRow) (table : List Row) (bound : ℕ) → IsForest rows → IsCutTable rows table bound
    → (i : ℕ) → i < length rows → IsChecked rows table bound i
checks_from_IsCutTable rows table bound forest is i l =
    let row = is.each i l in (
      record { heat = row.heat; rest_is = row.rest_is; rest_within = row.rest_within; cuts_is = row.cuts_is },
      λ deep.
          let up = forest.above i deep l in
          let parent = is.each (parent_at rows i) (omega arith) in
          let child : is_child rows (parent_at rows i) i ≡ true =
          and_from (ltb 0 i) (eqb (parent_at rows i) (parent_at rows i)) (lt-ltb 0 i deep)
          (eq-eqb (parent_at rows i) (parent_at rows i) refl) in
          record {
            kept = λ no_cut_here. parent.kept i (record { inside = l; child = child; cut_is = no_cut_here });
            cut = λ cut_here. parent.cut i (record { inside = l; child = child; cut_is = cut_here });
            full = λ cut_here. parent.full i (record { inside = l; child = child; cut_is = cut_here });
          },
    )
