-- The heat of each row's subtree, as a walk that cuts nothing gathers it.
use Rattle.std.proofs.Common.{◌≡◌, ℕ, ◌+◌, ◌<◌, ◌≤◌, ◌^◌, Bool, true, false}
use Rattle.std.proofs.Common.{cond, set, List, length, slice_index, refl, arith, get_or-set_other, get_or-set_same}
use Rattle.std.proofs.lemmas.Bool.{false≢true}
use Rattle.mds_types.specs.declared.problem.ProblemRow.{ProblemRow}
use Rattle.mds_types.specs.Problem.{IsForest, parent_at, heat_at}
use Rattle.mds_types.specs.Sums.{sum_below}
use Rattle.mds_types.proofs.SumsLemmas.{sum_below-zero, sum_below-le, sum_below-two, sum_below-term}
use Rattle.residual_cut.specs.Subtrees.{AreSums}
use Rattle.residual_cut.specs.Walk.{is_handled, IsWalk}
use Rattle.residual_cut.proofs.TableLemmas.{heats_le, handled_sum, nothing_handled}
use Rattle.residual_cut.proofs.WalkLemmas.{IsGiven, give_to_parent, handled_parts}

-- what is gathered where nothing is cut
abbrev pub IsGathered : List ProblemRow → (ℕ → ℕ) → ℕ → ℕ → Type 0
IsGathered rows heat m s = IsWalk rows (λ _. 0) heat (λ _. 2 ^ 63) (λ _. false) (2 ^ 63) m s

no_cuts : (rows : List ProblemRow) (m v : ℕ)
    → sum_below (length rows) (λ j. cond (is_handled rows m v j) (0 + cond false 1 0) 0) ≡ 0
no_cuts rows m v = sum_below-zero (length rows) (λ j. cond (is_handled rows m v j) (0 + cond false 1 0) 0) (λ j l. nothing (is_handled rows m v j))
  where
    nothing : (b : Bool) → cond b (0 + cond false 1 0) 0 ≡ 0
    nothing true = omega arith
    nothing false = omega arith

heats_fit : (rows : List ProblemRow) → IsForest rows → sum_below (length rows) (heat_at rows) ≤ 2 ^ 56
heats_fit rows forest = omega (arith, heats_le rows forest (length rows) (omega arith), forest.few)

pub sums_start : (rows : List ProblemRow) (heat : ℕ → ℕ) → IsForest rows → ((v : ℕ) → v < length rows → heat v ≡ heat_at rows v)
    → IsGathered rows heat (length rows) (length rows)
sums_start rows heat forest own = record {
  rest_is = λ v l. omega (arith, own v l, nothing_handled rows (λ j. cond false 0 (heat j)) v);
  cuts_is = λ v l. omega (arith, no_cuts rows (length rows) v);
  kept = λ v j l handled _. absurd (omega (arith, (handled_parts rows (length rows) v j handled).0));
  taken = λ v j l child taken. absurd (false≢true taken);
  full = λ v j l child taken. absurd (false≢true taken);
  top = refl;
  uncut = λ j l before. refl;
  within = λ v le l. absurd (omega arith);
  counted = omega (
    arith,
    sum_below-zero (length rows) (λ _. 0) (λ v l. refl),
    sum_below-zero (length rows) (λ v. cond false 1 0) (λ v l. refl),
  );
  gathered = sum_below-le (length rows) heat (heat_at rows) (λ v l. omega (arith, own v l));
}

pub sums_fit : (rows : List ProblemRow) (heat : ℕ → ℕ) (m p i : ℕ) → IsForest rows → p < i → i < m → IsGathered rows heat m m
    → heat p + heat i ≤ 2 ^ 56
sums_fit rows heat m p i forest before l is =
    omega (arith, sum_below-two m p i heat before l, is.gathered, heats_fit rows forest)

pub sums_given : (rows : List ProblemRow) (heat : List ℕ) (i parent : ℕ) → IsForest rows → length heat ≡ length rows → i < length rows → 0 < i
    → parent ≡ parent_at rows i → IsGathered rows (slice_index heat) (i + 1) (i + 1)
    → IsGathered rows (slice_index (set heat parent (slice_index heat parent + slice_index heat i))) i i
sums_given rows heat i parent forest size here deep parent_is is =
    let up = forest.above i deep here in
    let new = set heat parent (slice_index heat parent + slice_index heat i) in
    let small : slice_index heat i ≤ 2 ^ 56 =
    omega (arith, sum_below-term (i + 1) i (slice_index heat) (omega arith), is.gathered, heats_fit rows forest) in
    let change : IsGiven (λ _. 0) (slice_index heat) (λ _. 2 ^ 63) (λ _. 0) (slice_index new) (λ _. 2 ^ 63) (λ _. false) (λ _. false) parent i = record {
      cuts_here = omega arith;
      cuts_other = λ v other. refl;
      rest_here = get_or-set_same heat parent (slice_index heat parent + slice_index heat i) 0 (omega (arith, size, up, parent_is));
      rest_other = λ v other. get_or-set_other heat parent v (slice_index heat parent + slice_index heat i) 0 other;
      price_up = omega arith;
      price_here = omega (arith, small);
      price_other = λ v other. refl;
      cut_other = λ v. refl;
    } in
    give_to_parent rows forest (2 ^ 63) (λ _. 0) (slice_index heat) (λ _. 2 ^ 63) (λ _. 0) (slice_index new) (λ _. 2 ^ 63) (λ _. false)
    (λ _. false) i parent here deep parent_is (omega (arith, small)) change (record {
      rest_is = is.rest_is;
      cuts_is = is.cuts_is;
      kept = is.kept;
      taken = is.taken;
      full = is.full;
      top = is.top;
      uncut = λ j l before. refl;
      within = is.within;
      counted = is.counted;
      gathered = is.gathered;
    })

pub sums_end : (rows : List ProblemRow) (heat : ℕ → ℕ) → IsForest rows → IsGathered rows heat 1 1 → AreSums rows heat
sums_end rows heat forest is v l = omega (arith, is.rest_is v l, handled_sum rows 0 v (λ j. cond false 0 (heat j)) forest (omega arith))

-- no rows have no sums
pub sums_none : (rows : List ProblemRow) (heat : ℕ → ℕ) → length rows ≡ 0 → AreSums rows heat
sums_none rows heat none v l = absurd (omega arith)
