-- The parts and the table of a cut.
use Rattle.std.proofs.Common.{true, ◌≡◌, ◌∙◌, ℕ, ◌+◌, ◌<◌, ◌≤◌, List, length, slice_index, ap, sym, arith}
use Rattle.mds_types.specs.declared.problem.ProblemRow.{ProblemRow}
use Rattle.mds_types.specs.declared.cut_proof.Row.{Row}
use Rattle.mds_types.specs.Problem.{IsForest}
use Rattle.mds_types.specs.Sums.{count_below}
use Rattle.mds_types.specs.Division.{HasFew}
use Rattle.mds_types.specs.CutTable.{IsCutTable, cuts_at, rest_at, is_cut_at}
use Rattle.mds_types.proofs.DivisionLemmas.{part_count-more}
use Rattle.residual_cut.specs.declared.cut.Cut.{Cut}
use Rattle.residual_cut.specs.Cut.{IsCut}
use Rattle.residual_cut.specs.Labels.{IsLabelled, starts}
use Rattle.residual_cut.proofs.LabelLemmas.{labelled_parts, labelled_within, labelled_within_tops, labelled_count, labels_exist}

pub cut_is :
    (rows : List ProblemRow) (bound : ℕ) (cut : Cut) → IsForest rows → 0 < length rows
    → IsCutTable rows cut.rows.items bound
    → cuts_at cut.rows.items 0 ≡ count_below (length rows) (is_cut_at cut.rows.items)
    → length cut.part.items ≡ length rows
    → IsLabelled rows (is_cut_at cut.rows.items) (slice_index cut.part.items) cut.count (length rows)
    → IsCut rows bound cut
cut_is rows bound cut forest some table counted size labelled =
    let label : ℕ → ℕ = slice_index cut.part.items in
    let count : cut.count ≡ cuts_at cut.rows.items 0 + 1 =
    labelled_count rows (is_cut_at cut.rows.items) (slice_index cut.part.items) cut.count (length rows) table.top some labelled
    ∙ ap (λ n. n + 1) (sym counted) in
    record {
      size = size;
      parts = labelled_parts rows (is_cut_at cut.rows.items) (slice_index cut.part.items) cut.count forest labelled;
      within = labelled_within rows (rest_at cut.rows.items) (is_cut_at cut.rows.items) (slice_index cut.part.items) cut.count bound
          forest (λ i l. (table.each i l).rest_is) (λ i l. (table.each i l).rest_within) labelled;
      rising = λ i p l less. labelled.rising i p l less;
      table = table;
      fewest = λ k other division within.
          (let more = part_count-more rows cut.rows.items bound k other forest some table division within in omega (arith, more, count));
      counted = λ _. count;
    }

-- a table with fewer cuts than ranks shows a division into few parts, which are no hotter than what is left at their tops
pub few_from_table :
    (rows : List ProblemRow) (table : List Row) (bound ranks hottest : ℕ) → IsForest rows → 0 < length rows
    → IsCutTable rows table bound → cuts_at table 0 ≡ count_below (length rows) (is_cut_at table) → cuts_at table 0 < ranks
    → ((i : ℕ) → i < length rows → starts (is_cut_at table) i ≡ true → rest_at table i ≤ hottest) → HasFew rows ranks hottest
few_from_table rows table bound ranks hottest forest some is counted few tops =
    let (part, count, size, labelled) = labels_exist rows (is_cut_at table) forest (length rows) (omega arith) in
    let parts = labelled_parts rows (is_cut_at table) (slice_index part) count forest labelled in
    let within = labelled_within_tops rows (rest_at table) (is_cut_at table) (slice_index part) count hottest forest
    (λ i l. (is.each i l).rest_is) tops labelled in
    let count_is = labelled_count rows (is_cut_at table) (slice_index part) count (length rows) is.top some labelled in (
      count,
      slice_index part,
      parts.division,
      within,
      omega (arith, count_is, counted),
    )
