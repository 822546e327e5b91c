use Rattle.std.proofs.Common.{◌≡◌, ◌<◌, ℕ, length, vec_len, slice_index}
use Rattle.mds_types.specs.Problem.{heat_at, parent_at}
use Rattle.mds_types.proofs.Tops.{top}
use Rattle.plan_checker.proofs.PartsLemmas.{part_so_far}
use Rattle.plan_checker.proofs.part_list.hottest_part.Given as goal

abbrev pub invariant-loop-i : goal.invariant-loop-i
invariant-loop-i l = record {
  tops_size : vec_len l.tops ≡ l.fn.k;
  heats_size : vec_len l.heats ≡ l.fn.k;
  below : (j : ℕ) → j < length l.rows → slice_index l.part j < l.fn.k;
  tops : (q : ℕ) → q < l.fn.k
      → slice_index l.tops.items q ≡ part_so_far (slice_index l.part) (top (parent_at l.rows) (slice_index l.part)) q l.i;
  heats : (q : ℕ) → q < l.fn.k → slice_index l.heats.items q ≡ part_so_far (slice_index l.part) (heat_at l.rows) q l.i;
}
