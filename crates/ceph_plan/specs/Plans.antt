-- Plans: rows divided into connected parts, and the parts on ranks.
use Rattle.std.specs.Prelude.{◌≡◌, ◌==◌, ◌<◌, ◌≤◌, ◌-◌, ◌^◌, ◌↔◌, ℕ, IsTrue, List, Some}
use Rattle.std.specs.Prelude.{length, map, min, slice_get, slice_index, if◌then◌else◌}
use Rattle.mds_types.specs.declared.problem.ProblemRow.{ProblemRow}
use Rattle.mds_types.specs.Division.{IsDivision, IsLeast, IsWithin}
use Rattle.mds_types.specs.Problem.{IsForest, heat_at, inodes_at, now_at}
use Rattle.mds_types.specs.Sums.{sum_below}
use Rattle.ceph_plan.specs.declared.hours.Hour.{Hour}
use Rattle.ceph_plan.specs.Balance.{IsPackedEvenly}
use Rattle.ceph_plan.specs.Packing.{IsPacking, packed_rank}
use Rattle.ceph_plan.specs.declared.packing.Packed.{Packed}
use Rattle.ceph_plan.specs.declared.packing.TheConstants.{TOLERANCES}
use Rattle.ceph_plan.specs.declared.plan.PackedDivision.{PackedDivision}
use Rattle.ceph_plan.specs.declared.plan.Planned.{Planned}

-- the inodes of the first n rows that go to another rank than the one that has them
abbrev pub moved_inodes : List ProblemRow → List ℕ → List ℕ → ℕ → ℕ
moved_inodes rows part rank n =
    sum_below n (λ i. if packed_rank rank part i == now_at rows i then 0 else inodes_at rows i)

-- each row is in one part, each part is connected and on one rank of the set, the root's on rank 0; loads and moved
-- inodes are right, and no load is greater than the parts and the packing's `keep` allow
pub record IsPlan (ranks : ℕ) (hours : List Hour) (rows : List ProblemRow) (plan : Planned) : Type 0 where
  pub forest : IsForest rows
  pub size : length plan.part.items ≡ length rows
  pub division : IsDivision rows plan.count (slice_index plan.part.items)
  pub packing : IsPacking ranks hours rows plan.part.items plan.count plan.packing
  pub balanced : IsPackedEvenly ranks hours rows plan.part.items plan.count plan.packing
  pub moved : plan.moved ≡ moved_inodes rows plan.part.items plan.packing.rank.items (length rows)

-- a packing of the parts of rows, and the inodes that it moves
pub record IsPacked (ranks : ℕ) (hours : List Hour) (rows : List ProblemRow) (part : List ℕ) (count even : ℕ)
    (packed : Packed) : Type 0 where
  pub packing : IsPacking ranks hours rows part count packed.packing
  pub balanced : IsPackedEvenly ranks hours rows part count packed.packing
  pub even_is : packed.packing.even ≡ even
  pub moved : packed.moved ≡ moved_inodes rows part packed.packing.rank.items (length rows)

-- a packing for each of the tolerances, in their order; for all the packing by heat only has the same greatest load
pub record ArePackings (ranks : ℕ) (hours : List Hour) (rows : List ProblemRow) (part : List ℕ) (count even : ℕ)
    (each : List Packed) : Type 0 where
  pub keeps : map (λ (packed : Packed). packed.packing.keep) each ≡ TOLERANCES.now
  pub are : (v : ℕ) (packed : Packed) → slice_get each v ≡ Some packed
      → IsPacked ranks hours rows part count even packed

-- the rows, where none counts as hotter than the cap
abbrev pub capped_row : ℕ → ProblemRow → ProblemRow
capped_row cap row = record row { heat = min row.heat cap }

abbrev pub capped_rows : ℕ → List ProblemRow → List ProblemRow
capped_rows cap rows = map (capped_row cap) rows

-- no row is as hot as this
abbrev pub no_cap : ℕ
no_cap = 2 ^ 64 - 1

-- a division into at most `parts` parts, with its packings: its hottest part is as cool as that of any such division,
-- where no row counts as hotter than the cap. It is heavy where one row is as hot as that part, so that more parts
-- change nothing
pub record IsDivided (ranks : ℕ) (hours : List Hour) (rows : List ProblemRow) (parts cap : ℕ)
    (divided : PackedDivision) : Type 0 where
  pub forest : IsForest rows
  pub size : length divided.part.items ≡ length rows
  pub division : IsDivision rows divided.count (slice_index divided.part.items)
  pub packings : ArePackings ranks hours rows divided.part.items divided.count divided.packings.even
      divided.packings.each.items
  pub few : divided.count ≤ parts
  pub greatest : ℕ
  pub within : IsWithin (capped_rows cap rows) divided.count (slice_index divided.part.items) greatest
  pub least : IsLeast (capped_rows cap rows) parts greatest
  pub heavy : IsTrue divided.is_heavy ↔ ((i : ℕ) × (i < length (capped_rows cap rows))
      × (greatest ≤ heat_at (capped_rows cap rows) i))

-- a division with one of its packings
abbrev pub planned_of : PackedDivision → Packed → Planned
planned_of divided packed = record {
  part = divided.part;
  count = divided.count;
  packing = packed.packing;
  moved = packed.moved;
}
