-- A packing of parts, as one of rows.
use Rattle.std.proofs.Common.{◌≡◌, ◌∙◌, ◌<◌, ℕ, List, [], ◌∷◌, ◌++◌, Some, length, slice_index, ap, arith, subst, sym, ⊎_elim}
use Rattle.std.specs.List.{slice_get}
use Rattle.std.proofs.lemmas.List.{map-append}
use Rattle.std.specs.Prelude.{map}
use Rattle.mds_types.specs.declared.problem.ProblemRow.{ProblemRow}
use Rattle.ceph_plan.specs.declared.hours.Hour.{Hour}
use Rattle.ceph_plan.specs.declared.packing.Packed.{Packed}
use Rattle.ceph_plan.specs.declared.packing.Packing.{Packing}
use Rattle.ceph_plan.specs.Balance.{AreGreatest, ArePartHours, IsEvenPacking, IsPackedEvenly, IsPartsPacking, inodes_there, load_of_parts, part_inodes_at}
use Rattle.ceph_plan.specs.Packing.{IsPacking, load, packed_rank}
use Rattle.ceph_plan.specs.Plans.{IsPacked}
use Rattle.ceph_plan.proofs.Bounds.{greatest-same}
use Rattle.ceph_plan.proofs.PackedParts.{cooler-evened}
use Rattle.ceph_plan.proofs.PartSums.{load-parts}
use Rattle.ceph_plan.proofs.Weighed.{get_either}

-- the hours, the greatest heats and the inodes are those of the parts of the rows
pub record AreOfParts (hours : List Hour) (rows : List ProblemRow) (part : List ℕ) (count : ℕ) (parts : List Hour) (heats inodes : List ℕ) : Type 0 where
  pub below : (i : ℕ) → i < length rows → slice_index part i < count
  pub parts_are : ArePartHours hours (length rows) part count parts
  pub size : length heats ≡ count
  pub greatest : AreGreatest parts heats
  pub there : (p r : ℕ) → p < count → r < 64 → inodes_there inodes p r ≡ part_inodes_at rows part p r

-- the same packing of the same lists
pub parts-same : (ranks : ℕ) (parts others : List Hour) (heats inodes those them : List ℕ) (root : ℕ) (even : List ℕ) (packing : Packing)
    → others ≡ parts → those ≡ heats → them ≡ inodes
    → IsPartsPacking ranks others those them root even packing → IsPartsPacking ranks parts heats inodes root even packing
parts-same ranks parts others heats inodes those them root even packing parts_are heats_are inodes_are is =
    subst (λ (xs : List Hour). IsPartsPacking ranks xs heats inodes root even packing) parts_are
    (subst (λ (xs : List ℕ). IsPartsPacking ranks others xs inodes root even packing) heats_are
    (subst (λ (xs : List ℕ). IsPartsPacking ranks others those xs root even packing) inodes_are is))

module _ (ranks : ℕ) (hours : List Hour) (rows : List ProblemRow) (part : List ℕ) (count : ℕ) (parts : List Hour)
    (heats inodes even : List ℕ) (packing : Packing)
    (of : AreOfParts hours rows part count parts heats inodes) (is : IsPartsPacking ranks parts heats inodes (slice_index part 0) even packing) where
  by-rows : (r : ℕ) → r < 64 → slice_index packing.load.items r ≡ load hours (length rows) (packed_rank packing.rank.items part) r
  by-rows r l = is.loads r l ∙ sym (load-parts hours parts part heats packing.rank.items (length rows) count r of.size of.below of.parts_are)

  pub packed-rows : IsPacking ranks hours rows part count packing
  packed-rows = record {
    size = is.ranks_are.size ∙ of.size;
    usable = λ p l. is.ranks_are.usable p (omega (arith, of.size, l));
    root = is.ranks_are.at_zero;
    loads_size = is.size;
    loads = by-rows;
    greatest = is.greatest
        ∙ greatest-same ranks (load_of_parts parts heats packing.rank.items) (load hours (length rows) (packed_rank packing.rank.items part))
        (λ r l. sym (is.loads r l) ∙ by-rows r l);
  }

  pub packed-evenly : IsEvenPacking ranks parts heats (slice_index part 0) even → IsPackedEvenly ranks hours rows part count packing
  packed-evenly by_heat = record {
    parts = parts;
    heats = heats;
    inodes = inodes;
    size = of.size;
    parts_are = of.parts_are;
    greatest = of.greatest;
    there = of.there;
    even = even;
    by_heat = by_heat;
    packed = is;
    cooler = omega (arith, is.coolest, cooler-evened ranks parts heats (slice_index part 0) 0 by_heat.plain even by_heat.evened);
  }

-- the packings so far, of the first of these tolerances
pub record AreSoFar (ranks : ℕ) (hours : List Hour) (rows : List ProblemRow) (part : List ℕ) (count even : ℕ) (each : List Packed)
    (tolerances : List ℕ) : Type 0 where
  pub keeps : map (λ (packed : Packed). packed.packing.keep) each ≡ tolerances
  pub are : (v : ℕ) (packed : Packed) → slice_get each v ≡ Some packed → IsPacked ranks hours rows part count even packed

pub packings-more : (ranks : ℕ) (hours : List Hour) (rows : List ProblemRow) (part : List ℕ) (count even keep : ℕ) (each : List Packed)
    (tolerances : List ℕ) (more : Packed)
    → AreSoFar ranks hours rows part count even each tolerances → more.packing.keep ≡ keep → IsPacked ranks hours rows part count even more
    → AreSoFar ranks hours rows part count even (each ++ more ∷ []) (tolerances ++ keep ∷ [])
packings-more ranks hours rows part count even keep each tolerances more before keep_is is = record {
  keeps = map-append (λ (packed : Packed). packed.packing.keep) each (more ∷ [])
      ∙ (ap (λ (xs : List ℕ). xs ++ more.packing.keep ∷ []) before.keeps ∙ ap (λ (k : ℕ). tolerances ++ k ∷ []) keep_is);
  are = λ v packed there.
      ⊎_elim (λ (old : slice_get each v ≡ Some packed). before.are v packed old)
      (λ (new : more ≡ packed). subst (IsPacked ranks hours rows part count even) new is)
      (get_either each more packed v there);
}
