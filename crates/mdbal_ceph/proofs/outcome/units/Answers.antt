use Rattle.std.proofs.Common.{◌≡◌, ◌<◌, ◌∙◌, Bool, Global, List, Vec, inl, inr, length, sym, true, ℕ}
use Rattle.std.proofs.lemmas.Result.{IfErr-weaker, IfOk-weaker}
use Rattle.ceph_folding.specs.Folding.{AreUnitsLeft}
use Rattle.ceph_folding.specs.TooMany.{AreTooManyToUnits}
use Rattle.ceph_snapshot.specs.Growth.{IsGrowthError}
use Rattle.ceph_snapshot.proofs.Growth.{growth_for}
use Rattle.ceph_pins.specs.Volumes.{is_unit}
use Rattle.ceph_snapshot.specs.Holding.{is_marked}
use Rattle.ceph_snapshot.specs.Policies.{dir_path_at}
use Rattle.ceph_snapshot.specs.declared.directory.Directory.{Directory}
use Rattle.mdbal_ceph.specs.Outcomes.{AreUnits}
use Rattle.mdbal_ceph.proofs.PastHours.{folded_sizes}
use Rattle.mdbal_ceph.proofs.outcome.units.Goals as goal

-- by marks that say of each directory whether it is a unit
left_by : (directories left : List Directory) (marks : List Bool)
    → ((i : ℕ) → i < length directories → is_marked marks i ≡ is_unit (dir_path_at directories i))
    → AreUnitsLeft directories left (is_marked marks) → AreUnits true directories left
left_by directories left marks same are = record {
  gone = are.gone;
  home = are.home;
  plain = are.plain;
  other = λ i inside gone. sym (same i inside) ∙ are.other i inside gone;
  all = λ i inside plain is. are.all i inside plain (same i inside ∙ is);
  has = are.has;
}

pub returns-clause-units : goal.returns-clause-units
returns-clause-units c =
    let same = rw (c.deref.ensures.value) at c.in_ok-marks.ensures.units in
    let left = rw (c.deref-2.ensures.value) at c.fold_to_units.ensures.units in
    rw (c.if-not-subvolumes.false) (IfOk-weaker c.fold_to_units.result _ _
    (λ found. left_by c.args.directories.items found.0.items c.in_ok-marks.marks.items same) left)

pub returns-clause-sizes : goal.returns-clause-sizes
returns-clause-sizes c =
    IfOk-weaker c.fold_to_units.result _ _
    (λ found folded. folded_sizes c.args.directories.items found.0.items c.args.hours.now.items c.fold_to_units.new.hours.items folded
    c.requires) c.fold_to_units.ensures.hours

-- there are too many, by the same marks
many_by : (directories : List Directory) (marks : List Bool) (hours : List (Vec ℕ Global))
    → ((i : ℕ) → i < length directories → is_marked marks i ≡ is_unit (dir_path_at directories i))
    → AreTooManyToUnits directories (is_marked marks) hours
    → AreTooManyToUnits directories (λ i. is_unit (dir_path_at directories i)) hours
many_by directories marks hours same (inl many) = inl many
many_by directories marks hours same (inr much) = inr (
  much.0,
  record {
    plain = much.1.plain;
    other = λ i inside gone. sym (same i inside) ∙ much.1.other i inside gone;
    all = λ i inside plain is. much.1.all i inside plain (same i inside ∙ is);
  },
  much.2,
)

pub returns-clause-many : goal.returns-clause-many
returns-clause-many c = λ first.
    let ds : List Directory = c.args.directories.items in
    let marks : List Bool = c.in_ok-marks.marks.items in
    let hours : List (Vec ℕ Global) = c.args.hours.now.items in
    let same = rw (c.deref.ensures.value) at c.in_ok-marks.ensures.units in
    let ByMarks : Type 0 = AreTooManyToUnits ds (is_marked marks) hours in
    let ByUnits : Type 0 = AreTooManyToUnits ds (λ i. is_unit (dir_path_at ds i)) hours in
    let many = rw (c.deref-2.ensures.value) at c.fold_to_units.ensures.many in
    rw (c.if-not-subvolumes.false)
    (IfErr-weaker c.fold_to_units.result (IsGrowthError ByMarks) (IsGrowthError ByUnits)
    (λ error. growth_for ByMarks ByUnits error (many_by ds marks hours same)) (many first))
