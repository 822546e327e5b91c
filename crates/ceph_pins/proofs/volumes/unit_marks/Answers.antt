use Rattle.std.proofs.Common.{◌≡◌, ◌<◌, ◌+◌, ◌++◌, ◌∷◌, [], ◌∙◌, ℕ, Bool, List, Option, Some, ap, false, length, refl, slice_get, subst, sym}
use Rattle.std.specs.Option.{option_map_or}
use Rattle.std.proofs.lemmas.List.{length_push}
use Rattle.std.proofs.lemmas.Option.{slice_get_read}
use Rattle.ceph_snapshot.specs.declared.directory.Directory.{Directory}
use Rattle.ceph_snapshot.specs.Holding.{is_marked}
use Rattle.ceph_snapshot.specs.Policies.{dir_path_at}
use Rattle.ceph_snapshot.proofs.Adding.{values_more}
use Rattle.ceph_pins.specs.Volumes.{is_unit}
use Rattle.ceph_pins.proofs.volumes.unit_marks.Goals as goal

pub loop-directory-preserved : goal.loop-directory-preserved
loop-directory-preserved c =
    let ds : List Directory = c.args.directories.now in
    let units : List Bool = c.loop-directory.units.items in
    let at : ℕ = c.loop-directory.directory-index in
    let one : Directory = c.directory-item.result in
    let mark : Bool = c.in_ok-is_unit.field-0 in
    let marked : ℕ → Bool = λ i. is_unit (dir_path_at ds i) in
    let pushed : c.push.new.self.items ≡ units ++ mark ∷ [] = c.in_ok-push.ensures.items in
    let read : slice_get ds at ≡ Some one = slice_get_read ds (length ds) at one refl c.loop-directory-test.true c.directory-item.is in
    let path : dir_path_at ds at ≡ one.path.items = ap (λ (o : Option Directory). option_map_or (λ (d : Directory). d.path.items) o []) read in
    let here : mark ≡ marked at = c.in_ok-is_unit.ensures ∙ ap is_unit (c.deref.ensures.value ∙ sym path) in
    record {
      size = ap length pushed ∙ (length_push units mark ∙ ap (λ (n : ℕ). n + 1) c.loop-directory.invariant.size);
      units = subst (λ (xs : List Bool). (i : ℕ) → i < at + 1 → is_marked xs i ≡ marked i) (sym pushed)
          (values_more false marked units mark at c.loop-directory.invariant.size c.loop-directory.invariant.units here);
    }
