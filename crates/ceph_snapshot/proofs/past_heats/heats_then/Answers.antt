use Rattle.std.proofs.Common.{◌≡◌, ◌<◌, ◌+◌, ◌++◌, ◌∷◌, [], ◌∙◌, ℕ, List, Option, Some, length, slice_get, slice_index, ap, refl, sym, subst}
use Rattle.std.specs.Option.{option_map_or}
use Rattle.std.proofs.lemmas.List.{length_push}
use Rattle.std.proofs.lemmas.Option.{slice_get_read}
use Rattle.ceph_dumps.specs.declared.hour_record.PastHeat.{PastHeat}
use Rattle.ceph_snapshot.specs.declared.directory.Directory.{Directory}
use Rattle.ceph_snapshot.specs.Hours.{heat_then}
use Rattle.ceph_snapshot.specs.Policies.{dir_path_at}
use Rattle.ceph_snapshot.proofs.Adding.{values_more}
use Rattle.ceph_snapshot.proofs.past_heats.heats_then.Goals as goal

pub loop-directory-preserved : goal.loop-directory-preserved
loop-directory-preserved c =
    let ds : List Directory = c.args.directories.now in
    let past : List PastHeat = c.args.past.now in
    let heats : List ℕ = c.loop-directory.heats.items in
    let at : ℕ = c.loop-directory.directory-index in
    let one : Directory = c.directory-item.result in
    let heat : ℕ = c.heat_of.result in
    let pushed : c.push.new.self.items ≡ heats ++ heat ∷ [] = c.in_ok-push.ensures.items in
    let read : slice_get ds at ≡ Some one = slice_get_read ds (length ds) at one refl c.loop-directory-test.true c.directory-item.is in
    let path : dir_path_at ds at ≡ one.path.items = ap (λ (o : Option Directory). option_map_or (λ (d : Directory). d.path.items) o []) read in
    let here : heat ≡ heat_then past (dir_path_at ds at) =
    c.heat_of.ensures ∙ (c.in_ok-by_path.ensures c.deref.result.now ∙ ap (heat_then past) (c.deref.ensures.value ∙ sym path)) in
    record {
      size = ap length pushed ∙ (length_push heats heat ∙ ap (λ (n : ℕ). n + 1) c.loop-directory.invariant.size);
      heats = subst (λ (xs : List ℕ). (i : ℕ) → i < at + 1 → slice_index xs i ≡ heat_then past (dir_path_at ds i)) (sym pushed)
          (values_more 0 (λ (i : ℕ). heat_then past (dir_path_at ds i)) heats heat at c.loop-directory.invariant.size c.loop-directory.invariant.heats here);
    }
