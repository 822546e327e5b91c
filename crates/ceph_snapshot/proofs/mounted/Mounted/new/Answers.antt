use Rattle.std.proofs.Common.{◌≡◌, ◌∙◌, ◌<◌, [], ℕ, List, None, Option, Some, ap, arith, cond, is_some, length, nat_eq, refl, rules, slice_get, subst, take_all}
use Rattle.std.specs.HashMap.{get}
use Rattle.std.specs.Option.{option_map_or}
use Rattle.std.proofs.lemmas.Option.{slice_get_read}
use Rattle.ceph_dumps.specs.declared.listing.ListedDir.{ListedDir}
use Rattle.ceph_snapshot.specs.Mounts.{is_number, paths_of}
use Rattle.ceph_snapshot.specs.Places.{IsNumberPlace, path_listed}
use Rattle.ceph_snapshot.proofs.Listed.{noted}
use Rattle.ceph_snapshot.proofs.mounted.Mounted.new.Goals as goal

pub loop-at-preserved : goal.loop-at-preserved
loop-at-preserved c = λ number.
    let listing : List ListedDir = c.args.listing.items in
    let at : ℕ = c.loop-at.at in
    let dir : ListedDir = c.index.result.now in
    let old : Option (Option ℕ) = get nat_eq c.loop-at.places number in
    let inside : at < length listing = omega (arith, c.loop-at-test.true, c.len-at-end.ensures, c.args.listing.ok.0) in
    let read : slice_get listing at ≡ Some dir = slice_get_read listing (length listing) at dir refl inside c.index.ensures in
    let place : c.in-Ok.place ≡ at = search rules in
    let path : path_listed listing at ≡ dir.path.items = ap (λ (o : Option ListedDir). option_map_or (λ (one : ListedDir). one.path.items) o []) read in
    noted listing at dir number old (get nat_eq c.note.new.places number) inside c.index.ensures path (c.loop-at.invariant number)
    (c.in_ok-note.ensures number ∙ ap (λ (k : ℕ). cond (is_number number dir.value) (Some (cond (is_some old) None (Some k))) old) place)

pub invariant_of-result : goal.invariant_of-result
invariant_of-result c =
    let listing : List ListedDir = c.args.listing.items in
    subst (λ (those : List ListedDir). (number : ℕ) → IsNumberPlace listing (paths_of those number) (get nat_eq c.loop-at.places number))
    (take_all c.loop-at.at listing (omega (arith, c.loop-at-test.false, c.loop-at.auto.at-end, c.len-at-end.ensures, c.args.listing.ok.0))) c.loop-at.invariant
