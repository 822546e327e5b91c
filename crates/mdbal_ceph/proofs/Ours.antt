-- Whose the pin of each directory is.
use Rattle.std.proofs.Common.{◌≡◌, ◌∙◌, All, ℕ, List, Option, Some, None, get_or, ap, sym}
use Rattle.std.specs.Option.{option_map, option_map_or}
use Rattle.std.proofs.lemmas.Option.{none-some, slice_get-get_or}
use Rattle.ceph_dumps.specs.declared.own_list.OwnPin.{OwnPin}
use Rattle.ceph_snapshot.specs.declared.directory.Directory.{Directory}
use Rattle.ceph_snapshot.specs.declared.tree.Node.{Node}
use Rattle.ceph_snapshot.specs.Gathered.{PathPin, WhosePin, path_pin_at, whose_pin, whose_pin_at, with_owner}
use Rattle.mdbal_ceph.specs.Collections.{HasOwner}

-- of one that is read
owner_of : (own : List OwnPin) (ranks : ℕ) (d : Directory) (at : Option PathPin) → Some (whose_pin d) ≡ option_map (with_owner own ranks) at
    → HasOwner own ranks d
owner_of own ranks d None is = absurd (none-some (whose_pin d) (sym is))
owner_of own ranks d (Some at) is =
    let whose : whose_pin d ≡ with_owner own ranks at = ap (λ (o : Option WhosePin). option_map_or (λ (w : WhosePin). w) o (whose_pin d)) is in
    let path : at.0 ≡ d.path.items = sym (ap (λ (w : WhosePin). w.0) whose) in
    let is_so : whose_pin d ≡ with_owner own ranks (d.path.items, at.1) = whose ∙ ap (λ (p : List ℕ). with_owner own ranks (p, at.1)) path in
    record {
      pinned = at.1.0;
      ours = ap (λ (w : WhosePin). w.1.1.1) is_so;
      others = ap (λ (w : WhosePin). w.1.0) is_so;
      idle = ap (λ (w : WhosePin). w.1.1.0) is_so;
    }

pub owners : (own : List OwnPin) (ranks : ℕ) (directories : List Directory) (nodes : List Node)
    → ((i : ℕ) → whose_pin_at directories i ≡ option_map (with_owner own ranks) (path_pin_at nodes i)) → All (HasOwner own ranks) directories
owners own ranks directories nodes are = λ k d inside.
    owner_of own ranks (get_or directories k d) (path_pin_at nodes k) (sym (ap (option_map whose_pin) (slice_get-get_or directories k d inside)) ∙ are k)
