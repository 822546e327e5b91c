-- Each directory lies below its parent, as more directories are named and more is known of them.
use Rattle.std.proofs.Common.{◌≡◌, ◌≢◌, ◌∙◌, ◌<◌, ◌≤◌, ◌+◌, ◌++◌, ◌∷◌, ◌==◌, [], ℕ, zero, suc, List}
use Rattle.std.proofs.Common.{Option, Some, None, length, length-append, slice_get, refl, ap, sym, take, get_or, arith, ⊎_elim}
use Rattle.std.specs.Option.{option_map, option_map_or}
use Rattle.std.proofs.lemmas.Bool.{cases_lt, ne_eqb}
use Rattle.std.proofs.lemmas.List.{append_assoc, take_more}
use Rattle.std.proofs.lemmas.List.Folds.{list_any-append}
use Rattle.std.proofs.lemmas.Option.{none-some, slice_get_cases, slice_get_past}
use Rattle.ceph_dumps.specs.declared.own_list.OwnPin.{OwnPin}
use Rattle.ceph_snapshot.specs.declared.directory.Directory.{Directory}
use Rattle.ceph_snapshot.specs.declared.snapshot.Snapshot.{Snapshot}
use Rattle.ceph_snapshot.specs.declared.tree.Node.{Node}
use Rattle.ceph_snapshot.specs.Authority.{LieAsClaimed, above_at, node_path_at}
use Rattle.ceph_snapshot.specs.Gathered.{PathPin, WhosePin, path_pin, path_pin_at, whose_pin, whose_pin_at, with_owner}
use Rattle.ceph_snapshot.specs.Holding.{AreParentsFirst, parent_at}
use Rattle.ceph_snapshot.specs.Names.{IsPathBelow}
use Rattle.ceph_snapshot.specs.Policies.{KeepUnpinnable, dir_path_at}
use Rattle.ceph_snapshot.specs.Sightings.{AreBelowParents, IsNumberOf, IsParentOf, LieAt, Position, position_of}
use Rattle.ceph_snapshot.specs.Snapshots.{IsSnapshot}
use Rattle.ceph_snapshot.proofs.Owners.{parent_placed}

pub get_more : {X : Type 0} (xs : List X) (x : X) (i : ℕ) → i < length xs → slice_get (xs ++ x ∷ []) i ≡ slice_get xs i
get_more [] x i l = absurd (omega (arith, l))
get_more (y ∷ ys) x zero l = refl
get_more (y ∷ ys) x (suc i) l = get_more ys x i (omega (arith, l))

pub get_end : {X : Type 0} (xs : List X) (x : X) → slice_get (xs ++ x ∷ []) (length xs) ≡ Some x
get_end [] x = refl
get_end (y ∷ ys) x = get_end ys x

-- what something is known of is there
pub inside_of : {X Y : Type 0} (f : X → Y) (xs : List X) (i : ℕ) (y : Y) → option_map f (slice_get xs i) ≡ Some y → i < length xs
inside_of f xs i y is =
    ⊎_elim
    (λ (l : i < length xs). l)
    (λ (past : length xs ≤ i). absurd (none-some y (sym (ap (option_map f) (slice_get_past xs i past)) ∙ is)))
    (cases_lt i (length xs))

pub path_below : (a b p q : List ℕ) → b ≡ a → q ≡ p → IsPathBelow a p → IsPathBelow b q
path_below a b p q above path was = record {
  name = was.name;
  whole = path ∙ (was.whole ∙ ap (λ (it : List ℕ). it ++ 47 ∷ was.name) (sym above));
  single = was.single;
}

pub below_same : (old new : List Node) → length new ≡ length old → ((i : ℕ) → node_path_at new i ≡ node_path_at old i)
    → ((i : ℕ) → above_at new i ≡ above_at old i)
    → AreBelowParents old → AreBelowParents new
below_same old new size paths parents was = record {
  some = omega (arith, size, was.some);
  path = paths 0 ∙ was.path;
  root = parents 0 ∙ was.root;
  first = λ i below l. omega (arith, parents i, was.first i below (omega (arith, l, size)));
  below = λ i below l.
      path_below (node_path_at old (above_at old i)) (node_path_at new (above_at new i)) (node_path_at old i) (node_path_at new i)
      (paths (above_at new i) ∙ ap (node_path_at old) (parents i)) (paths i)
      (was.below i below (omega (arith, l, size)));
}

-- only the root
pub below_root : (n : Node) → n.directory.path.items ≡ [] → n.directory.parent ≡ 0 → AreBelowParents (n ∷ [])
below_root n path parent = record {
  some = omega arith;
  path = path;
  root = parent;
  first = λ i below l. absurd (omega (arith, below, l));
  below = λ i below l. absurd (omega (arith, below, l));
}

-- one more directory
pub below_more : (nodes : List Node) (n : Node) → IsParentOf nodes n.directory.path.items n.directory.parent → AreBelowParents nodes
    → AreBelowParents (nodes ++ n ∷ [])
below_more nodes n in_it was = record {
  some = omega (arith, long);
  path = path 0 was.some ∙ was.path;
  root = parent 0 was.some ∙ was.root;
  first = λ i below l.
      ⊎_elim
      (λ (before : i < length nodes). omega (arith, parent i before, was.first i below before))
      (λ (from : length nodes ≤ i). omega (arith, from, last_parent i (end i from l), in_it.inside))
      (cases_lt i (length nodes));
  below = λ i below l.
      ⊎_elim
      (λ (before : i < length nodes).
      let up : above_at (nodes ++ n ∷ []) i ≡ above_at nodes i = parent i before in
      let low : above_at nodes i < length nodes = omega (arith, was.first i below before, before) in
      path_below (node_path_at nodes (above_at nodes i)) (node_path_at (nodes ++ n ∷ []) (above_at (nodes ++ n ∷ []) i))
      (node_path_at nodes i) (node_path_at (nodes ++ n ∷ []) i)
      (ap (node_path_at (nodes ++ n ∷ [])) up ∙ path (above_at nodes i) low) (path i before) (was.below i below before))
      (λ (from : length nodes ≤ i).
      let up : above_at (nodes ++ n ∷ []) i ≡ n.directory.parent = last_parent i (end i from l) in
      path_below (node_path_at nodes n.directory.parent) (node_path_at (nodes ++ n ∷ []) (above_at (nodes ++ n ∷ []) i))
      n.directory.path.items (node_path_at (nodes ++ n ∷ []) i)
      (ap (node_path_at (nodes ++ n ∷ [])) up ∙ path n.directory.parent in_it.inside) (last_path i (end i from l)) in_it.below)
      (cases_lt i (length nodes));
} where
  long : length (nodes ++ n ∷ []) ≡ length nodes + 1
  long = length-append nodes (n ∷ [])

  end : (i : ℕ) → length nodes ≤ i → i < length (nodes ++ n ∷ []) → i ≡ length nodes
  end i from l = omega (arith, from, l, long)

  path : (i : ℕ) → i < length nodes → node_path_at (nodes ++ n ∷ []) i ≡ node_path_at nodes i
  path i l = ap (λ (o : Option Node). option_map_or (λ (m : Node). m.directory.path.items) o []) (get_more nodes n i l)

  parent : (i : ℕ) → i < length nodes → above_at (nodes ++ n ∷ []) i ≡ above_at nodes i
  parent i l = ap (λ (o : Option Node). option_map_or (λ (m : Node). m.directory.parent) o 0) (get_more nodes n i l)

  last_path : (i : ℕ) → i ≡ length nodes → node_path_at (nodes ++ n ∷ []) i ≡ n.directory.path.items
  last_path i is = ap (node_path_at (nodes ++ n ∷ [])) is
      ∙ ap (λ (o : Option Node). option_map_or (λ (m : Node). m.directory.path.items) o []) (get_end nodes n)

  last_parent : (i : ℕ) → i ≡ length nodes → above_at (nodes ++ n ∷ []) i ≡ n.directory.parent
  last_parent i is = ap (above_at (nodes ++ n ∷ [])) is ∙ ap (λ (o : Option Node). option_map_or (λ (m : Node). m.directory.parent) o 0) (get_end nodes n)

-- the directory with the path up to a slash is the parent of what is named after it
pub parent_at_slash : (nodes : List Node) (path : List ℕ) (end i : ℕ) → end < length path → get_or path end 0 ≡ 47
    → IsNumberOf nodes (take end path) i → IsParentOf nodes (take (end + 1) path) i
parent_at_slash nodes path end i l is of = record {
  inside = of.inside;
  below = record {
    name = [];
    whole = take_more path end 0 l ∙ (ap (λ (c : ℕ). take end path ++ c ∷ []) is ∙ ap (λ (p : List ℕ). p ++ 47 ∷ []) (sym of.there));
    single = refl;
  };
}

-- and stays so while a name goes on
pub parent_longer : (nodes : List Node) (path : List ℕ) (end i : ℕ) → end < length path → get_or path end 0 ≢ 47
    → IsParentOf nodes (take end path) i → IsParentOf nodes (take (end + 1) path) i
parent_longer nodes path end i l other was = record {
  inside = was.inside;
  below = record {
    name = was.below.name ++ get_or path end 0 ∷ [];
    whole = take_more path end 0 l
        ∙ (ap (λ (p : List ℕ). p ++ get_or path end 0 ∷ []) was.below.whole
        ∙ append_assoc (node_path_at nodes i) (47 ∷ was.below.name) (get_or path end 0 ∷ []));
    single = list_any-append (λ c. c == 47) was.below.name (get_or path end 0 ∷ []) ∙ rw (was.below.single, ne_eqb (get_or path end 0) 47 other) refl;
  };
}

-- Of the directories of a snapshot.

path_of : (own : List OwnPin) (ranks : ℕ) (d : Option Directory) (at : Option PathPin) → option_map whose_pin d ≡ option_map (with_owner own ranks) at
    → option_map_or (λ (one : Directory). one.path.items) d [] ≡ option_map_or (λ (p : PathPin). p.0) at []
path_of own ranks None None is = refl
path_of own ranks None (Some at) is = absurd (none-some (with_owner own ranks at) is)
path_of own ranks (Some d) None is = absurd (none-some (whose_pin d) (sym is))
path_of own ranks (Some d) (Some at) is = ap (λ (o : Option WhosePin). option_map_or (λ (w : WhosePin). w.0) o []) is

path_pin_of : (n : Option Node) → option_map_or (λ (p : PathPin). p.0) (option_map path_pin n) []
    ≡ option_map_or (λ (one : Node). one.directory.path.items) n []
path_pin_of None = refl
path_pin_of (Some n) = refl

parent_of : (d : Option Directory) (p n : Option Node) → option_map position_of d ≡ option_map (λ (one : Node). position_of one.directory) p
    → option_map (λ (one : Node). one.directory.parent) p ≡ option_map (λ (one : Node). one.directory.parent) n
    → option_map_or (λ (one : Directory). one.parent) d 0 ≡ option_map_or (λ (one : Node). one.directory.parent) n 0
parent_of None None None is same = refl
parent_of None None (Some n) is same = absurd (none-some n.directory.parent same)
parent_of None (Some p) n is same = absurd (none-some (position_of p.directory) is)
parent_of (Some d) None n is same = absurd (none-some (position_of d) (sym is))
parent_of (Some d) (Some p) None is same = absurd (none-some p.directory.parent (sym same))
parent_of (Some d) (Some p) (Some n) is same =
    ap (λ (o : Option Position). option_map_or (λ (t : Position). t.1.1) o 0) is ∙ ap (λ (o : Option ℕ). option_map_or (λ (k : ℕ). k) o 0) same

-- each lies below its parent as its node does
pub snapshot_of : (nodes placed : List Node) (snapshot : Snapshot) (own : List OwnPin) (ranks : ℕ) → AreBelowParents nodes
    → LieAsClaimed nodes placed → LieAt placed snapshot.directories.items
    → ((i : ℕ) → whose_pin_at snapshot.directories.items i ≡ option_map (with_owner own ranks) (path_pin_at nodes i))
    → (AreParentsFirst snapshot.directories.items → KeepUnpinnable snapshot.directories.items)
    → length snapshot.spread.items ≡ 64 → IsSnapshot snapshot
snapshot_of nodes placed snapshot own ranks are claimed lie owner keeps spread = record {
  root = paths 0 ∙ are.path;
  first = first;
  below = λ i some l.
      path_below (node_path_at nodes (above_at nodes i)) (dir_path_at ds (parent_at ds i)) (node_path_at nodes i) (dir_path_at ds i)
      (paths (parent_at ds i) ∙ ap (node_path_at nodes) (parents i)) (paths i)
      (are.below i some (inside i l));
  kept = keeps first;
  spread = spread;
} where
  ds : List Directory
  ds = snapshot.directories.items

  paths : (i : ℕ) → dir_path_at ds i ≡ node_path_at nodes i
  paths i = path_of own ranks (slice_get ds i) (path_pin_at nodes i) (owner i) ∙ path_pin_of (slice_get nodes i)

  parents : (i : ℕ) → parent_at ds i ≡ above_at nodes i
  parents i = parent_of (slice_get ds i) (slice_get placed i) (slice_get nodes i) (lie i) (parent_placed nodes placed claimed i)

  inside : (i : ℕ) → i < length ds → i < length nodes
  inside i l =
      ⊎_elim
      (λ some. omega (
        arith,
        claimed.size,
        inside_of (λ (n : Node). position_of n.directory) placed i (position_of some.0)
            (sym (lie i) ∙ ap (option_map position_of) some.2),
      ))
      (λ none. absurd (omega (arith, l, none.0)))
      (slice_get_cases ds i).1

  first : AreParentsFirst ds
  first = record {
    root = parents 0 ∙ are.root;
    above = λ i some l. omega (arith, parents i, are.first i some (inside i l));
  }
