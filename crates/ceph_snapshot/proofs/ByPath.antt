-- What holds of the directory with a number, said of its path: whether it is spread, where it lies, and whether it is held.
use Rattle.std.proofs.Common.{◌≡◌, ◌≢◌, ◌∙◌, ◌<◌, ◌+◌, ◌/◌, ◌∷◌, ◌==◌, ◌&&◌, ◌||◌, [], ℕ, suc}
use Rattle.std.proofs.Common.{Bool, true, false, All, List, Option, Some, None, add-zero, ap, arith, cond, get_or}
use Rattle.std.proofs.Common.{length, map, min, not, refl, set, slice_get, slice_index, subst, sum_by, sym, take, ⊎_elim}
use Rattle.std.specs.List.{list_any}
use Rattle.std.specs.Option.{option_map, option_map_or, unwrap_or}
use Rattle.std.specs.Str.{bytes_eq}
use Rattle.std.proofs.Math.Nat.{zero-div}
use Rattle.std.proofs.lemmas.Bool.{cases_Bool, cases_eq, eq-eqb, ne_eqb}
use Rattle.std.proofs.lemmas.List.{get_or-set_other, get_or-set_same}
use Rattle.std.proofs.lemmas.List.Elements.{All-map}
use Rattle.std.proofs.lemmas.List.Folds.{list_any_at, list_any_none}
use Rattle.std.proofs.lemmas.List.Sums.{sum_by-cons, sum_by_more}
use Rattle.std.proofs.lemmas.Option.{get_or_from_slice_get, none-some, slice_get-get_or, slice_get_cases, slice_get_within}
use Rattle.std.proofs.lemmas.Slice.Eq.{bytes_eq-Decides}
use Rattle.ceph_dumps.specs.declared.own_list.OwnPin.{OwnPin}
use Rattle.ceph_snapshot.specs.declared.directory.Directory.{Directory}
use Rattle.ceph_snapshot.specs.declared.gathering.Gathering.{Gathering}
use Rattle.ceph_snapshot.specs.declared.gathering.Hearsay.{Hearsay}
use Rattle.ceph_snapshot.specs.declared.tree.Node.{Node}
use Rattle.ceph_snapshot.specs.declared.tree.Sighting.{Sighting}
use Rattle.ceph_snapshot.specs.Authority.{is_torn_at, is_true_of, node_path_at}
use Rattle.ceph_snapshot.specs.Facts.{Fact}
use Rattle.ceph_snapshot.specs.Gathered.{WhosePin, is_unknown_at, listed_at, listed_of, path_pin}
use Rattle.ceph_snapshot.specs.Gathered.{path_pin_at, whose_pin, whose_pin_at, with_owner, with_unknown}
use Rattle.ceph_snapshot.specs.Heard.{AreHeardAt, AreNumbersOf, ClaimsFragment, HasDirectory, HasTold, HeardRank}
use Rattle.ceph_snapshot.specs.Heard.{IsNotedIn, heard_at, is_borne_out, is_spread_path, is_unknown_path, spread_seen}
use Rattle.ceph_snapshot.specs.Holding.{most_heat}
use Rattle.ceph_snapshot.specs.Names.{path_number}
use Rattle.ceph_snapshot.specs.Policies.{dir_path_at}
use Rattle.ceph_snapshot.specs.Sightings.{Account, HaveOwnPaths, IsNumberOf, LieAt, PathHeat, Position, account_at}
use Rattle.ceph_snapshot.specs.Sightings.{account_of, position_at, position_of, torn_heat, with_path}
use Rattle.ceph_snapshot.proofs.Adding.{capped-add}
use Rattle.ceph_snapshot.proofs.Sighted.{same_path, seen_by_place}

-- of the elements of a list one has this path: what any of them is, it is
unique_any : {X : Type 0} (of : X → List ℕ) (is : X → Bool) (xs : List X) (i : ℕ) (x : X) (path : List ℕ) → slice_get xs i ≡ Some x → of x ≡ path
    → ((j : ℕ) (y : X) → slice_get xs j ≡ Some y → of y ≡ path → j ≡ i) → list_any (λ y. bytes_eq (of y) path && is y) xs ≡ is x
unique_any {X} of is xs i x path there named alone = by (is x) refl where
  test : X → Bool
  test y = bytes_eq (of y) path && is y

  here : (d : X) → get_or xs i d ≡ x
  here d = get_or_from_slice_get xs i x d there

  by : (b : Bool) → is x ≡ b → list_any test xs ≡ b
  by true is_so =
      list_any_at test xs i x (slice_get_within xs i x there)
      (ap test (here x) ∙ (ap (λ (b : Bool). b && is x) ((bytes_eq-Decides (of x) path).1 named) ∙ is_so))
  by false isnt = list_any_none test xs (λ k d l.
      let y : X = get_or xs k d in
      ⊎_elim
      (λ (same : bytes_eq (of y) path ≡ true).
      let at : k ≡ i = alone k y (slice_get-get_or xs k d l) ((bytes_eq-Decides (of y) path).0 same) in
      ap (λ (b : Bool). b && is y) same ∙ (ap is (ap (λ (j : ℕ). get_or xs j d) at ∙ here d) ∙ isnt))
      (λ (other : bytes_eq (of y) path ≡ false). ap (λ (b : Bool). b && is y) other)
      (cases_Bool (bytes_eq (of y) path)))

-- the directories have the paths of the nodes
abbrev node_path : Node → List ℕ
node_path n = n.directory.path.items

abbrev dir_path : Directory → List ℕ
dir_path d = d.path.items

abbrev pub HavePathsOf : List Node → List Directory → Type 0
HavePathsOf nodes ds = (i : ℕ) → option_map dir_path (slice_get ds i) ≡ option_map node_path (slice_get nodes i)

path_of : (own : List OwnPin) (ranks : ℕ) (d : Option Directory) (n : Option Node)
    → option_map whose_pin d ≡ option_map (with_owner own ranks) (option_map path_pin n)
    → option_map dir_path d ≡ option_map node_path n
path_of own ranks None None is = refl
path_of own ranks None (Some n) is = absurd (none-some (with_owner own ranks (path_pin n)) is)
path_of own ranks (Some d) None is = absurd (none-some (whose_pin d) (sym is))
path_of own ranks (Some d) (Some n) is = ap (option_map (λ (w : WhosePin). w.0)) is

pub paths_of_nodes : (own : List OwnPin) (ranks : ℕ) (nodes : List Node) (ds : List Directory)
    → ((i : ℕ) → whose_pin_at ds i ≡ option_map (with_owner own ranks) (path_pin_at nodes i)) → HavePathsOf nodes ds
paths_of_nodes own ranks nodes ds owner i = path_of own ranks (slice_get ds i) (slice_get nodes i) (owner i)

-- what has a path is there
some_with : {X Y : Type 0} (f : X → Y) (o : Option X) (y : Y) → option_map f o ≡ Some y → (x : X) × (o ≡ Some x) × (f x ≡ y)
some_with f None y is = absurd (none-some y is)
some_with f (Some x) y is = (x, refl, ap (λ o. unwrap_or o (f x)) is)

only_node : (nodes : List Node) (i j : ℕ) (path : List ℕ) → HaveOwnPaths nodes → option_map node_path (slice_get nodes i) ≡ Some path
    → option_map node_path (slice_get nodes j) ≡ Some path → j ≡ i
only_node nodes i j path own at other =
    let one = some_with node_path (slice_get nodes i) path at in
    let two = some_with node_path (slice_get nodes j) path other in
    own j i (account_of two.0.directory) (account_of one.0.directory) (ap (option_map (λ (n : Node). account_of n.directory)) two.1)
    (ap (option_map (λ (n : Node). account_of n.directory)) one.1)
    (two.2 ∙ sym one.2)

path_read : (o : Option Node) → (n : Node) → o ≡ Some n → option_map_or (λ (one : Node). one.directory.path.items) o [] ≡ n.directory.path.items
path_read o n is = ap (λ (one : Option Node). option_map_or (λ (m : Node). m.directory.path.items) one []) is

-- what is so of the path of each node
pub all_paths : (nodes : List Node) (ds : List Directory) (Is : List ℕ → Type 0) → HavePathsOf nodes ds
    → ((path : List ℕ) (i : ℕ) → IsNumberOf nodes path i → Is path) → All (λ (d : Directory). Is d.path.items) ds
all_paths nodes ds Is paths so k d l =
    let path : List ℕ = dir_path (get_or ds k d) in
    let found = some_with node_path (slice_get nodes k) path (sym (paths k) ∙ ap (option_map dir_path) (slice_get-get_or ds k d l)) in
    so path k (record {
      inside = slice_get_within nodes k found.0 found.1;
      there = path_read (slice_get nodes k) found.0 found.1 ∙ found.2;
    })

-- what the directory with this number is, any with its path is
at_path : (nodes : List Node) (ds : List Directory) (i : ℕ) (is : Directory → Bool) → HaveOwnPaths nodes → HavePathsOf nodes ds → i < length nodes
    → (d : Directory) × (slice_get ds i ≡ Some d) × (list_any (λ one. bytes_eq one.path.items (node_path_at nodes i) && is one) ds ≡ is d)
at_path nodes ds i is own paths inside =
    ⊎_elim
    (λ some.
    let n : Node = some.0 in
    let named : option_map node_path (slice_get nodes i) ≡ Some (node_path n) = ap (option_map node_path) some.2 in
    let found = some_with dir_path (slice_get ds i) (node_path n) (paths i ∙ named) in
    let read : node_path_at nodes i ≡ node_path n = path_read (slice_get nodes i) n some.2 in (
      found.0,
      found.1,
      unique_any dir_path is ds i found.0 (node_path_at nodes i) found.1 (found.2 ∙ sym read)
          (λ j y at same. only_node nodes i j (node_path n) own named
          (sym (paths j) ∙ (ap (option_map dir_path) at ∙ ap (λ (p : List ℕ). Some p) (same ∙ read)))),
    ))
    (λ none. absurd (omega (arith, inside, none.0)))
    (slice_get_cases nodes i).1

-- where the ranks saw something, a directory is
there_at : (nodes : List Node) (ds : List Directory) (i : ℕ) → HavePathsOf nodes ds → i < length nodes → HasDirectory ds (node_path_at nodes i)
there_at nodes ds i paths inside =
    ⊎_elim
    (λ some.
    let n : Node = some.0 in
    let read : node_path_at nodes i ≡ node_path n = path_read (slice_get nodes i) n some.2 in
    record { at = i; there = paths i ∙ (ap (option_map node_path) some.2 ∙ ap (λ (p : List ℕ). Some p) (sym read)) })
    (λ none. absurd (omega (arith, inside, none.0)))
    (slice_get_cases nodes i).1

pub seen_there : (nodes : List Node) (ds : List Directory) (ss : List Sighting) (seen : List PathHeat) → HavePathsOf nodes ds
    → All (λ (s : Sighting). s.directory < length nodes) ss → map (with_path nodes) ss ≡ seen → All (λ s. HasDirectory ds s.path) seen
seen_there nodes ds ss seen paths inside is =
    subst (All (λ (s : PathHeat). HasDirectory ds s.path)) is
    (All-map (λ (s : PathHeat). HasDirectory ds s.path) (with_path nodes) ss (λ k d l. there_at nodes ds (get_or ss k d).directory paths (inside k d l)))

-- The heat of what is spread.

-- one more sighting
pub spread_more : (nodes : List Node) (samples : ℕ) (ss : List Sighting) (at : ℕ) (s : Sighting) (spread : List ℕ) (rank sum : ℕ)
    → length spread ≡ 64 → at < length ss → get_or ss at s ≡ s → rank ≡ s.rank → rank < 64
    → sum ≡ min most_heat (slice_index spread rank + cond (is_torn_at nodes s.directory) s.heat 0 / samples)
    → ((r : ℕ) → r < 64 → slice_index spread r ≡ min most_heat (sum_by (torn_heat nodes samples r) (take at ss)))
    → (r : ℕ) → r < 64 → slice_index (set spread rank sum) r ≡ min most_heat (sum_by (torn_heat nodes samples r) (take (at + 1) ss))
spread_more nodes samples ss at s spread rank sum size inside is rank_is small sum_is before r l =
    ⊎_elim
    (λ (same : r ≡ rank).
    ap (slice_index (set spread rank sum)) same
    ∙ (get_or-set_same spread rank sum 0 (subst (λ (m : ℕ). rank < m) (sym size) small)
    ∙ (sum_is ∙ (ap (λ (k : ℕ). min most_heat (k + cond (is_torn_at nodes s.directory) s.heat 0 / samples)) (ap (slice_index spread) (sym same) ∙ before r l)
    ∙ (capped-add most_heat so_far (cond (is_torn_at nodes s.directory) s.heat 0 / samples)
    ∙ ap (min most_heat) (ap (λ (k : ℕ). so_far + k) (sym (counted same)) ∙ sym more))))))
    (λ (other : r ≢ rank).
    get_or-set_other spread rank r sum 0 other
    ∙ (before r l ∙ ap (min most_heat) (sym (add-zero so_far) ∙ (ap (λ (k : ℕ). so_far + k) (sym (elsewhere other)) ∙ sym more))))
    (cases_eq r rank) where
      f : Sighting → ℕ
      f = torn_heat nodes samples r

      so_far : ℕ
      so_far = sum_by f (take at ss)

      more : sum_by f (take (at + 1) ss) ≡ so_far + f s
      more = sum_by_more f ss at s inside ∙ ap (λ (one : Sighting). so_far + f one) is

      divided : (b : Bool) → cond b (s.heat / samples) 0 ≡ cond b s.heat 0 / samples
      divided true = refl
      divided false = sym (zero-div samples)

      counted : r ≡ rank → f s ≡ cond (is_torn_at nodes s.directory) s.heat 0 / samples
      counted same = ap (λ (b : Bool). cond (b && is_torn_at nodes s.directory) (s.heat / samples) 0)
          (eq-eqb s.rank r (sym rank_is ∙ sym same)) ∙ divided (is_torn_at nodes s.directory)

      elsewhere : r ≢ rank → f s ≡ 0
      elsewhere other = ap (λ (b : Bool). cond (b && is_torn_at nodes s.directory) (s.heat / samples) 0)
          (ne_eqb s.rank r (λ same. other (sym same ∙ sym rank_is)))

torn_by : (o p : Option Node) → option_map (λ (n : Node). position_of n.directory) o ≡ option_map (λ (n : Node). position_of n.directory) p
    → option_map_or (λ (n : Node). n.directory.is_spread) o false ≡ option_map_or (λ (n : Node). n.directory.is_spread) p false
torn_by None None is = refl
torn_by None (Some n) is = absurd (none-some (position_of n.directory) is)
torn_by (Some n) None is = absurd (none-some (position_of n.directory) (sym is))
torn_by (Some n) (Some m) is = ap (λ (o : Option Position). option_map_or (λ (t : Position). t.0) o false) is

pub torn_same : (old new : List Node) → ((i : ℕ) → position_at new i ≡ position_at old i) → (i : ℕ) → is_torn_at new i ≡ is_torn_at old i
torn_same old new same i = torn_by (slice_get new i) (slice_get old i) (same i)

torn_dir : (n : Option Node) (d : Directory) → Some (position_of d) ≡ option_map (λ (one : Node). position_of one.directory) n
    → option_map_or (λ (one : Node). one.directory.is_spread) n false ≡ d.is_spread
torn_dir None d is = absurd (none-some (position_of d) (sym is))
torn_dir (Some n) d is = ap (λ (o : Option Position). option_map_or (λ (t : Position). t.0) o false) (sym is)

-- by the paths of the directories
pub spread_by_path : (nodes held : List Node) (ds : List Directory) (samples rank : ℕ) (ss : List Sighting) → HaveOwnPaths nodes
    → HavePathsOf nodes ds → LieAt held ds
    → All (λ (s : Sighting). s.directory < length nodes) ss
    → sum_by (torn_heat held samples rank) ss ≡ sum_by (spread_seen ds samples rank) (map (with_path nodes) ss)
spread_by_path nodes held ds samples rank [] own paths lie inside = refl
spread_by_path nodes held ds samples rank (s ∷ ss) own paths lie inside =
    sum_by-cons (torn_heat held samples rank) s ss
    ∙ (ap (λ (k : ℕ). k + sum_by (torn_heat held samples rank) ss) here
    ∙ (ap (λ (k : ℕ). spread_seen ds samples rank (with_path nodes s) + k)
    (spread_by_path nodes held ds samples rank ss own paths lie (λ k e l. inside (suc k) e (omega (arith, l))))
    ∙ sym (sum_by-cons (spread_seen ds samples rank) (with_path nodes s) (map (with_path nodes) ss)))) where
      torn : is_torn_at held s.directory ≡ is_spread_path ds (node_path_at nodes s.directory)
      torn =
          let at = at_path nodes ds s.directory (λ d. d.is_spread) own paths (inside 0 s (omega arith)) in
          torn_dir (slice_get held s.directory) at.0 (sym (ap (option_map position_of) at.1) ∙ lie s.directory) ∙ sym at.2

      here : torn_heat held samples rank s ≡ spread_seen ds samples rank (with_path nodes s)
      here = ap (λ (b : Bool). cond ((s.rank == rank) && b) (s.heat / samples) 0) torn

-- Whom ranks take for authorities.

lies_by : (d n : Directory) (authority : ℕ) → position_of d ≡ position_of n → (d.is_spread || (d.now == authority)) ≡ (n.is_spread || (n.now == authority))
lies_by d n authority is =
    seen_by_place d.is_spread d.now authority ∙ (ap (λ (p : Position). p.0 || (p.1.0 == authority)) is ∙ sym (seen_by_place n.is_spread n.now authority))

true_dir : (n : Option Node) (d : Directory) (authority : ℕ) → Some (position_of d) ≡ option_map (λ (one : Node). position_of one.directory) n
    → (d.is_spread || (d.now == authority)) ≡ option_map_or (λ (one : Node). one.directory.is_spread || (one.directory.now == authority)) n true
true_dir None d authority is = absurd (none-some (position_of d) (sym is))
true_dir (Some n) d authority is = lies_by d n.directory authority (ap (λ (o : Option Position). unwrap_or o (position_of d)) is)

borne_out : (nodes placed : List Node) (ds : List Directory) (said : Hearsay) → HaveOwnPaths nodes → HavePathsOf nodes ds → LieAt placed ds
    → said.directory < length nodes
    → is_borne_out ds (heard_at nodes said) ≡ is_true_of placed said
borne_out nodes placed ds said own paths lie inside =
    let at = at_path nodes ds said.directory (λ d. d.is_spread || (d.now == said.authority)) own paths inside in
    at.2 ∙ true_dir (slice_get placed said.directory) at.0 said.authority (sym (ap (option_map position_of) at.1) ∙ lie said.directory)

pub all_borne_out : (nodes placed : List Node) (ds : List Directory) (hearsay : List Hearsay) (heard : List HeardRank) → HaveOwnPaths nodes
    → HavePathsOf nodes ds → LieAt placed ds
    → AreHeardAt nodes hearsay heard → All (λ said. is_true_of placed said ≡ true) hearsay → All (λ h. is_borne_out ds h ≡ true) heard
all_borne_out nodes placed ds hearsay heard own paths lie are holds =
    subst (All (λ (h : HeardRank). is_borne_out ds h ≡ true)) are.are
    (All-map (λ (h : HeardRank). is_borne_out ds h ≡ true) (heard_at nodes) hearsay
    (λ k d l. borne_out nodes placed ds (get_or hearsay k d) own paths lie (are.inside k d l) ∙ holds k d l))

-- Which directories are held as a whole.

tops_by_path : (nodes : List Node) (i : ℕ) (t : Account) (tops : List ℕ) → HaveOwnPaths nodes → account_at nodes i ≡ Some t
    → All (λ top. top < length nodes) tops
    → list_any (λ top. top == i) tops ≡ list_any (λ path. bytes_eq path t.0) (map (node_path_at nodes) tops)
tops_by_path nodes i t [] own there inside = refl
tops_by_path nodes i t (top ∷ tops) own there inside =
    ap (λ (b : Bool). b || list_any (λ one. one == i) tops) (same_path nodes i top t own there (inside 0 top (omega arith)))
    ∙ ap (λ (b : Bool). bytes_eq (node_path_at nodes top) t.0 || b) (tops_by_path nodes i t tops own there (λ k d l. inside (suc k) d (omega (arith, l))))

read_dir_path : (d : Option Directory) (p : List ℕ) → option_map dir_path d ≡ Some p → option_map_or (λ (one : Directory). one.path.items) d [] ≡ p
read_dir_path None p is = absurd (none-some p is)
read_dir_path (Some d) p is = ap (λ (o : Option (List ℕ)). unwrap_or o p) is

pub listed_by_path : (nodes : List Node) (ds : List Directory) (tops : List ℕ) (paths : List (List ℕ)) (listed : Bool) → HaveOwnPaths nodes
    → HavePathsOf nodes ds → AreNumbersOf nodes tops paths
    → ((i : ℕ) → option_map listed_of (slice_get ds i) ≡ option_map (with_unknown (is_unknown_at listed tops i)) (listed_at nodes i))
    → (i : ℕ) → option_map listed_of (slice_get ds i) ≡ option_map (with_unknown (is_unknown_path listed paths (dir_path_at ds i))) (listed_at nodes i)
listed_by_path nodes ds tops paths listed own alike are all i =
    all i
    ∙ ⊎_elim
    (λ some.
    let n : Node = some.0 in
    let there : account_at nodes i ≡ Some (account_of n.directory) = ap (option_map (λ (one : Node). account_of one.directory)) some.2 in
    let named : dir_path_at ds i ≡ n.directory.path.items = read_dir_path (slice_get ds i) (node_path n) (alike i ∙ ap (option_map node_path) some.2) in
    let same : list_any (λ top. top == i) tops ≡ list_any (λ path. bytes_eq path (dir_path_at ds i)) paths =
    tops_by_path nodes i (account_of n.directory) tops own there are.inside
    ∙ (ap (list_any (λ path. bytes_eq path n.directory.path.items)) are.are ∙ ap (λ (p : List ℕ). list_any (λ path. bytes_eq path p) paths) (sym named)) in
    ap (λ (b : Bool). option_map (with_unknown (not listed && b)) (listed_at nodes i)) same)
    (λ none.
    let past : listed_at nodes i ≡ None = ap (option_map (λ (one : Node). listed_of one.directory)) none.1 in
    ap (option_map (with_unknown (is_unknown_at listed tops i))) past
    ∙ sym (ap (option_map (with_unknown (is_unknown_path listed paths (dir_path_at ds i)))) past))
    (slice_get_cases nodes i).1

-- Who claims a fragment.

noted : (g : Gathering) (facts : List Fact) (rank : ℕ) (fragment : List ℕ) → HasTold g facts → ClaimsFragment facts rank fragment
    → path_number g.fragments fragment ≡ Some rank
noted g facts rank fragment was (f, (i, (inside, is)), claim) = subst (IsNotedIn g.fragments) (sym is) (was.claims i f inside) rank fragment claim

pub claimed_once : (g : Gathering) (facts : List Fact) → HasTold g facts → (one two : ℕ) (fragment : List ℕ)
    → ClaimsFragment facts one fragment → ClaimsFragment facts two fragment → one ≡ two
claimed_once g facts was one two fragment first second =
    ap (λ (o : Option ℕ). unwrap_or o 0) (sym (noted g facts one fragment was first) ∙ noted g facts two fragment was second)
