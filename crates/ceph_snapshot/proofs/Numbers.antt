-- Each directory keeps its number, and each sighting its path, as more directories are named and more is known of them.
use Rattle.std.proofs.Common.{◌≡◌, ◌≢◌, ◌∙◌, ◌<◌, ◌≤◌, ◌+◌, ◌++◌, ◌∷◌, [], ℕ, suc, Bool}
use Rattle.std.proofs.Common.{false, true, All, List, Option, Some, None, length, length-append, length-set, map, slice_get}
use Rattle.std.proofs.Common.{set, refl, ap, sym, subst, take, get_or, arith, ⊎_elim, cond, slice_index_or}
use Rattle.std.specs.List.{filter}
use Rattle.std.specs.Option.{option_map, option_map_or, unwrap_or}
use Rattle.std.specs.Str.{bytes_eq}
use Rattle.std.proofs.lemmas.Bool.{cases_Bool, cases_eq, cases_lt, cond-false, cond-true, false≢true, ne_eqb}
use Rattle.std.proofs.lemmas.List.{map-append, take_more}
use Rattle.std.proofs.lemmas.List.Elements.{filter-append}
use Rattle.std.proofs.lemmas.Option.{none-some, slice_get_cases}
use Rattle.std.proofs.lemmas.Slice.Eq.{bytes_eq-Decides}
use Rattle.ceph_dumps.specs.declared.loads.FragmentHeat.{FragmentHeat}
use Rattle.ceph_snapshot.specs.declared.names.Names.{Names}
use Rattle.ceph_snapshot.specs.declared.tree.Node.{Node}
use Rattle.ceph_snapshot.specs.declared.tree.Sighting.{Sighting}
use Rattle.ceph_snapshot.specs.Authority.{above_at, is_user_path, node_path_at}
use Rattle.ceph_snapshot.specs.Names.{path_number}
use Rattle.ceph_snapshot.specs.Sightings.{AreCold, HaveOwnPaths, IsNumberOf, IsNumbered, IsParentOf, PathHeat}
use Rattle.ceph_snapshot.specs.Sightings.{Account, of_fragment, seen_in, account_of, account_at, with_path}
use Rattle.ceph_snapshot.proofs.Parents.{below_more, below_root, below_same, get_end, get_more, inside_of}
use Rattle.ceph_snapshot.proofs.Placing.{set-same}

abbrev told : Node → Account
told n = account_of n.directory

-- the path of a directory by what is told of it
path_of : (o : Option Node) → option_map_or (λ (n : Node). n.directory.path.items) o []
    ≡ option_map_or (λ (t : Account). t.0) (option_map (λ (n : Node). account_of n.directory) o) []
path_of None = refl
path_of (Some n) = refl

pub path_account : (nodes : List Node) (i : ℕ) (t : Account) → account_at nodes i ≡ Some t → node_path_at nodes i ≡ t.0
path_account nodes i t is = path_of (slice_get nodes i) ∙ ap (λ (o : Option Account). option_map_or (λ (one : Account). one.0) o []) is

pub path_same : (old new : List Node) (i : ℕ) → account_at new i ≡ account_at old i → node_path_at new i ≡ node_path_at old i
path_same old new i same = path_of (slice_get new i)
    ∙ (ap (λ (o : Option Account). option_map_or (λ (t : Account). t.0) o []) same ∙ sym (path_of (slice_get old i)))

parent_of : (o : Option Node) → option_map_or (λ (n : Node). n.directory.parent) o 0 ≡ unwrap_or (option_map (λ (n : Node). n.directory.parent) o) 0
parent_of None = refl
parent_of (Some n) = refl

parent_same : (new old : Option Node) → option_map (λ (n : Node). n.directory.parent) new ≡ option_map (λ (n : Node). n.directory.parent) old
    → option_map_or (λ (n : Node). n.directory.parent) new 0 ≡ option_map_or (λ (n : Node). n.directory.parent) old 0
parent_same new old same = parent_of new ∙ (ap (λ (o : Option ℕ). unwrap_or o 0) same ∙ sym (parent_of old))

pub seen_same : (old new : List Node) (ss : List Sighting) → ((i : ℕ) → i < length old → account_at new i ≡ account_at old i)
    → All (λ (s : Sighting). s.directory < length old) ss
    → map (with_path new) ss ≡ map (with_path old) ss
seen_same old new [] same inside = refl
seen_same old new (s ∷ ss) same inside =
    let path : node_path_at new s.directory ≡ node_path_at old s.directory = path_same old new s.directory (same s.directory (inside 0 s (omega arith))) in
    ap (λ (p : List ℕ). record { path = p; rank = s.rank; heat = s.heat; writes = s.writes; inode = s.inode } ∷ map (with_path new) ss) path
    ∙ ap (λ (hs : List PathHeat). with_path old s ∷ hs) (seen_same old new ss same (λ k d l. inside (suc k) d (omega (arith, l))))

numbered_same : (names : Names) (old new : List Node) (ss : List Sighting) → length new ≡ length old → ((i : ℕ) → account_at new i ≡ account_at old i)
    → ((i : ℕ) → above_at new i ≡ above_at old i) → IsNumbered names old ss → IsNumbered names new ss
numbered_same names old new ss size same parents was = record {
  named = λ path i is. same i ∙ was.named path i is;
  numbered = λ i t is. was.numbered i t (sym (same i) ∙ is);
  inside = subst (λ (n : ℕ). All (λ (s : Sighting). s.directory < n) ss) (sym size) was.inside;
  below = below_same old new size (λ i. path_same old new i (same i)) parents was.below;
}

pub account_more : (nodes : List Node) (n : Node) (i : ℕ) → i < length nodes → account_at (nodes ++ n ∷ []) i ≡ account_at nodes i
account_more nodes n i l = ap (option_map (λ (one : Node). account_of one.directory)) (get_more nodes n i l)

-- a directory with a path that had no number
pub numbered_more : (names new : Names) (nodes : List Node) (n : Node) (path : List ℕ) (number : ℕ) (ss : List Sighting) → path_number names path ≡ None
    → ((p : List ℕ) → path_number new p ≡ cond (bytes_eq path p) (Some number) (path_number names p)) → number ≡ length nodes
    → account_of n.directory ≡ (path, (0, (0, None)))
    → IsParentOf nodes n.directory.path.items n.directory.parent → IsNumbered names nodes ss → IsNumbered new (nodes ++ n ∷ []) ss
numbered_more names new nodes n path number ss fresh put is cold below was = record {
  named = λ p i h.
      ⊎_elim
      (λ (same : bytes_eq path p ≡ true).
      let here : number ≡ i = ap (λ (o : Option ℕ). unwrap_or o 0) (sym (put p ∙ cond-true (bytes_eq path p) (Some number) (path_number names p) same) ∙ h) in
      subst (λ (k : ℕ). account_at (nodes ++ n ∷ []) k ≡ Some (p, (0, (0, None)))) (sym is ∙ here)
      (told_end ∙ ap (λ (q : List ℕ). Some (q, (0, (0, None)))) ((bytes_eq-Decides path p).0 same)))
      (λ (other : bytes_eq path p ≡ false).
      let there : account_at nodes i ≡ Some (p, (0, (0, None))) =
      was.named p i (sym (put p ∙ cond-false (bytes_eq path p) (Some number) (path_number names p) other) ∙ h) in
      account_more nodes n i (inside_of told nodes i (p, (0, (0, None))) there) ∙ there)
      (cases_Bool (bytes_eq path p));
  numbered = λ i t h.
      ⊎_elim
      (λ (l : i < length nodes). before i t (was.numbered i t (sym (account_more nodes n i l) ∙ h)))
      (λ (from : length nodes ≤ i).
      let end : i ≡ length nodes = omega (arith, from, inside_of told (nodes ++ n ∷ []) i t h, long) in
      let same : path ≡ t.0 = ap (λ (o : Option Account). option_map_or (λ (one : Account). one.0) o [])
      (sym told_end ∙ (ap (account_at (nodes ++ n ∷ [])) (sym end) ∙ h)) in
      put t.0 ∙ (cond-true (bytes_eq path t.0) (Some number) (path_number names t.0) ((bytes_eq-Decides path t.0).1 same)
      ∙ ap (λ (k : ℕ). Some k) (is ∙ sym end)))
      (cases_lt i (length nodes));
  inside = λ k d l. omega (arith, was.inside k d l, long);
  below = below_more nodes n below was.below;
} where
  long : length (nodes ++ n ∷ []) ≡ length nodes + 1
  long = length-append nodes (n ∷ [])

  told_end : account_at (nodes ++ n ∷ []) (length nodes) ≡ Some (path, (0, (0, None)))
  told_end = ap (option_map (λ (one : Node). account_of one.directory)) (get_end nodes n) ∙ ap (λ (t : Account). Some t) cold

  before : (i : ℕ) (t : Account) → path_number names t.0 ≡ Some i → path_number new t.0 ≡ Some i
  before i t had =
      ⊎_elim
      (λ (same : bytes_eq path t.0 ≡ true). absurd (none-some i (sym fresh ∙ (ap (path_number names) ((bytes_eq-Decides path t.0).0 same) ∙ had))))
      (λ (other : bytes_eq path t.0 ≡ false). put t.0 ∙ (cond-false (bytes_eq path t.0) (Some number) (path_number names t.0) other ∙ had))
      (cases_Bool (bytes_eq path t.0))

-- only the root
pub numbered_root : (names : Names) (n : Node) → ((p : List ℕ) → path_number names p ≡ cond (bytes_eq [] p) (Some 0) None)
    → account_of n.directory ≡ ([], (0, (0, None)))
    → n.directory.parent ≡ 0 → IsNumbered names (n ∷ []) []
numbered_root names n put cold parent = record {
  named = λ p i h.
      ⊎_elim
      (λ (same : bytes_eq [] p ≡ true).
      let here : 0 ≡ i = ap (λ (o : Option ℕ). unwrap_or o 0) (sym (put p ∙ cond-true (bytes_eq [] p) (Some 0) None same) ∙ h) in
      subst (λ (k : ℕ). account_at (n ∷ []) k ≡ Some (p, (0, (0, None)))) here
      (ap (λ (t : Account). Some t) cold ∙ ap (λ (q : List ℕ). Some (q, (0, (0, None)))) ((bytes_eq-Decides [] p).0 same)))
      (λ (other : bytes_eq [] p ≡ false). absurd (none-some i (sym (put p ∙ cond-false (bytes_eq [] p) (Some 0) None other) ∙ h)))
      (cases_Bool (bytes_eq [] p));
  numbered = λ i t h.
      let end : i ≡ 0 = omega (arith, inside_of told (n ∷ []) i t h) in
      let same : [] ≡ t.0 = ap (λ (o : Option Account). option_map_or (λ (one : Account). one.0) o [])
      (sym (ap (λ (t : Account). Some t) cold) ∙ (ap (account_at (n ∷ [])) (sym end) ∙ h)) in
      put t.0 ∙ (cond-true (bytes_eq [] t.0) (Some 0) None ((bytes_eq-Decides [] t.0).1 same) ∙ ap (λ (k : ℕ). Some k) (sym end));
  inside = λ k d l. absurd (omega (arith, l));
  below = below_root n (ap (λ (t : Account). t.0) cold) parent;
}

pub at_number : (names : Names) (nodes : List Node) (ss : List Sighting) (path : List ℕ) (i : ℕ) → IsNumbered names nodes ss
    → path_number names path ≡ Some i → IsNumberOf nodes path i
at_number names nodes ss path i was h =
    let there : account_at nodes i ≡ Some (path, (0, (0, None))) = was.named path i h in
    record {
      inside = inside_of told nodes i (path, (0, (0, None))) there;
      there = path_account nodes i (path, (0, (0, None))) there;
    }

pub root_number : (names : Names) (nodes : List Node) (ss : List Sighting) → IsNumbered names nodes ss → path_number names [] ≡ Some 0
root_number names nodes ss was =
    ⊎_elim
    (λ some.
    let at : account_at nodes 0 ≡ Some (account_of some.0.directory) = ap (option_map (λ (n : Node). account_of n.directory)) some.2 in
    subst (λ (p : List ℕ). path_number names p ≡ Some 0) (sym (path_account nodes 0 (account_of some.0.directory) at) ∙ was.below.path)
    (was.numbered 0 (account_of some.0.directory) at))
    (λ none. absurd (omega (arith, was.below.some, none.0)))
    (slice_get_cases nodes 0).1

-- the path of a directory of users that isn't the root begins with a slash
pub begins_with_slash : (names : Names) (nodes : List Node) (ss : List Sighting) (path : List ℕ) → IsNumbered names nodes ss
    → is_user_path path ≡ true → path_number names path ≢ Some 0
    → slice_index_or path 0 0 ≡ 47
begins_with_slash names nodes ss [] was user other = absurd (other (root_number names nodes ss was))
begins_with_slash names nodes ss (c ∷ cs) was user other =
    ⊎_elim
    (λ (is : c ≡ 47). is)
    (λ (apart : c ≢ 47).
    let some : length (c ∷ cs) ≢ 0 = λ none. absurd (omega (arith, none)) in
    let no : is_user_path (c ∷ cs) ≡ false = rw (ne_eqb (length (c ∷ cs)) 0 some, ne_eqb c 47 apart) refl in
    absurd (false≢true (sym no ∙ user)))
    (cases_eq c 47)

pub cold_all : (names : Names) (nodes : List Node) (ss : List Sighting) → IsNumbered names nodes ss → AreCold nodes
cold_all names nodes ss was = λ i t h.
    ap (λ (o : Option Account). unwrap_or o t) (sym h ∙ was.named t.0 i (was.numbered i t h))

-- more is known of a directory
pub numbered_set : (names : Names) (nodes : List Node) (at : ℕ) (old new : Node) (ss : List Sighting) → at < length nodes
    → slice_get nodes at ≡ Some old → account_of new.directory ≡ account_of old.directory
    → new.directory.parent ≡ old.directory.parent → IsNumbered names nodes ss
    → IsNumbered names (set nodes at new) ss × (map (with_path (set nodes at new)) ss ≡ map (with_path nodes) ss)
numbered_set names nodes at old new ss l read same parent was =
    let parents : (i : ℕ) → above_at (set nodes at new) i ≡ above_at nodes i =
    λ i. parent_same (slice_get (set nodes at new) i) (slice_get nodes i) (set-same (λ (n : Node). n.directory.parent) nodes at old new l read parent i) in
    let account_same : (i : ℕ) → account_at (set nodes at new) i
    ≡ account_at nodes i = set-same (λ (n : Node). account_of n.directory) nodes at old new l read same in (
      numbered_same names nodes (set nodes at new) ss (length-set nodes at new) account_same parents was,
      seen_same nodes (set nodes at new) ss (λ i _. account_same i) was.inside,
    )

-- one more fragment of a sample
pub seen_more : (rank : ℕ) (fs : List FragmentHeat) (at : ℕ) (f : FragmentHeat) → at < length fs → get_or fs at f ≡ f
    → seen_in rank (take (at + 1) fs) ≡ seen_in rank (take at fs) ++ cond (is_user_path f.path.items) (of_fragment rank f ∷ []) []
seen_more rank fs at f l is =
    ap (seen_in rank) (take_more fs at f l ∙ ap (λ (one : FragmentHeat). take at fs ++ one ∷ []) is)
    ∙ (ap (map (of_fragment rank)) (filter-append user (take at fs) (f ∷ [])) ∙ (map-append (of_fragment rank) (filter user (take at fs)) (filter user (f ∷ []))
    ∙ ap (λ (hs : List PathHeat). seen_in rank (take at fs) ++ hs) (end (user f)))) where
      user : FragmentHeat → Bool
      user one = is_user_path one.path.items

      end : (b : Bool) → map (of_fragment rank) (cond b (f ∷ []) []) ≡ cond b (of_fragment rank f ∷ []) []
      end true = refl
      end false = refl

pub own_paths : (names : Names) (nodes : List Node) (ss : List Sighting) → IsNumbered names nodes ss → HaveOwnPaths nodes
own_paths names nodes ss was = λ i j t u h k same.
    ap (λ (o : Option ℕ). unwrap_or o i) (sym (was.numbered i t h) ∙ (ap (path_number names) same ∙ was.numbered j u k))
