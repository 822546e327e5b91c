-- What is counted at a directory with one more sighting, and with all.
use Rattle.std.proofs.Common.{◌≡◌, ◌≢◌, ◌∙◌, ◌<◌, ◌≤◌, ◌+◌, ◌∷◌, ◌==◌, ◌&&◌, ◌||◌, [], ℕ, suc, Bool, true, false, All}
use Rattle.std.proofs.Common.{List, Option, Some, None, cond, length, map, set, slice_get, refl, ap, sym, subst, arith, sum_by, ⊎_elim}
use Rattle.std.specs.List.{fold}
use Rattle.std.specs.Option.{option_map, option_or, unwrap_or}
use Rattle.std.proofs.lemmas.Bool.{cases_eq, eq-eqb, false_from_ne_true, ne_eqb}
use Rattle.std.proofs.lemmas.List.Sums.{sum_by-cons}
use Rattle.std.proofs.lemmas.Option.{none-some, slice_get-map, slice_get_cases, slice_get_past}
use Rattle.std.proofs.lemmas.Slice.Eq.{bytes_eq-Decides}
use Rattle.std.specs.Str.{bytes_eq}
use Rattle.ceph_snapshot.specs.declared.directory.Directory.{Directory}
use Rattle.ceph_snapshot.specs.declared.tree.Node.{Node}
use Rattle.ceph_snapshot.specs.declared.tree.Sighting.{Sighting}
use Rattle.ceph_snapshot.specs.Authority.{node_path_at}
use Rattle.ceph_snapshot.specs.Doubts.{with_listed}
use Rattle.ceph_snapshot.specs.Sightings.{AreCold, HasSeen, HaveOwnPaths, PathHeat, Position, Account, counts, is_seen_by, mean_of}
use Rattle.ceph_snapshot.specs.Sightings.{mean_account, position_of, sum_at, account_of, account_at, account_by, account_with, with_path}
use Rattle.ceph_snapshot.proofs.Numbers.{path_account}
use Rattle.ceph_snapshot.proofs.Placing.{at-other, at-same}

elsewhere : (s : Sighting) (o : Option Node) → option_map (λ (n : Node). account_with false s n.directory) o
    ≡ option_map (λ (n : Node). account_of n.directory) o
elsewhere s None = refl
elsewhere s (Some n) = refl

pub account_set : (nodes : List Node) (s : Sighting) (old new : Node) → s.directory < length nodes → slice_get nodes s.directory ≡ Some old
    → account_of new.directory ≡ account_with true s old.directory
    → (i : ℕ) → account_at (set nodes s.directory new) i ≡ option_map (λ (n : Node). account_with (s.directory == i) s n.directory) (slice_get nodes i)
account_set nodes s old new l read is i =
    ⊎_elim
    (λ (here : i ≡ s.directory). subst (λ (k : ℕ). account_at (set nodes s.directory new) k
    ≡ option_map (λ (n : Node). account_with (s.directory == k) s n.directory) (slice_get nodes k)) (sym here)
    (ap (option_map (λ (n : Node). account_of n.directory)) (at-same nodes s.directory new l) ∙ (ap (λ (t : Account). Some t) is
    ∙ (ap (λ (b : Bool). Some (account_with b s old.directory)) (sym (eq-eqb s.directory s.directory refl))
    ∙ sym (ap (option_map (λ (n : Node). account_with (s.directory == s.directory) s n.directory)) read)))))
    (λ (other : i ≢ s.directory).
    ap (option_map (λ (n : Node). account_of n.directory)) (at-other nodes s.directory i new other)
    ∙ (sym (elsewhere s (slice_get nodes i))
    ∙ ap (λ (b : Bool). option_map (λ (n : Node). account_with b s n.directory) (slice_get nodes i))
    (sym (ne_eqb s.directory i (λ is. other (sym is))))))
    (cases_eq i s.directory)

-- a sighting of no directory
pub account_past : (nodes : List Node) (s : Sighting) → length nodes ≤ s.directory
    → (i : ℕ) → account_at nodes i ≡ option_map (λ (n : Node). account_with (s.directory == i) s n.directory) (slice_get nodes i)
account_past nodes s past i =
    ⊎_elim
    (λ (here : i ≡ s.directory).
    let none : slice_get nodes i ≡ None = slice_get_past nodes i (omega (arith, past, here)) in
    ap (option_map (λ (n : Node). account_of n.directory)) none ∙ sym (ap (option_map (λ (n : Node). account_with (s.directory == i) s n.directory)) none))
    (λ (other : i ≢ s.directory). sym (elsewhere s (slice_get nodes i))
    ∙ ap (λ (b : Bool). option_map (λ (n : Node). account_with b s n.directory) (slice_get nodes i))
    (sym (ne_eqb s.directory i (λ is. other (sym is)))))
    (cases_eq i s.directory)

pub seen_by_place : (spread : Bool) (now rank : ℕ) → (spread || (now == rank)) ≡ (spread || (cond spread 0 now == rank))
seen_by_place true now rank = refl
seen_by_place false now rank = refl

-- no sighting counts at first
pub account_first : (nodes : List Node) → AreCold nodes → (i : ℕ)
    → account_at nodes i ≡ option_map (λ (n : Node). account_by i [] n.directory) (slice_get nodes i)
account_first nodes cold i = at_start (slice_get nodes i) (cold i) where
  at_start : (o : Option Node) → ((t : Account) → option_map (λ (n : Node). account_of n.directory) o ≡ Some t → t ≡ (t.0, (0, (0, None))))
      → option_map (λ (n : Node). account_of n.directory) o ≡ option_map (λ (n : Node). account_by i [] n.directory) o
  at_start None is = refl
  at_start (Some n) is = ap (λ (t : Account). Some t) (is (account_of n.directory) refl)

-- what is made of each
pub at_map : {A B C : Type 0} (f : A → C) (g : B → C) (xs : List A) (ys : List B) → map f xs ≡ map g ys → (i : ℕ)
    → option_map f (slice_get xs i) ≡ option_map g (slice_get ys i)
at_map {C = C} f g xs ys same i = sym (slice_get-map f xs i) ∙ (ap (λ (cs : List C). slice_get cs i) same ∙ slice_get-map g ys i)

-- a sighting is of directory i where it has that path
pub same_path : (nodes : List Node) (i j : ℕ) (t : Account) → HaveOwnPaths nodes → account_at nodes i ≡ Some t → j < length nodes
    → (j == i) ≡ bytes_eq (node_path_at nodes j) t.0
same_path nodes i j t apart there l =
    ⊎_elim
    (λ (same : j ≡ i). eq-eqb j i same ∙ sym ((bytes_eq-Decides (node_path_at nodes j) t.0).1 (ap (node_path_at nodes) same ∙ path_account nodes i t there)))
    (λ (other : j ≢ i).
    ne_eqb j i other ∙ sym (false_from_ne_true (bytes_eq (node_path_at nodes j) t.0) (λ yes.
    other (apart j i (account_of (at_j l).0.directory) t (at_j l).1 there
    (sym (path_account nodes j (account_of (at_j l).0.directory) (at_j l).1) ∙ (bytes_eq-Decides (node_path_at nodes j) t.0).0 yes)))))
    (cases_eq j i) where
      at_j : j < length nodes → (n : Node) × (account_at nodes j ≡ Some (account_of n.directory))
      at_j low =
          ⊎_elim
          (λ some. (some.0, ap (option_map (λ (n : Node). account_of n.directory)) some.2))
          (λ none. absurd (omega (arith, low, none.0)))
          (slice_get_cases nodes j).1

-- the sum of what counts, by path
sum_path : (nodes : List Node) (i : ℕ) (n d : Directory) (part : Sighting → ℕ) (of : PathHeat → ℕ) (ss : List Sighting)
    → ((s : Sighting) → of (with_path nodes s) ≡ part s)
    → HaveOwnPaths nodes → account_at nodes i ≡ Some (account_of n) → n.path.items ≡ d.path.items → position_of d ≡ position_of n
    → All (λ (s : Sighting). s.directory < length nodes) ss
    → sum_at i n part ss ≡ sum_by (λ s. cond (counts d s) (of s) 0) (map (with_path nodes) ss)
sum_path nodes i n d part of [] parts apart there paths places inside = refl
sum_path nodes i n d part of (s ∷ ss) parts apart there paths places inside =
    sum_by-cons f s ss
    ∙ (ap (λ (k : ℕ). k + sum_by f ss) here
    ∙ (ap (λ (k : ℕ). g (with_path nodes s) + k)
    (sum_path nodes i n d part of ss parts apart there paths places (λ k e l. inside (suc k) e (omega (arith, l))))
    ∙ sym (sum_by-cons g (with_path nodes s) (map (with_path nodes) ss)))) where
      f : Sighting → ℕ
      f one = cond ((one.directory == i) && is_seen_by n one.rank) (part one) 0

      g : PathHeat → ℕ
      g one = cond (counts d one) (of one) 0

      seen : is_seen_by n s.rank ≡ is_seen_by d s.rank
      seen = seen_by_place n.is_spread n.now s.rank
          ∙ (ap (λ (p : Position). p.0 || (p.1.0 == s.rank)) (sym places) ∙ sym (seen_by_place d.is_spread d.now s.rank))

      path : (s.directory == i) ≡ bytes_eq (node_path_at nodes s.directory) d.path.items
      path = same_path nodes i s.directory (account_of n) apart there (inside 0 s (omega arith)) ∙ ap (bytes_eq (node_path_at nodes s.directory)) paths

      here : f s ≡ g (with_path nodes s)
      here = ap (λ (b : Bool). cond (b && is_seen_by n s.rank) (part s) 0) path
          ∙ (ap (λ (b : Bool). cond (bytes_eq (node_path_at nodes s.directory) d.path.items && b) (part s) 0) seen
          ∙ ap (λ (k : ℕ). cond (counts d (with_path nodes s)) k 0) (sym (parts s)))

-- the inode number, by path
pub inode_path : (nodes : List Node) (i : ℕ) (t : Account) (found : Option ℕ) (ss : List Sighting) → HaveOwnPaths nodes → account_at nodes i ≡ Some t
    → All (λ (s : Sighting). s.directory < length nodes) ss
    → fold (λ (o : Option ℕ) (s : Sighting). cond (s.directory == i) (option_or s.inode o) o) found ss
    ≡ fold (λ (o : Option ℕ) (s : PathHeat). cond (bytes_eq s.path t.0) (option_or s.inode o) o) found (map (with_path nodes) ss)
inode_path nodes i t found [] apart there inside = refl
inode_path nodes i t found (s ∷ ss) apart there inside =
    ap (λ (b : Bool). fold (λ (o : Option ℕ) (one : Sighting). cond (one.directory == i) (option_or one.inode o) o)
    (cond b (option_or s.inode found) found) ss) (same_path nodes i s.directory t apart there (inside 0 s (omega arith)))
    ∙ inode_path nodes i t (cond (bytes_eq (node_path_at nodes s.directory) t.0) (option_or s.inode found) found) ss apart there
    (λ k e l. inside (suc k) e (omega (arith, l)))

pub has_seen : (nodes : List Node) (i samples : ℕ) (listed : Option ℕ) (n d : Directory) (ss : List Sighting) (seen : List PathHeat)
    → map (with_path nodes) ss ≡ seen → HaveOwnPaths nodes
    → account_at nodes i ≡ Some (account_of n) → position_of d ≡ position_of n → All (λ (s : Sighting). s.directory < length nodes) ss
    → account_of d ≡ with_listed listed (mean_account samples (account_by i ss n)) → HasSeen seen samples d
has_seen nodes i samples listed n d ss seen is apart there places inside counted = subst (λ (hs : List PathHeat). HasSeen hs samples d) is record {
  heat = ap (λ (t : Account). t.1.0) counted ∙ ap (mean_of samples)
      (sum_path nodes i n d (λ s. s.heat) (λ s. s.heat) ss (λ s. refl) apart there paths places inside);
  writes = ap (λ (t : Account). t.1.1.0) counted ∙ ap (mean_of samples)
      (sum_path nodes i n d (λ s. s.writes) (λ s. s.writes) ss (λ s. refl) apart there paths places inside);
} where
  paths : n.path.items ≡ d.path.items
  paths = sym (ap (λ (t : Account). t.0) counted)

pub seen_at : (nodes : List Node) (o f : Option Node) (i samples : ℕ) (d : Directory) (ss : List Sighting) (seen : List PathHeat)
    → map (with_path nodes) ss ≡ seen → HaveOwnPaths nodes
    → All (λ (s : Sighting). s.directory < length nodes) ss → option_map (λ (n : Node). account_of n.directory) o ≡ account_at nodes i
    → Some (account_of d) ≡ option_map (λ (n : Node). with_listed n.listed (mean_account samples (account_of n.directory))) f
    → option_map (λ (n : Node). account_of n.directory) f ≡ option_map (λ (n : Node). account_by i ss n.directory) o
    → Some (position_of d) ≡ option_map (λ (n : Node). position_of n.directory) o → HasSeen seen samples d
seen_at nodes None f i samples d ss seen is apart inside was mean counted place = absurd (none-some (position_of d) (sym place))
seen_at nodes (Some n) None i samples d ss seen is apart inside was mean counted place = absurd (none-some (account_of d) (sym mean))
seen_at nodes (Some n) (Some m) i samples d ss seen is apart inside was mean counted place =
    has_seen nodes i samples m.listed n.directory d ss seen is apart (sym was) (ap (λ (o : Option Position). unwrap_or o (position_of d)) place) inside
    (ap (λ (o : Option Account). unwrap_or o (account_of d)) mean
    ∙ ap (λ (t : Account). with_listed m.listed (mean_account samples t))
    (ap (λ (o : Option Account). unwrap_or o (account_of d)) counted))
