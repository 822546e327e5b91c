-- Paths and pins stay while directories are placed and marked.
use Rattle.std.proofs.Common.{◌≡◌, ◌∙◌, ◌<◌, ◌≤◌, ◌++◌, ◌∷◌, [], ℕ, Bool, List, Option, Some, None, length, map, slice_get, refl, ap, sym, arith, ⊎_elim}
use Rattle.std.specs.Option.{option_map}
use Rattle.std.proofs.lemmas.Bool.{cases_lt}
use Rattle.std.proofs.lemmas.List.{map-append}
use Rattle.std.proofs.lemmas.Option.{slice_get-map, slice_get_past}
use Rattle.ceph_snapshot.specs.declared.directory.Directory.{Directory}
use Rattle.ceph_snapshot.specs.declared.tree.Node.{Node}
use Rattle.ceph_snapshot.specs.Authority.{LieAsClaimed, is_torn_above, placed_node, rank_above}
use Rattle.ceph_snapshot.specs.Holding.{is_marked}
use Rattle.ceph_snapshot.specs.Gathered.{PathPin, WhosePin, listed_at, listed_of, numbers_at, numbers_of, path_pin, path_pin_at, whose_pin, whose_pin_at}
use Rattle.ceph_snapshot.specs.Policies.{kept_where}
use Rattle.ceph_snapshot.specs.Sightings.{account_of, account_at}

-- what a change leaves of each
still : {X Y : Type 0} (f : X → Y) (change : ℕ → X → X) → ((i : ℕ) (x : X) → f (change i x) ≡ f x) → (xs ys : List X) → length ys ≡ length xs
    → ((i : ℕ) → i < length xs → slice_get ys i ≡ option_map (change i) (slice_get xs i)) → (i : ℕ)
    → option_map f (slice_get ys i) ≡ option_map f (slice_get xs i)
still {X} f change same xs ys size made i =
    ⊎_elim
    (λ (inside : i < length xs). ap (option_map f) (made i inside) ∙ one (slice_get xs i))
    (λ (past : length xs ≤ i).
    ap (option_map f) (slice_get_past ys i (let far : length ys ≤ i = omega (arith, size, past) in far) ∙ sym (slice_get_past xs i past)))
    (cases_lt i (length xs)) where
      one : (o : Option X) → option_map f (option_map (change i) o) ≡ option_map f o
      one None = refl
      one (Some x) = ap Some (same i x)

pub owner_kept : (old new : List Directory) (marks : List Bool) → length new ≡ length old
    → ((i : ℕ) → i < length old → slice_get new i ≡ option_map (kept_where (is_marked marks i)) (slice_get old i)) → (i : ℕ)
    → whose_pin_at new i ≡ whose_pin_at old i
owner_kept old new marks size kept i = still whose_pin (λ k. kept_where (is_marked marks k)) (λ k d. refl) old new size kept i

pub numbers_kept : (old new : List Directory) (marks : List Bool) → length new ≡ length old
    → ((i : ℕ) → i < length old → slice_get new i ≡ option_map (kept_where (is_marked marks i)) (slice_get old i)) → (i : ℕ)
    → numbers_at new i ≡ numbers_at old i
numbers_kept old new marks size kept i = still numbers_of (λ k. kept_where (is_marked marks k)) (λ k d. refl) old new size kept i

pub pin_placed : (nodes placed : List Node) → LieAsClaimed nodes placed → (i : ℕ) → path_pin_at placed i ≡ path_pin_at nodes i
pin_placed nodes placed are i =
    still path_pin (λ k. placed_node (rank_above nodes placed k) (is_torn_above nodes placed k)) (λ k n. refl) nodes placed are.size are.at i

pub account_placed : (nodes placed : List Node) → LieAsClaimed nodes placed → (i : ℕ) → account_at placed i ≡ account_at nodes i
account_placed nodes placed are i =
    still (λ (n : Node). account_of n.directory) (λ k. placed_node (rank_above nodes placed k) (is_torn_above nodes placed k)) (λ k n. refl)
    nodes placed are.size are.at i

pub listed_placed : (nodes placed : List Node) → LieAsClaimed nodes placed → (i : ℕ) → listed_at placed i ≡ listed_at nodes i
listed_placed nodes placed are i =
    still (λ (n : Node). listed_of n.directory) (λ k. placed_node (rank_above nodes placed k) (is_torn_above nodes placed k)) (λ k n. refl)
    nodes placed are.size are.at i

pub parent_placed : (nodes placed : List Node) → LieAsClaimed nodes placed → (i : ℕ)
    → option_map (λ (n : Node). n.directory.parent) (slice_get placed i) ≡ option_map (λ (n : Node). n.directory.parent) (slice_get nodes i)
parent_placed nodes placed are i =
    still (λ (n : Node). n.directory.parent) (λ k. placed_node (rank_above nodes placed k) (is_torn_above nodes placed k)) (λ k n. refl)
    nodes placed are.size are.at i

-- what is made of each node
pub owner_from_map : (ds : List Directory) (ns : List Node) (f : PathPin → WhosePin) → map whose_pin ds ≡ map (λ (n : Node). f (path_pin n)) ns → (i : ℕ)
    → whose_pin_at ds i ≡ option_map f (path_pin_at ns i)
owner_from_map ds ns f same i =
    sym (slice_get-map whose_pin ds i)
    ∙ (ap (λ (xs : List WhosePin). slice_get xs i) same
    ∙ (slice_get-map (λ (n : Node). f (path_pin n)) ns i ∙ twice (slice_get ns i))) where
      twice : (o : Option Node) → option_map (λ (n : Node). f (path_pin n)) o ≡ option_map f (option_map path_pin o)
      twice None = refl
      twice (Some n) = refl

-- one more of each
pub mapped_more : {A B C : Type 0} (f : A → C) (g : B → C) (xs ys : List A) (zs : List B) (x : A) (z : B) → ys ≡ xs ++ x ∷ [] → map f xs ≡ map g zs → f x ≡ g z
    → map f ys ≡ map g (zs ++ z ∷ [])
mapped_more {C = C} f g xs ys zs x z made was one =
    ap (map f) made
    ∙ (map-append f xs (x ∷ [])
    ∙ (ap (λ (cs : List C). cs ++ f x ∷ []) was ∙ (ap (λ (c : C). map g zs ++ c ∷ []) one ∙ sym (map-append g zs (z ∷ [])))))
