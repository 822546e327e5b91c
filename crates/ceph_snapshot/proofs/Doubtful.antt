-- The number that dumps name for a directory, once all that was seen is counted.
use Rattle.std.proofs.Common.{◌≡◌, ◌∙◌, ◌<◌, ◌*◌, ◌+◌, ◌==◌, ◌&&◌, cond, ◌∷◌, [], ℕ, suc, All}
use Rattle.std.proofs.Common.{Bool, List, Option, Some, None, length, map, nat_lt, slice_get, refl, ap, sym, is_some}
use Rattle.std.specs.List.{count_by, fold}
use Rattle.std.specs.Option.{option_map, option_or, unwrap_or}
use Rattle.std.proofs.lemmas.List.Sums.{sum_by-cons}
use Rattle.std.proofs.lemmas.Option.{none-some}
use Rattle.ceph_snapshot.specs.declared.tree.Node.{Node}
use Rattle.ceph_snapshot.specs.declared.tree.Sighting.{Sighting}
use Rattle.ceph_snapshot.specs.Doubts.{have_left, is_doubt, is_named, is_named_doubtful, numbers_with, with_numbers}
use Rattle.ceph_snapshot.specs.Gathered.{PathNumber, PathPin, path_pin}
use Rattle.ceph_snapshot.specs.Sightings.{Account, HaveOwnPaths, PathHeat, account_at, account_by, account_of, inode_seen, with_path}
use Rattle.ceph_snapshot.proofs.Sighted.{inode_path}

-- the path of a directory, with the number that dumps name and the listed one
abbrev pub Numbered : Type 0
Numbered = List ℕ × (Option ℕ × Option ℕ)

abbrev pub number_of : Node → Numbered
number_of n = (n.directory.path.items, (n.directory.inode, n.listed))

abbrev pub seen_of : List PathHeat → Node → Numbered
seen_of seen n = (n.directory.path.items, (inode_seen n.directory.path.items seen, n.listed))

pub number_seen : (nodes : List Node) (i : ℕ) (counted held o : Option Node) (ss : List Sighting) (seen : List PathHeat)
    → map (with_path nodes) ss ≡ seen → HaveOwnPaths nodes
    → All (λ (s : Sighting). s.directory < length nodes) ss → option_map (λ (n : Node). account_of n.directory) o ≡ account_at nodes i
    → option_map path_pin counted ≡ option_map path_pin o
    → option_map (λ (n : Node). account_of n.directory) counted ≡ option_map (λ (n : Node). account_by i ss n.directory) held
    → option_map number_of counted ≡ option_map (seen_of seen) o
number_seen nodes i None held None ss seen is apart inside at pins all = refl
number_seen nodes i None held (Some n) ss seen is apart inside at pins all = absurd (none-some (path_pin n) pins)
number_seen nodes i (Some k) held None ss seen is apart inside at pins all = absurd (none-some (path_pin k) (sym pins))
number_seen nodes i (Some k) None (Some n) ss seen is apart inside at pins all = absurd (none-some (account_of k.directory) (sym all))
number_seen nodes i (Some k) (Some h) (Some n) ss seen is apart inside at pins all =
    ap (λ (p : List ℕ). Some (p, (k.directory.inode, k.listed))) path
    ∙ (ap (λ (number : Option ℕ). Some (n.directory.path.items, (number, k.listed))) (found ∙ (by_path ∙ ap (inode_seen n.directory.path.items) is))
    ∙ ap (λ (number : Option ℕ). Some (n.directory.path.items, (inode_seen n.directory.path.items seen, number))) listed) where
      both : path_pin k ≡ path_pin n
      both = ap (λ (o : Option PathPin). unwrap_or o (path_pin k)) pins

      path : k.directory.path.items ≡ n.directory.path.items
      path = ap (λ (at : PathPin). at.0) both

      listed : k.listed ≡ n.listed
      listed = ap (λ (at : PathPin). at.1.1) both

      found : k.directory.inode ≡ fold (λ (o : Option ℕ) (s : Sighting). cond (s.directory == i) (option_or s.inode o) o) None ss
      found = ap (λ (o : Option Account). unwrap_or (option_map (λ (t : Account). t.1.1.1) o) None) all

      by_path : fold (λ (o : Option ℕ) (s : Sighting). cond (s.directory == i) (option_or s.inode o) o) None ss
          ≡ inode_seen n.directory.path.items (map (with_path nodes) ss)
      by_path = inode_path nodes i (account_of n.directory) None ss apart (sym at) inside

-- what is made of a directory with it
pub numbers_read : (numbered : Bool) (seen : List PathHeat) (counted o : Option Node) → option_map number_of counted ≡ option_map (seen_of seen) o
    → option_map (numbers_with numbered) counted ≡ option_map (with_numbers numbered seen) (option_map path_pin o)
numbers_read numbered seen None None is = refl
numbers_read numbered seen None (Some n) is = absurd (none-some (seen_of seen n) is)
numbers_read numbered seen (Some k) None is = absurd (none-some (number_of k) (sym is))
numbers_read numbered seen (Some k) (Some n) is =
    ap (option_map made) is where
      made : Numbered → PathNumber
      made t = (t.0, (option_or t.1.0 t.1.1, numbered && is_doubt t.1.0 t.1.1))

-- and how many directories are such
same_count : {A B C : Type 0} (f : C → Bool) (g : A → C) (h : B → C) (xs : List A) (ys : List B)
    → ((i : ℕ) → option_map g (slice_get xs i) ≡ option_map h (slice_get ys i))
    → count_by (λ x. f (g x)) xs ≡ count_by (λ y. f (h y)) ys
same_count f g h [] [] all = refl
same_count f g h [] (y ∷ ys) all = absurd (none-some (h y) (all 0))
same_count f g h (x ∷ xs) [] all = absurd (none-some (g x) (sym (all 0)))
same_count {C = C} f g h (x ∷ xs) (y ∷ ys) all =
    let head : g x ≡ h y = ap (λ (o : Option C). unwrap_or o (g x)) (all 0) in
    let more : count_by (λ one. f (g one)) xs ≡ count_by (λ one. f (h one)) ys = same_count f g h xs ys (λ i. all (suc i)) in
    sum_by-cons (λ one. cond (f (g one)) 1 0) x xs
    ∙ (ap (λ (one : C). cond (f one) 1 0 + count_by (λ it. f (g it)) xs) head
    ∙ (ap (λ (k : ℕ). cond (f (h y)) 1 0 + k) more ∙ sym (sum_by-cons (λ one. cond (f (h one)) 1 0) y ys)))

pub left_read : (numbered : Bool) (seen : List PathHeat) (counted nodes : List Node)
    → ((i : ℕ) → option_map number_of (slice_get counted i) ≡ option_map (seen_of seen) (slice_get nodes i))
    → (numbered && nat_lt (count_by is_named counted) (2 * count_by is_named_doubtful counted)) ≡ have_left numbered seen nodes
left_read numbered seen counted nodes all =
    ap (λ (k : ℕ). numbered && nat_lt k (2 * count_by is_named_doubtful counted))
    (same_count (λ (t : Numbered). is_some t.1.0) number_of (seen_of seen) counted nodes all)
    ∙ ap (λ (k : ℕ). numbered && nat_lt (count_by (λ (n : Node). is_some (inode_seen n.directory.path.items seen)) nodes) (2 * k))
    (same_count (λ (t : Numbered). is_some t.1.0 && is_doubt t.1.0 t.1.1) number_of (seen_of seen) counted nodes all)
