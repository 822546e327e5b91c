-- The parts fit together after each change.
use Rattle.std.proofs.Common.{◌≡◌, ℕ, zero, suc, ◌+◌, ◌≤◌, ◌<◌, Bool, true, List, [], ◌∷◌, ◌++◌}
use Rattle.std.proofs.Common.{length, map, replicate, Option, Some, None, refl, ap, ◌∙◌, arith, slice_set, slice_index_or}
use Rattle.std.specs.Option.{option_map}
use Rattle.std.proofs.lemmas.List.{length-map}
use Rattle.dirtree.specs.Tree.{Entry, is_there}
use Rattle.export_protocol.specs.Authority.{is_present}
use Rattle.export_protocol.specs.Cluster.{World}
use Rattle.heat_ledger.specs.Rows.{at, raised}
use Rattle.mds_board.specs.Steps.{parents_of}

map_append : {A B : Type 0} (f : A → B) (xs ys : List A) → map f (xs ++ ys) ≡ map f xs ++ map f ys
map_append f [] ys = refl
map_append f (x ∷ xs) ys = ap (λ zs. f x ∷ zs) (map_append f xs ys)

map_set : {A B : Type 0} (f : A → B) (xs : List A) (i : ℕ) (x : A) → map f (slice_set xs i x) ≡ slice_set (map f xs) i (f x)
map_set f [] i x = refl
map_set f (y ∷ ys) zero x = refl
map_set f (y ∷ ys) (suc i) x = ap (λ zs. f y ∷ zs) (map_set f ys i x)

-- a directory that is made has its parent in the cluster, too
pub parents_made : (entries : List (Option Entry)) (e : Entry) → parents_of (entries ++ Some e ∷ []) ≡ parents_of entries ++ Some e.parent ∷ []
parents_made entries e = map_append (option_map (λ (x : Entry). x.parent)) entries (Some e ∷ [])

pub parents_gone : (entries : List (Option Entry)) (d : ℕ) → parents_of (slice_set entries d None) ≡ slice_set (parents_of entries) d None
parents_gone entries d = map_set (option_map (λ (x : Entry). x.parent)) entries d None

-- as many numbers as the tree has were given in the cluster
pub as_many : (entries : List (Option Entry)) (parents : List (Option ℕ)) → parents ≡ parents_of entries → length parents ≡ length entries
as_many entries parents is = ap (λ ps. length ps) is ∙ length-map entries (option_map (λ (e : Entry). e.parent))

-- what is there in the cluster is there in the tree
-- a directory of the cluster has a number that was given
pub near : (w : World) (d : ℕ) → is_present w d ≡ true → d < length w.parents
near w d h = on w.parents d h
  where
    on : (ps : List (Option ℕ)) (d : ℕ) → Rattle.std.specs.Prelude.is_some (slice_index_or ps d None) ≡ true → d < length ps
    on [] d h = absurd (cc)
    on (p ∷ ps) zero h = omega arith
    on (p ∷ ps) (suc d) h = let k = on ps d h in omega (arith, k)

pub there : (w : World) (entries : List (Option Entry)) (d : ℕ) → w.parents ≡ parents_of entries → is_present w d ≡ is_there entries d
there w entries d is = ap (λ (ps : List (Option ℕ)). is_some_at ps d) is ∙ on entries d
  where
    is_some_at : List (Option ℕ) → ℕ → Bool
    is_some_at ps d = Rattle.std.specs.Prelude.is_some (slice_index_or ps d None)

    on : (es : List (Option Entry)) (d : ℕ) → is_some_at (parents_of es) d ≡ is_there es d
    on [] d = refl
    on (None ∷ es) zero = refl
    on (Some e ∷ es) zero = refl
    on (e ∷ es) (suc d) = on es d

-- one more event keeps the begun requests few
pub few_stay : (begun : List ℕ) (events : ℕ) → ((d : ℕ) → at begun d ≤ events) → (d : ℕ) → at begun d ≤ events + 1
few_stay begun events h d = omega (arith, h d)

pub few_raised : (begun : List ℕ) (events dir : ℕ) → ((d : ℕ) → at begun d ≤ events) → (d : ℕ) → at (raised begun dir) d ≤ events + 1
few_raised begun events dir h d = omega (arith, on begun dir d, h d, h dir)
  where
    on : (xs : List ℕ) (i d : ℕ) → at (raised xs i) d ≤ at xs d + 1
    on [] i d = omega arith
    on (x ∷ xs) zero zero = omega arith
    on (x ∷ xs) zero (suc d) = omega arith
    on (x ∷ xs) (suc i) zero = omega arith
    on (x ∷ xs) (suc i) (suc d) = on xs i d

pub none_begun : (limit d : ℕ) → at (replicate limit 0) d ≤ 0
none_begun zero d = omega arith
none_begun (suc limit) zero = omega arith
none_begun (suc limit) (suc d) = none_begun limit d
