-- The way from a directory up to the root.
use Rattle.std.proofs.Common.{◌≡◌, ℕ, zero, suc, ◌<◌, ◌≤◌, List, [], ◌∷◌, map, sym, ap, ◌∙◌, refl, arith, true, false, Option, Some, None}
use Rattle.std.specs.Option.{option_map_or}
use Rattle.std.specs.Prelude.{is_some, filter, not}
use Rattle.dirtree.specs.Tree.{Entry, IsTree, entry_at, is_there, parent_of, name_of, up, walk_up}
use Rattle.dirtree.specs.Path.{is_root, names_up}

-- what isn't there has parent 0
gone_parent : (e : Option Entry) → is_some e ≡ false → option_map_or (λ e. e.parent) e 0 ≡ 0
gone_parent None h = refl
gone_parent (Some e) h = cc

pub above : (es : List (Option Entry)) (d : ℕ) → IsTree es → 0 < d → parent_of es d < d
above es d tree some = elim (is_there es d) as (λ b. is_there es d ≡ b → parent_of es d < d) [
  | true ↦ λ there. tree.above d some there
  | false ↦ λ gone. let zero_ : parent_of es d ≡ 0 = gone_parent (entry_at es d) gone in omega (arith, zero_)
] refl

-- more steps than the number lead no further
enough : (es : List (Option Entry)) (tree : IsTree es) (n k d : ℕ) → k ≤ n → d ≤ k → up es k d ≡ up es d d
enough es tree n zero zero few h = refl
enough es tree n zero (suc d) few h = absurd (omega arith)
enough es tree zero (suc k) d few h = absurd (omega arith)
enough es tree (suc n) (suc k) zero few h = refl
enough es tree (suc n) (suc k) (suc d) few h =
    let below = above es (suc d) tree (omega arith) in
    ap (λ (ds : List ℕ). suc d ∷ ds) (enough es tree n k (parent_of es (suc d)) (omega arith) (omega (arith, below))
    ∙ sym (enough es tree n d (parent_of es (suc d)) (omega arith) (omega (arith, below))))

-- the way from a parent is the rest of the way from its child
pub up_parent : (es : List (Option Entry)) (d : ℕ) → IsTree es → up es d (parent_of es (suc d)) ≡ walk_up es (parent_of es (suc d))
up_parent es d tree = let below = above es (suc d) tree (omega arith) in enough es tree d d (parent_of es (suc d)) (omega arith) (omega (arith, below))

pub names_up-step : (es : List (Option Entry)) (d : ℕ) → IsTree es → 0 < d → names_up es d ≡ name_of es d ∷ names_up es (parent_of es d)
names_up-step es zero tree some = absurd (omega arith)
names_up-step es (suc d) tree some = ap (λ (ds : List ℕ). name_of es (suc d) ∷ map (name_of es) (filter (λ a. not (is_root a)) ds)) (up_parent es d tree)

-- what a node says of its entry
pub read_node : (es : List (Option Entry)) (d : ℕ) (e : Entry) → entry_at es d ≡ Some e → (parent_of es d ≡ e.parent) × (name_of es d ≡ e.name)
read_node es d e is = (ap (λ (x : Option Entry). option_map_or (λ e. e.parent) x 0) is, ap (λ (x : Option Entry). option_map_or (λ e. e.name) x []) is)

pub record IsNodeAt (es : List (Option Entry)) (d : ℕ) (e : Entry) : Type 0 where
  pub above : 0 < d → e.parent < d
  pub parent : is_there es e.parent ≡ true

pub node_at : (es : List (Option Entry)) (d : ℕ) (e : Entry) → IsTree es → entry_at es d ≡ Some e → IsNodeAt es d e
node_at es d e tree is =
    let there : is_there es d ≡ true = ap is_some is in
    let read = read_node es d e is in
    record {
      above = λ some. rw (← read.0) (tree.above d some there);
      parent = rw (← read.0) (tree.parents d there);
    }
