-- The tops that paths name, one after another.
use Rattle.std.proofs.Common.{◌≡◌, ℕ, zero, suc, ◌<◌, ◌+◌, Bool, true, false, ◌||◌, List, [], ◌∷◌, ◌++◌, length, map, take, set}
use Rattle.std.proofs.Common.{get_or, refl, sym, ap, ◌∙◌, arith, All, Result, Ok, Err, inl, inr, replicate, length-set, cond, drop, Bor}
use Rattle.std.specs.List.{list_any}
use Rattle.std.specs.Prelude.{filter, is_none, nat_eq}
use Rattle.std.proofs.lemmas.List.{get_or-set_same, get_or-set_other}
use Rattle.std.proofs.lemmas.List.Elements.{All-cons, All-map, All-nil, All-weaker}
use Rattle.std.proofs.lemmas.List.Folds.{list_any-append}
use Rattle.std.proofs.lemmas.Bool.{cases_eq, and_parts, ne_eqb}
use Rattle.std.proofs.lemmas.Bool.Decides.{Decides-eqb}
use Rattle.dirtree.specs.Tree.{is_there}
use Rattle.dir_pins.specs.Pins.{below, is_unpinned, nearest_pin}
use Rattle.tree_parts.specs.declared.division.Part.{Part}
use Rattle.tree_parts.specs.Parts.{Marks, is_free_top, is_top, part_at, parts}
use Rattle.script_board.specs.declared.fault.Fault.{Fault}
use Rattle.script_board.specs.Board.{BoardData}
use Rattle.script_board.specs.Commands.{◌>>=◌}
use Rattle.script_board.specs.Cost.{AreThere, top, tops}

only : {x y : List ℕ} → (let r : Result (List ℕ) Fault = Ok x in r) ≡ Ok y → x ≡ y
only h = cc

-- one more path that names a top
pub tops_more : (b : BoardData) (paths : List (List ℕ)) (path : List ℕ) (ts : List ℕ) (d : ℕ) → tops b paths ≡ Ok ts → top b path ≡ Ok d
    → tops b (paths ++ path ∷ []) ≡ Ok (ts ++ d ∷ [])
tops_more b [] path ts d before named = let none : ts ≡ [] = sym (only before) in rw (named, none) refl
tops_more b (first ∷ paths) path ts d before named =
    elim (top b first) as (λ r. (r >>= λ x. tops b paths >>= λ more. Ok (x ∷ more)) ≡ Ok ts
    → (r >>= λ x. tops b (paths ++ path ∷ []) >>= λ more. Ok (x ∷ more)) ≡ Ok (ts ++ d ∷ [])) [
      | Ok x ↦ λ h. elim (tops b paths) as (λ q. tops b paths ≡ q → (q >>= λ more. Ok (x ∷ more)) ≡ Ok ts
          → (tops b (paths ++ path ∷ []) >>= λ more. Ok (x ∷ more)) ≡ Ok (ts ++ d ∷ [])) [
            | Ok more ↦ λ is same. let all : x ∷ more ≡ ts = only same in rw (tops_more b paths path more d is named, ← all) refl
            | Err e ↦ λ is bad. cc
          ] refl h
      | Err e ↦ λ bad. cc
    ] before

-- one that names none, whatever follows
pub tops_end : (b : BoardData) (paths more : List (List ℕ)) (path : List ℕ) (ts : List ℕ) (e : Fault) → tops b paths ≡ Ok ts
    → top b path ≡ Err e → tops b (paths ++ path ∷ more) ≡ Err e
tops_end b [] more path ts e before refused = rw refused refl
tops_end b (first ∷ paths) more path ts e before refused =
    elim (top b first) as (λ r. (r >>= λ x. tops b paths >>= λ rest. Ok (x ∷ rest)) ≡ Ok ts
    → (r >>= λ x. tops b (paths ++ path ∷ more) >>= λ rest. Ok (x ∷ rest)) ≡ Err e) [
      | Ok x ↦ λ h. elim (tops b paths) as (λ q. tops b paths ≡ q → (q >>= λ rest. Ok (x ∷ rest)) ≡ Ok ts
          → (tops b (paths ++ path ∷ more) >>= λ rest. Ok (x ∷ rest)) ≡ Err e) [
            | Ok rest ↦ λ is same. rw (tops_end b paths more path rest e is refused) refl
            | Err f ↦ λ is bad. cc
          ] refl h
      | Err f ↦ λ bad. cc
    ] before

or_same : (a b : Bool) → (a || (b || false)) ≡ (a || b)
or_same true b = refl
or_same false true = refl
or_same false false = refl

or_assoc : (a b c : Bool) → (a || (b || c)) ≡ ((a || b) || c)
or_assoc true b c = refl
or_assoc false b c = refl

top_more : (ts : List ℕ) (d x : ℕ) → is_top (ts ++ d ∷ []) x ≡ (is_top ts x || nat_eq d x)
top_more ts d x = rw (list_any-append (λ t. nat_eq t x) ts (d ∷ []))
    (ap (λ (v : Bool). nat_eq x 0 || v) (or_same (list_any (λ t. nat_eq t x) ts) (nat_eq d x))
    ∙ or_assoc (nat_eq x 0) (list_any (λ t. nat_eq t x) ts) (nat_eq d x))

or_true : (a : Bool) → (a || true) ≡ true
or_true true = refl
or_true false = refl

or_false : (a : Bool) → (a || false) ≡ a
or_false true = refl
or_false false = refl

-- the marks of these tops and one more
pub marked_more : (marks : List Bool) (ts : List ℕ) (d : ℕ) → d < length marks → Marks marks ts → Marks (set marks d true) (ts ++ d ∷ [])
marked_more marks ts d inside marked x below =
    let size : length (set marks d true) ≡ length marks = simp length-set in
    top_more_at (omega (arith, below, size))
  where
    top_more_at : x < length marks → get_or (set marks d true) x false ≡ is_top (ts ++ d ∷ []) x
    top_more_at small = elim (cases_eq x d) [
      | inl here ↦ rw (here) (get_or-set_same marks d true false inside ∙ sym (top_more ts d d ∙ (rw ((Decides-eqb d d).1 refl) (or_true (is_top ts d)))))
      | inr other ↦ get_or-set_other marks d x true false other ∙ marked x small
          ∙ sym (top_more ts d x ∙ (rw (ne_eqb d x (λ e. other (sym e))) (or_false (is_top ts x))))
    ]

pub all_false : (n d : ℕ) → get_or (replicate n false) d false ≡ false
all_false zero d = refl
all_false (suc n) zero = refl
all_false (suc n) (suc d) = all_false n d

-- only the root
pub marked_root : (marks : List Bool) → ((d : ℕ) → get_or marks d false ≡ false) → 0 < length marks → Marks (set marks 0 true) []
marked_root [] none some d inside = absurd (omega arith)
marked_root (m ∷ marks) none some zero inside = refl
marked_root (m ∷ marks) none some (suc d) inside = none (suc d) ∙ sym (or_false (nat_eq (suc d) 0) ∙ ne_eqb (suc d) 0 (λ e. absurd (omega (arith, e))))

pub passing : (test : ℕ → Bool) (xs : List ℕ) → All (λ d. test d ≡ true) (filter test xs)
passing test [] = All-nil (λ d. test d ≡ true)
passing test (x ∷ xs) = elim (test x) as (λ v. test x ≡ v → All (λ d. test d ≡ true) (cond v (x ∷ filter test xs) (filter test xs))) [
  | true ↦ λ is. All-cons (λ d. test d ≡ true) x (filter test xs) is (passing test xs)
  | false ↦ λ is. passing test xs
] refl

-- the tops of parts are there
pub parts_there : (b : BoardData) (ts : List ℕ) → AreThere b (parts b.world.state.directories.entries b.world.state.pins.own b.world.state.heats.heats ts)
parts_there b ts =
    let es = b.world.state.directories.entries in
    let own = b.world.state.pins.own in
    All-map (λ (p : Part). is_there es p.top ≡ true) (part_at es own b.world.state.heats.heats ts) (filter (is_free_top es own ts) (below (length es)))
    (All-weaker (λ d. is_free_top es own ts d ≡ true) (λ d. is_there es d ≡ true)
    (λ d free. (and_parts (is_there es d) (is_none (nearest_pin es own d)) (and_parts (is_unpinned es own d) (is_top ts d) free).0).0)
    (filter (is_free_top es own ts) (below (length es))) (passing (is_free_top es own ts) (below (length es))))

-- the root is marked
pub root_marked : (marks : List Bool) (ts : List ℕ) → 0 < length marks → Marks marks ts → get_or marks 0 false ≡ true
root_marked marks ts some marked = marked 0 some

-- the paths before one of them, itself, and those after it
pub paths_at : (paths : List (Bor (List ℕ))) (i : ℕ) (d : Bor (List ℕ)) → i < length paths
    → map (λ (path : Bor (List ℕ)). path.now) paths ≡ map (λ (path : Bor (List ℕ)). path.now) (take i paths)
    ++ (get_or paths i d).now ∷ map (λ (path : Bor (List ℕ)). path.now) (drop (i + 1) paths)
paths_at [] i d h = absurd (omega arith)
paths_at (path ∷ paths) zero d h = refl
paths_at (path ∷ paths) (suc i) d h = ap (λ (ps : List (List ℕ)). path.now ∷ ps) (paths_at paths i d (omega arith))
    ∙ ap (λ (k : ℕ). path.now ∷ (map (λ (p : Bor (List ℕ)). p.now) (take i paths)
    ++ (get_or paths i d).now ∷ map (λ (p : Bor (List ℕ)). p.now) (drop k (path ∷ paths)))) (next i)
  where
    next : (i : ℕ) → suc (i + 1) ≡ suc i + 1
    next i = omega arith
