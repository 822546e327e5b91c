-- From the directories that were placed so far to one more.
use Rattle.std.proofs.Common.{◌≡◌, ◌≢◌, ◌∙◌, ◌<◌, ◌≤◌, ◌+◌, ◌==◌, ℕ, Bool, false, List, Option}
use Rattle.std.proofs.Common.{Some, length, length-set, slice_get, set, refl, ap, sym, subst, arith, ⊎_elim, cond}
use Rattle.std.specs.Option.{option_map, option_map_or}
use Rattle.std.proofs.lemmas.Bool.{cases_eq, cases_lt, ne_eqb}
use Rattle.std.proofs.lemmas.List.{get_or-set_other, get_or-set_same}
use Rattle.std.proofs.lemmas.Option.{slice_get-get_or, slice_get_past}
use Rattle.ceph_snapshot.specs.declared.tree.Node.{Node}
use Rattle.ceph_snapshot.specs.Authority.{above_at, is_torn_above, is_torn_at, lies_at, placed_node, rank_above}

pub at-same : {X : Type 0} (xs : List X) (at : ℕ) (x : X) → at < length xs → slice_get (set xs at x) at ≡ Some x
at-same xs at x inside =
    let within : at < length (set xs at x) = omega (arith, inside, length-set xs at x) in
    slice_get-get_or (set xs at x) at x within ∙ ap (λ y. Some y) (get_or-set_same xs at x x inside)

pub at-other : {X : Type 0} (xs : List X) (at i : ℕ) (x : X) → i ≢ at → slice_get (set xs at x) i ≡ slice_get xs i
at-other xs at i x apart =
    ⊎_elim
    (λ (inside : i < length xs).
    let within : i < length (set xs at x) = omega (arith, inside, length-set xs at x) in
    slice_get-get_or (set xs at x) i x within ∙ (ap (λ y. Some y) (get_or-set_other xs at i x x apart) ∙ sym (slice_get-get_or xs i x inside)))
    (λ (past : length xs ≤ i).
    let far : length (set xs at x) ≤ i = omega (arith, past, length-set xs at x) in
    slice_get_past (set xs at x) i far ∙ sym (slice_get_past xs i past))
    (cases_lt i (length xs))

-- what is as it was at the place that was written is as it was at each
pub set-same : {X Y : Type 0} (f : X → Y) (xs : List X) (at : ℕ) (old new : X) → at < length xs → slice_get xs at ≡ Some old → f new ≡ f old → (i : ℕ)
    → option_map f (slice_get (set xs at new) i) ≡ option_map f (slice_get xs i)
set-same f xs at old new l read same i =
    ⊎_elim
    (λ (here : i ≡ at). subst (λ (k : ℕ). option_map f (slice_get (set xs at new) k) ≡ option_map f (slice_get xs k)) (sym here)
    (ap (option_map f) (at-same xs at new l) ∙ (ap (λ y. Some y) same ∙ sym (ap (option_map f) read))))
    (λ (other : i ≢ at). ap (option_map f) (at-other xs at i new other))
    (cases_eq i at)

-- what is above an earlier place is as it was
rank_same : (start cur : List Node) (at i : ℕ) (new : Node) → (i ≢ 0 → above_at start i ≢ at) → rank_above start (set cur at new) i ≡ rank_above start cur i
rank_same start cur at i new apart =
    ⊎_elim
    (λ (is : i ≡ 0). subst (λ (k : ℕ). rank_above start (set cur at new) k ≡ rank_above start cur k) (sym is) refl)
    (λ (some : i ≢ 0). rw (ne_eqb i 0 some)
    (ap (λ (o : Option Node). option_map_or (λ (n : Node). n.directory.now) o 0) (at-other cur at (above_at start i) new (apart some))))
    (cases_eq i 0)

torn_same : (start cur : List Node) (at i : ℕ) (new : Node) → (i ≢ 0 → above_at start i ≢ at)
    → is_torn_above start (set cur at new) i ≡ is_torn_above start cur i
torn_same start cur at i new apart =
    ⊎_elim
    (λ (is : i ≡ 0). subst (λ (k : ℕ). is_torn_above start (set cur at new) k ≡ is_torn_above start cur k) (sym is) refl)
    (λ (some : i ≢ 0). rw (ne_eqb i 0 some)
    (ap (λ (o : Option Node). option_map_or (λ (n : Node). n.directory.is_spread) o false)
    (at-other cur at (above_at start i) new (apart some))))
    (cases_eq i 0)

pub placed_more : (start cur : List Node) (at parent : ℕ) (d new : Node) (now : ℕ) (torn : Bool) → length cur ≡ length start → at < length start
    → ((i : ℕ) → 0 < i → i < at → above_at start i < i)
    → ((i : ℕ) → i < at → slice_get cur i ≡ option_map (placed_node (rank_above start cur i) (is_torn_above start cur i)) (slice_get start i))
    → slice_get start at ≡ Some d → parent ≡ above_at start at → (0 < at → parent < at)
    → now ≡ (cond (at == 0) 0 (lies_at cur parent)) → torn ≡ (cond (at == 0) false (is_torn_at cur parent)) → new ≡ placed_node now torn d
    → (i : ℕ) → i < at + 1
    → slice_get (set cur at new) i ≡ option_map (placed_node (rank_above start (set cur at new) i) (is_torn_above start (set cur at new) i)) (slice_get start i)
placed_more start cur at parent d new now torn size inside before placed read parent_is low now_is torn_is is i l =
    ⊎_elim
    (λ (same : i ≡ at).
    let far : at ≢ 0 → above_at start at ≢ at = λ some hit. let below : parent < at = low (omega (arith, some)) in
    absurd (omega (arith, below, parent_is, hit)) in
    let rank : now ≡ rank_above start (set cur at new) at = now_is
    ∙ (ap (λ (p : ℕ). cond (at == 0) 0 (lies_at cur p)) parent_is ∙ sym (rank_same start cur at at new far)) in
    let spread : torn ≡ is_torn_above start (set cur at new) at = torn_is
    ∙ (ap (λ (p : ℕ). cond (at == 0) false (is_torn_at cur p)) parent_is ∙ sym (torn_same start cur at at new far)) in
    let made : new ≡ placed_node (rank_above start (set cur at new) at) (is_torn_above start (set cur at new) at) d =
    is ∙ (ap (λ (r : ℕ). placed_node r torn d) rank ∙ ap (λ (t : Bool). placed_node (rank_above start (set cur at new) at) t d) spread) in
    subst (λ (k : ℕ). slice_get (set cur at new) k ≡ option_map
    (placed_node (rank_above start (set cur at new) k) (is_torn_above start (set cur at new) k)) (slice_get start k)) (sym same)
    (at-same cur at new (omega (arith, inside, size)) ∙ (ap (λ (n : Node). Some n) made
    ∙ sym (ap (option_map (placed_node (rank_above start (set cur at new) at) (is_torn_above start (set cur at new) at))) read))))
    (λ (other : i ≢ at).
    let under : i < at = omega (arith, other, l) in
    let far : i ≢ 0 → above_at start i ≢ at = λ some hit. let below : above_at start i < i = before i (omega (arith, some)) under in
    absurd (omega (arith, below, under, hit)) in
    at-other cur at i new other ∙ (placed i under
    ∙ (ap (λ (r : ℕ). option_map (placed_node r (is_torn_above start cur i)) (slice_get start i)) (sym (rank_same start cur at i new far))
    ∙ ap (λ (t : Bool). option_map (placed_node (rank_above start (set cur at new) i) t) (slice_get start i)) (sym (torn_same start cur at i new far)))))
    (cases_eq i at)
