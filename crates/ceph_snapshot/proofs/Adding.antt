-- What one more directory adds.
use Rattle.std.proofs.Common.{◌≡◌, ◌≢◌, ◌∙◌, ℕ, ◌+◌, ◌-◌, ◌^◌, ◌<◌, ◌≤◌, ◌&&◌, ◌↔◌, ◌⊎◌, ◌++◌}
use Rattle.std.proofs.Common.{◌∷◌, [], Bool, true, false, not, cond, List, Option, Some, None, add_assoc, add-zero}
use Rattle.std.proofs.Common.{ap, arith, get_or, length, min, refl, set, slice_get, slice_index, subst, sym, ⊎_elim}
use Rattle.std.proofs.lemmas.Bool.{cases_Bool, cases_eq}
use Rattle.std.proofs.lemmas.List.{get_or_append_left, get_or_default, get_or_push, get_or-set_other, get_or-set_same, length_push}
use Rattle.std.proofs.lemmas.Option.{none-some}
use Rattle.std.specs.Option.{option_map_or}
use Rattle.mds_types.specs.Problem.{no_row}
use Rattle.mds_types.specs.declared.problem.ProblemRow.{ProblemRow}
use Rattle.mds_types.proofs.SumsLemmas.{sum_below-same, sum_below_more}
use Rattle.ceph_snapshot.specs.declared.directory.Directory.{Directory}
use Rattle.ceph_snapshot.specs.declared.held.Held.{Held}
use Rattle.ceph_snapshot.specs.declared.held.Held.TheVariants.{Free, Pinned, Spread}
use Rattle.ceph_snapshot.specs.Holding.{held_at, held_below_then, is_at, is_spread_at, most_heat}
use Rattle.ceph_snapshot.specs.Rows.{AreRowsOf, is_free, planned_row}

-- one more value after those of the first n
pub values_more : {A : Type 0} (none : A) (value : ℕ → A) (xs : List A) (x : A) (n : ℕ) → length xs ≡ n
    → ((i : ℕ) → i < n → get_or xs i none ≡ value i) → x ≡ value n
    → (i : ℕ) → i < n + 1 → get_or (xs ++ x ∷ []) i none ≡ value i
values_more none value xs x n size before here i l =
    ⊎_elim (λ (same : i ≡ n).
    subst (λ (k : ℕ). get_or (xs ++ x ∷ []) k none ≡ value k) (sym same) (get_or_push xs x none n size ∙ here))
    (λ (other : i ≢ n).
    let inside : i < n = omega (arith, other, l) in
    get_or_append_left xs (x ∷ []) none i (omega (arith, inside, size)) ∙ before i inside)
    (cases_eq i n)

pub rows-more : (ds : List Directory) (holds : List Held) (rows : List ProblemRow) (row : ProblemRow) (n : ℕ) → AreRowsOf ds holds n rows
    → row ≡ planned_row ds holds n → AreRowsOf ds holds (n + 1) (rows ++ row ∷ [])
rows-more ds holds rows row n before here = record {
  size = length_push rows row ∙ ap (λ (m : ℕ). m + 1) before.size;
  planned = values_more no_row (planned_row ds holds) rows row n before.size before.planned here;
}

-- a directory that nothing holds, as a row
pub free-row : (ds : List Directory) (holds : List Held) (at heat inodes : ℕ) (d : Directory) (hold : Held) → slice_get ds at ≡ Some d → at < length holds
    → get_or holds at hold ≡ Free → heat ≡ min d.heat (2 ^ 40) → inodes ≡ min d.inodes (2 ^ 32 - 1)
    → record { parent = d.parent; heat = heat; inodes = inodes; now = d.now } ≡ planned_row ds holds at
free-row ds holds at heat inodes d hold read inside is heat_is inodes_is =
    let free : held_at holds at ≡ Free = sym (get_or_default holds at hold Free inside) ∙ is in
    rw (read, free, heat_is, inodes_is) refl

-- one that is held, as a row
pub held-row : (ds : List Directory) (holds : List Held) (at : ℕ) (d : Directory) (hold : Held) → slice_get ds at ≡ Some d → at < length holds
    → ((rank : ℕ) × (get_or holds at hold ≡ Pinned rank)) ⊎ ((rank : ℕ) × (get_or holds at hold ≡ Spread rank))
    → record { parent = d.parent; heat = 0; inodes = 0; now = d.now } ≡ planned_row ds holds at
held-row ds holds at d hold read inside is =
    let free : is_free (held_at holds at) ≡ false =
    ⊎_elim (λ (pinned : (rank : ℕ) × (get_or holds at hold ≡ Pinned rank)). ap is_free (sym (get_or_default holds at hold Free inside) ∙ pinned.1))
    (λ (spread : (rank : ℕ) × (get_or holds at hold ≡ Spread rank)). ap is_free (sym (get_or_default holds at hold Free inside) ∙ spread.1))
    is in
    rw (read, free) refl

pub capped-add : (most a b : ℕ) → min most (min most a + b) ≡ min most (a + b)
capped-add most a b = omega arith

-- found is the rank where this counts as held, if it does at one
abbrev pub IsCounted : Option ℕ → Held → Bool → Type 0
IsCounted found hold spread = (r : ℕ) → (found ≡ Some r) ↔ ((is_at hold r ≡ true) × (spread ≡ false))

counted-there : (found : Option ℕ) (hold : Held) (spread : Bool) (heat r : ℕ) → IsCounted found hold spread → found ≡ Some r
    → cond (is_at hold r && not spread) heat 0 ≡ heat
counted-there found hold spread heat r counts here = let is = (counts r).0 here in rw (is.0, is.1) refl

counted-elsewhere : (found : Option ℕ) (hold : Held) (spread : Bool) (heat r : ℕ) → IsCounted found hold spread → found ≢ Some r
    → cond (is_at hold r && not spread) heat 0 ≡ 0
counted-elsewhere found hold spread heat r counts elsewhere =
    ⊎_elim (λ (at : is_at hold r ≡ true).
    ⊎_elim (λ (lies : spread ≡ true). rw (at, lies) refl)
    (λ (free : spread ≡ false). absurd (elsewhere ((counts r).1 (at, free))))
    (cases_Bool spread))
    (λ (away : is_at hold r ≡ false). rw away refl)
    (cases_Bool (is_at hold r))

-- the heat that is held at each rank, as far as 64 bits can count it
abbrev pub AreHeld : List Directory → List Held → (ℕ → ℕ) → List ℕ → List ℕ → ℕ → Type 0
AreHeld ds holds warm spread heats at =
    (r : ℕ) → r < 64 → slice_index heats r ≡ min most_heat (slice_index spread r + held_below_then ds holds warm r at)

held-split : (ds : List Directory) (holds : List Held) (warm : ℕ → ℕ) (r at : ℕ)
    → held_below_then ds holds warm r (at + 1) ≡ held_below_then ds holds warm r at + cond (is_at (held_at holds at) r && not (is_spread_at ds at)) (warm at) 0
held-split ds holds warm r at = sum_below_more at (λ i. cond (is_at (held_at holds i) r && not (is_spread_at ds i)) (warm i) 0)

unheld : (ds : List Directory) (holds : List Held) (warm : ℕ → ℕ) (found : Option ℕ) (r at : ℕ)
    → IsCounted found (held_at holds at) (is_spread_at ds at) → found ≢ Some r
    → held_below_then ds holds warm r at ≡ held_below_then ds holds warm r (at + 1)
unheld ds holds warm found r at counts elsewhere =
    sym (held-split ds holds warm r at
    ∙ (ap (λ (k : ℕ). held_below_then ds holds warm r at + k) (counted-elsewhere found (held_at holds at) (is_spread_at ds at) (warm at) r counts elsewhere)
    ∙ add-zero (held_below_then ds holds warm r at)))

pub held-same : (ds : List Directory) (holds : List Held) (warm : ℕ → ℕ) (spread heats : List ℕ) (at : ℕ)
    → IsCounted None (held_at holds at) (is_spread_at ds at)
    → AreHeld ds holds warm spread heats at → AreHeld ds holds warm spread heats (at + 1)
held-same ds holds warm spread heats at counts before r l =
    before r l ∙ ap (λ (k : ℕ). min most_heat (slice_index spread r + k)) (unheld ds holds warm None r at counts (none-some r))

pub held-more : (ds : List Directory) (holds : List Held) (warm : ℕ → ℕ) (spread heats : List ℕ) (at number sum : ℕ) → length heats ≡ 64 → number < 64
    → IsCounted (Some number) (held_at holds at) (is_spread_at ds at) → sum ≡ min most_heat (slice_index heats number + warm at)
    → AreHeld ds holds warm spread heats at → AreHeld ds holds warm spread (set heats number sum) (at + 1)
held-more ds holds warm spread heats at number sum size small counts is before r l =
    ⊎_elim (λ (same : r ≡ number).
    let here : held_below_then ds holds warm r (at + 1) ≡ held_below_then ds holds warm r at + warm at =
    held-split ds holds warm r at
    ∙ ap (λ (k : ℕ). held_below_then ds holds warm r at + k)
    (counted-there (Some number) (held_at holds at) (is_spread_at ds at) (warm at) r counts (ap (λ (n : ℕ). Some n) (sym same))) in
    ap (λ (k : ℕ). slice_index (set heats number sum) k) same
    ∙ (get_or-set_same heats number sum 0 (subst (λ (m : ℕ). number < m) (sym size) small)
    ∙ (is ∙ (ap (λ (k : ℕ). min most_heat (k + warm at)) (ap (slice_index heats) (sym same) ∙ before r l)
    ∙ (capped-add most_heat (slice_index spread r + held_below_then ds holds warm r at) (warm at)
    ∙ ap (min most_heat) (add_assoc (slice_index spread r) (held_below_then ds holds warm r at) (warm at)
    ∙ ap (λ (k : ℕ). slice_index spread r + k) (sym here)))))))
    (λ (other : r ≢ number).
    get_or-set_other heats number r sum 0 other
    ∙ (before r l ∙ ap (λ (k : ℕ). min most_heat (slice_index spread r + k))
    (unheld ds holds warm (Some number) r at counts (λ found. other (ap (λ (o : Option ℕ). option_map_or (λ (n : ℕ). n) o 0) (sym found))))))
    (cases_eq r number)

-- what is held does not change with heats that are the same
pub held-alike : (ds : List Directory) (holds : List Held) (warm cool : ℕ → ℕ) (r n : ℕ) → ((i : ℕ) → i < n → warm i ≡ cool i)
    → held_below_then ds holds warm r n ≡ held_below_then ds holds cool r n
held-alike ds holds warm cool r n same =
    sum_below-same n (λ i. cond (is_at (held_at holds i) r && not (is_spread_at ds i)) (warm i) 0)
    (λ i. cond (is_at (held_at holds i) r && not (is_spread_at ds i)) (cool i) 0)
    (λ i l. ap (λ (k : ℕ). cond (is_at (held_at holds i) r && not (is_spread_at ds i)) k 0) (same i l))

-- the place before one that is neither the first nor the second
pub before-inside : (i n : ℕ) → 1 < i → i ≤ n → (0 < i - 1) × (i - 1 < n)
before-inside i n later inside = (omega arith, omega arith)

pub add-back : (i : ℕ) → 1 < i → (i - 1) + 1 ≡ i
add-back i later = omega arith
