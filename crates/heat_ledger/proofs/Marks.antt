-- Directories that are in a list once.
use Rattle.std.proofs.Common.{◌≡◌, ◌≢◌, ℕ, zero, suc, ◌+◌, ◌<◌, ◌≤◌, ◌==◌, List, [], ◌∷◌, ◌++◌, Bool}
use Rattle.std.proofs.Common.{true, false, if◌then◌else◌, set, length, refl, sym, ap, ◌∙◌, arith, subst, inl, inr}
use Rattle.std.proofs.lemmas.Bool.Decides.{nat_tests, leb_tells}
use native.Mathlib.Decide.{ℕ_discrete}
use Rattle.heat_ledger.specs.Rows.{at, IsZero}
use Rattle.heat_ledger.specs.Touched.{times, mark, IsTracked}
use Rattle.heat_ledger.proofs.RowLemmas.{at_set_same, at_set_other, at_past}

pub times_same : (d : ℕ) (ds : List ℕ) → times (d ∷ ds) d ≡ 1 + times ds d
times_same d ds = grind (arith, nat_tests)

pub times_other : (d e : ℕ) (ds : List ℕ) → d ≢ e → times (d ∷ ds) e ≡ times ds e
times_other d e ds n = grind (arith, nat_tests)

pub times_more : (d e : ℕ) (ds : List ℕ) → times ds e ≤ times (d ∷ ds) e
times_more d e ds = grind (arith, nat_tests)

-- what is in a list is there at least once
pub times_at : (ds : List ℕ) (j : ℕ) → j < length ds → 1 ≤ times ds (at ds j)
times_at [] j h = absurd (omega arith)
times_at (d ∷ ds) zero h = omega (arith, times_same d ds)
times_at (d ∷ ds) (suc j) h = omega (arith, times_at ds j (omega arith), times_more d (at ds j) ds)

-- what is at no place is not in it at all
pub times_none : (ds : List ℕ) (e : ℕ) → ((j : ℕ) → j < length ds → at ds j ≢ e) → times ds e ≡ 0
times_none [] e h = refl
times_none (d ∷ ds) e h = times_other d e ds (h 0 (omega arith)) ∙ times_none ds e (λ j less. h (suc j) (omega arith))

pub times_push : (ds : List ℕ) (d e : ℕ) → times (ds ++ d ∷ []) e ≡ times ds e + times (d ∷ []) e
times_push [] d e = omega arith
times_push (x ∷ xs) d e = step (λ e. times_push xs d e) (ℕ_discrete x e)
  where
    step : ((e : ℕ) → times (xs ++ d ∷ []) e ≡ times xs e + times (d ∷ []) e) → Dec (x ≡ e) → times (x ∷ (xs ++ d ∷ [])) e ≡ times (x ∷ xs) e + times (d ∷ []) e
    step rest (yes s) = subst (λ (e : ℕ). times (x ∷ (xs ++ d ∷ [])) e ≡ times (x ∷ xs) e + times (d ∷ []) e) s
        (omega (arith, times_same x (xs ++ d ∷ []), times_same x xs, rest x))
    step rest (no n) = omega (arith, times_other x e (xs ++ d ∷ []) n, times_other x e xs n, rest e)

-- what is at two places is there at least twice
times_twice : (ds : List ℕ) (k j : ℕ) → k < j → j < length ds → at ds k ≡ at ds j → 2 ≤ times ds (at ds j)
times_twice [] k j less h e = absurd (omega arith)
times_twice (d ∷ ds) k zero less h e = absurd (omega arith)
times_twice (d ∷ ds) zero (suc j) less h e = omega (arith, times_at ds j (omega arith), times_same d ds, ap (times (d ∷ ds)) e, ap (times ds) e)
times_twice (d ∷ ds) (suc k) (suc j) less h e = omega (arith, times_twice ds k j (omega arith) (omega arith) e, times_more d (at ds j) ds)

test_differs : (d e : ℕ) → (d == e) ≡ false → d ≢ e
test_differs d e is = grind (arith, nat_tests)

-- the list without a directory
without : ℕ → List ℕ → List ℕ
without e [] = []
without e (d ∷ ds) = if d == e then without e ds else d ∷ without e ds

length-without : (e : ℕ) (ds : List ℕ) → length ds ≡ length (without e ds) + times ds e
unfolding without
length-without e [] = omega arith
length-without e (d ∷ ds) = step (d == e) (length-without e ds)
  where
    step : (b : Bool) → length ds ≡ length (without e ds) + times ds e
        → length (d ∷ ds) ≡ length (if b then without e ds else d ∷ without e ds) + (if b then 1 + times ds e else times ds e)
    step true rest = omega arith
    step false rest = omega arith

times-without_le : (e x : ℕ) (ds : List ℕ) → times (without e ds) x ≤ times ds x
unfolding without
times-without_le e x [] = omega arith
times-without_le e x (d ∷ ds) = step (d == e) (times-without_le e x ds) (ℕ_discrete d x)
  where
    step : (b : Bool) → times (without e ds) x ≤ times ds x → Dec (d ≡ x) → times (if b then without e ds else d ∷ without e ds) x ≤ times (d ∷ ds) x
    step true rest same = omega (arith, times_more d x ds)
    step false rest (yes s) = omega (
      arith,
      ap (times (d ∷ without e ds)) s,
      ap (times (d ∷ ds)) s,
      times_same d (without e ds),
      times_same d ds,
      ap (times (without e ds)) s,
      ap (times ds) s,
    )
    step false rest (no n) = omega (arith, times_other d x (without e ds) n, times_other d x ds n)

times-without_same : (e : ℕ) (ds : List ℕ) → times (without e ds) e ≡ 0
unfolding without
times-without_same e [] = refl
times-without_same e (d ∷ ds) = step (d == e) refl (times-without_same e ds)
  where
    step : (b : Bool) → (d == e) ≡ b → times (without e ds) e ≡ 0 → times (if b then without e ds else d ∷ without e ds) e ≡ 0
    step true is rest = rest
    step false is rest = let n : d ≢ e = test_differs d e is in times_other d e (without e ds) n ∙ rest

-- numbers below a limit, each at most once, are no more than the limit
pub few : (limit : ℕ) (ds : List ℕ) → ((d : ℕ) → times ds d ≤ 1) → ((d : ℕ) → limit ≤ d → times ds d ≡ 0) → length ds ≤ limit
few zero [] once below = omega arith
few zero (d ∷ ds) once below = absurd (omega (arith, times_same d ds, below d (omega arith)))
few (suc limit) ds once below =
    let rest : length (without limit ds) ≤ limit = few limit (without limit ds) (λ d. omega (arith, times-without_le limit d ds, once d))
    (λ d h. at_limit d h (ℕ_discrete limit d)) in
    omega (arith, length-without limit ds, once limit, rest)
  where
    at_limit : (d : ℕ) → limit ≤ d → Dec (limit ≡ d) → times (without limit ds) d ≡ 0
    at_limit d h (yes s) = subst (λ (d : ℕ). times (without limit ds) d ≡ 0) s (times-without_same limit ds)
    at_limit d h (no n) = omega (arith, times-without_le limit d ds, below d (omega arith))

mark_one : (x : ℕ) → mark x ≤ 1
mark_one zero = omega arith
mark_one (suc x) = omega arith

pub mark_some : (x : ℕ) → 1 ≤ x → mark x ≡ 1
mark_some zero h = absurd (omega arith)
mark_some (suc x) h = refl

pub mark_none : (x : ℕ) → mark x ≡ 0 → x ≡ 0
mark_none zero h = refl
mark_none (suc x) h = absurd (omega arith)

pub tracked_once : (counts touched : List ℕ) → IsTracked counts touched → (d : ℕ) → times touched d ≤ 1
tracked_once counts touched t d = omega (arith, t.once d, mark_one (at counts d))

-- a directory that is noted has a count
pub tracked_some : (counts touched : List ℕ) (j : ℕ) → IsTracked counts touched → j < length touched → 1 ≤ at counts (at touched j)
tracked_some counts touched j t h = step (at counts (at touched j)) refl
  where
    step : (x : ℕ) → at counts (at touched j) ≡ x → 1 ≤ at counts (at touched j)
    step zero e = absurd (omega (arith, times_at touched j h, t.once (at touched j), ap mark e))
    step (suc x) e = omega arith

-- no directory is noted twice
pub tracked_apart : (counts touched : List ℕ) (k j : ℕ) → IsTracked counts touched → k < j → j < length touched → at touched k ≢ at touched j
tracked_apart counts touched k j t less h e = absurd (omega (arith, times_twice touched k j less h e, tracked_once counts touched t (at touched j)))

pub tracked_inside : (counts touched : List ℕ) (j : ℕ) → IsTracked counts touched → j < length touched → at touched j < length counts
tracked_inside counts touched j t h = elim (leb_tells (length counts) (at touched j)) [
  | inl past ↦ absurd (omega (arith, tracked_some counts touched j t h, at_past counts (at touched j) past.1))
  | inr below ↦ below.1
]

-- a directory that isn't noted has no count
pub tracked_others : (counts touched : List ℕ) (d : ℕ) → IsTracked counts touched → ((j : ℕ) → j < length touched → at touched j ≢ d) → at counts d ≡ 0
tracked_others counts touched d t none = mark_none (at counts d) (sym (t.once d) ∙ times_none touched d none)

-- there is room for one more
pub tracked_room : (counts touched : List ℕ) (d : ℕ) → IsTracked counts touched → d < length counts → at counts d ≡ 0 → length touched < length counts
tracked_room counts touched d t inside none =
    let all : length (d ∷ touched) ≤ length counts = few (length counts) (d ∷ touched) (λ e. once e (ℕ_discrete d e)) (λ e h. past e h (ℕ_discrete d e)) in
    omega arith
  where
    once : (e : ℕ) → Dec (d ≡ e) → times (d ∷ touched) e ≤ 1
    once e (yes s) = subst (λ (e : ℕ). times (d ∷ touched) e ≤ 1) s (omega (arith, times_same d touched, t.once d, ap mark none))
    once e (no n) = omega (arith, times_other d e touched n, tracked_once counts touched t e)

    past : (e : ℕ) → length counts ≤ e → Dec (d ≡ e) → times (d ∷ touched) e ≡ 0
    past e h (yes s) = absurd (omega arith)
    past e h (no n) = times_other d e touched n ∙ t.once e ∙ ap mark (at_past counts e h)

pub tracked_zero : (counts : List ℕ) → IsZero counts → IsTracked counts []
tracked_zero counts none = record { once = λ d. ap mark (sym (none d)) }

-- a count changes that stays 0, or that was there and still is
pub tracked_raised : (counts touched : List ℕ) (d y : ℕ) → IsTracked counts touched → d < length counts → mark (at counts d) ≡ mark y
    → IsTracked (set counts d y) touched
tracked_raised counts touched d y t inside same = record { once = λ e. each e (ℕ_discrete e d) }
  where
    each : (e : ℕ) → Dec (e ≡ d) → times touched e ≡ mark (at (set counts d y) e)
    each e (yes s) = t.once e ∙ ap (λ (k : ℕ). mark (at counts k)) s ∙ same ∙ ap mark (sym (at_set_same counts d y inside))
        ∙ ap (λ (k : ℕ). mark (at (set counts d y) k)) (sym s)
    each e (no n) = t.once e ∙ ap mark (sym (at_set_other counts d y e n))

-- the first count of a directory
pub tracked_first : (counts touched : List ℕ) (d y : ℕ) → IsTracked counts touched → d < length counts → at counts d ≡ 0 → 1 ≤ y
    → IsTracked (set counts d y) (touched ++ d ∷ [])
tracked_first counts touched d y t inside was now = record { once = λ e. each e (ℕ_discrete d e) }
  where
    each : (e : ℕ) → Dec (d ≡ e) → times (touched ++ d ∷ []) e ≡ mark (at (set counts d y) e)
    each e (yes s) = subst (λ (e : ℕ). times (touched ++ d ∷ []) e ≡ mark (at (set counts d y) e)) s
        (omega (arith, times_push touched d d, times_same d [], t.once d, ap mark was, ap mark (at_set_same counts d y inside), mark_some y now))
    each e (no n) = omega (arith, times_push touched d e, times_other d e [] n, t.once e, ap mark (at_set_other counts d y e (λ q. n (sym q))))

-- where the noted entries are 0, and the others were, all are
pub settled : (new old touched : List ℕ) (d : ℕ) → IsTracked old touched → at new d ≤ at old d
    → ((k : ℕ) → k < length touched → at new (at touched k) ≡ 0) → Dec (at new d ≡ 0) → at new d ≡ 0
settled new old touched d t less zeros (yes e) = e
settled new old touched d t less zeros (no n) = let o = tracked_others old touched d t (λ j h e. n (ap (at new) (sym e) ∙ zeros j h)) in omega arith

-- nothing is noted where nothing has a count
pub zero_tracked : (counts touched : List ℕ) → IsTracked counts touched → IsZero counts → length touched ≡ 0
zero_tracked counts [] t none = refl
zero_tracked counts (d ∷ ds) t none = absurd (omega (arith, times_same d ds, t.once d, ap mark (none d)))
