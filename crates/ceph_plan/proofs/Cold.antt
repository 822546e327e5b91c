-- Which parts heat leaves, with one more row.
use Rattle.std.proofs.Common.{◌≡◌, ◌≢◌, ◌∙◌, ◌<◌, ◌+◌, ℕ, Bool, false, true, List, ap, arith, get_or, set, slice_index, sym, ⊎_elim}
use Rattle.std.proofs.lemmas.Bool.{cases_eq}
use Rattle.std.proofs.lemmas.List.{get_or-set_other}
use Rattle.mds_types.specs.declared.problem.ProblemRow.{ProblemRow}
use Rattle.mds_types.specs.Problem.{heat_at}
use Rattle.ceph_plan.specs.Candidates.{HasLeaving, Leaves}

-- where a part is warm, heat of the first n rows leaves it
abbrev pub AreWarm : List ProblemRow → List ℕ → List ℕ → ℕ → List Bool → Type 0
AreWarm rows part rank n warm = (p : ℕ) → get_or warm p false ≡ true → HasLeaving rows part rank n p

leaving-more : (rows : List ProblemRow) (part rank : List ℕ) (i p : ℕ) → HasLeaving rows part rank i p → HasLeaving rows part rank (i + 1) p
leaving-more rows part rank i p has = (has.0, omega (arith, has.1), has.2, has.3, has.4)

pub warm-same : (rows : List ProblemRow) (part rank : List ℕ) (warm more : List Bool) (i : ℕ) → more ≡ warm → AreWarm rows part rank i warm
    → AreWarm rows part rank (i + 1) more
warm-same rows part rank warm more i same old = λ p is. leaving-more rows part rank i p (old p (ap (λ (xs : List Bool). get_or xs p false) (sym same) ∙ is))

pub warm-new : (rows : List ProblemRow) (part rank : List ℕ) (warm more : List Bool) (i : ℕ) → more ≡ set warm (slice_index part i) true
    → Leaves rows part rank i → 0 < heat_at rows i
    → AreWarm rows part rank i warm → AreWarm rows part rank (i + 1) more
warm-new rows part rank warm more i set_is leaves hot old = λ p is.
    ⊎_elim (λ (here : p ≡ slice_index part i). (i, omega arith, leaves, hot, sym here))
    (λ (other : p ≢ slice_index part i).
    leaving-more rows part rank i p
    (old p (sym (get_or-set_other warm (slice_index part i) p true false other)
    ∙ (ap (λ (xs : List Bool). get_or xs p false) (sym set_is) ∙ is))))
    (cases_eq p (slice_index part i))
