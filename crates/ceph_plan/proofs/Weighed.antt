-- What is weighed, with one more number of parts.
use Rattle.std.proofs.Common.{◌≡◌, ◌∙◌, ◌<◌, ◌≤◌, ◌+◌, ◌⊎◌, ◌||◌, ℕ, zero, suc, Bool, true, false, List}
use Rattle.std.proofs.Common.{[], ◌∷◌, ◌++◌, length, Option, Some, inl, inr, ⊎_elim, ap, sym, subst, refl, arith}
use Rattle.std.proofs.Math.Nat.{le_refl, le_trans}
use Rattle.std.proofs.lemmas.Bool.{both_ways, cases_lt}
use Rattle.std.proofs.lemmas.Option.{none-some, slice_get_within}
use Rattle.std.specs.List.{slice_get}
use Rattle.std.specs.Option.{option_map_or}
use Rattle.mds_types.specs.declared.problem.ProblemRow.{ProblemRow}
use Rattle.mds_types.specs.RankSet.{rank_count}
use Rattle.ceph_plan.specs.declared.hours.Hour.{Hour}
use Rattle.ceph_plan.specs.declared.plan.PackedDivision.{PackedDivision}
use Rattle.ceph_plan.specs.declared.plan.Size.{Size}
use Rattle.ceph_plan.specs.Choice.{AreWeighed, HasDivision, HasHeavyDivision, IsTriedCount, IsWeighed, fair_share, gap, size_of, total_of_rows}
use Rattle.ceph_plan.specs.Plans.{IsDivided, no_cap}

pub get_kept : {X : Type 0} (xs : List X) (x y : X) (k : ℕ) → slice_get xs k ≡ Some y → slice_get (xs ++ x ∷ []) k ≡ Some y
get_kept [] x y k is = absurd (none-some y is)
get_kept (a ∷ xs) x y zero is = is
get_kept (a ∷ xs) x y (suc k) is = get_kept xs x y k is

pub get_last : {X : Type 0} (xs : List X) (x : X) → slice_get (xs ++ x ∷ []) (length xs) ≡ Some x
get_last [] x = refl
get_last (a ∷ xs) x = get_last xs x

pub get_either : {X : Type 0} (xs : List X) (x y : X) (k : ℕ) → slice_get (xs ++ x ∷ []) k ≡ Some y → (slice_get xs k ≡ Some y) ⊎ (x ≡ y)
get_either {X = X} [] x y zero is = inr (ap (λ (o : Option X). option_map_or (λ (z : X). z) o x) is)
get_either [] x y (suc k) is = absurd (none-some y is)
get_either (a ∷ xs) x y zero is = inl is
get_either (a ∷ xs) x y (suc k) is = get_either xs x y k is

-- what is there stays there
plan_kept : (ranks : ℕ) (hours : List Hour) (rows : List ProblemRow) (plans : List PackedDivision) (more : PackedDivision) (parts cap : ℕ)
    → HasDivision ranks hours rows plans parts cap → HasDivision ranks hours rows (plans ++ more ∷ []) parts cap
plan_kept ranks hours rows plans more parts cap has =
    record { k = has.k; divided = has.divided; there = get_kept plans more has.divided has.k has.there; of = has.of }

heavy_kept : (ranks : ℕ) (hours : List Hour) (rows : List ProblemRow) (plans : List PackedDivision) (more : PackedDivision) (parts next : ℕ) → parts ≤ next
    → HasHeavyDivision ranks hours rows plans parts → HasHeavyDivision ranks hours rows (plans ++ more ∷ []) next
heavy_kept ranks hours rows plans more parts next le has = record {
  fewer = has.fewer;
  less = le_trans has.less le;
  k = has.k;
  divided = has.divided;
  there = get_kept plans more has.divided has.k has.there;
  of = has.of;
  heavy = has.heavy;
}

weighed_kept : (ranks : ℕ) (hours : List Hour) (rows : List ProblemRow) (plans : List PackedDivision) (more : PackedDivision) (parts : ℕ)
    → IsWeighed ranks hours rows plans parts → IsWeighed ranks hours rows (plans ++ more ∷ []) parts
weighed_kept ranks hours rows plans more parts is = record {
  tried = is.tried;
  low = is.low;
  near = is.near;
  of = elim is.of [
    | inl has ↦ inl (plan_kept ranks hours rows plans more is.tried no_cap has)
    | inr has ↦ inr (
      heavy_kept ranks hours rows plans more is.tried is.tried (le_refl is.tried) has.0,
      plan_kept ranks hours rows plans more is.tried (fair_share (total_of_rows rows) is.tried) has.1,
    )
  ];
}

-- one more plan, of this number of parts
pub weighed_more : (ranks : ℕ) (hours : List Hour) (rows : List ProblemRow) (plans : List PackedDivision) (n next cap : ℕ)
    (more : PackedDivision) → AreWeighed ranks hours rows plans n
    → (n < next) × (next ≤ n + gap n + 1) → IsDivided ranks hours rows n cap more → IsTriedCount ranks hours rows (plans ++ more ∷ []) n
    → AreWeighed ranks hours rows (plans ++ more ∷ []) next
weighed_more ranks hours rows plans n next cap more before step is of = record {
  all = λ k plan there.
      ⊎_elim (λ (old : slice_get plans k ≡ Some plan). before.all k plan old)
      (λ (new : more ≡ plan). (n, cap, subst (IsDivided ranks hours rows n cap) new is))
      (get_either plans more plan k there);
  each = λ parts low high.
      ⊎_elim (λ (old : parts < n). weighed_kept ranks hours rows plans more parts (before.each parts low old))
      (λ (new : n ≤ parts). record { tried = n; low = new; near = below-next parts n (gap n) next high step; of = of })
      (cases_lt parts n);
}
  where
    below-next : (parts n over next : ℕ) → parts < next → (n < next) × (next ≤ n + over + 1) → parts ≤ n + over
    below-next parts n over next high step = omega (arith, high, step.1)

has_last : (ranks : ℕ) (hours : List Hour) (rows : List ProblemRow) (plans : List PackedDivision) (more : PackedDivision) (n cap : ℕ)
    → IsDivided ranks hours rows n cap more
    → HasDivision ranks hours rows (plans ++ more ∷ []) n cap
has_last ranks hours rows plans more n cap of = record { k = length plans; divided = more; there = get_last plans more; of = of }

-- the number of parts of the plan that is added is tried
pub tried_now : (ranks : ℕ) (hours : List Hour) (rows : List ProblemRow) (plans : List PackedDivision) (heavy : Bool) (n heat : ℕ)
    (size : Size) (more : PackedDivision)
    → heat ≡ total_of_rows rows → size ≡ size_of heat n heavy → IsDivided ranks hours rows size.parts size.cap more
    → (heavy ≡ true → HasHeavyDivision ranks hours rows plans n) → IsTriedCount ranks hours rows (plans ++ more ∷ []) n
tried_now ranks hours rows plans false n heat size more heat_is sized of flag =
    inl (has_last ranks hours rows plans more n no_cap (subst (λ (s : Size). IsDivided ranks hours rows s.parts s.cap more) sized of))
tried_now ranks hours rows plans true n heat size more heat_is sized of flag =
    let capped : IsDivided ranks hours rows n (fair_share (total_of_rows rows) n) more =
    subst (λ (h : ℕ). IsDivided ranks hours rows n (fair_share h n) more) heat_is
    (subst (λ (s : Size). IsDivided ranks hours rows s.parts s.cap more) sized of) in
    inr (heavy_kept ranks hours rows plans more n n (le_refl n) (flag refl), has_last ranks hours rows plans more n (fair_share (total_of_rows rows) n) capped)

-- what was weighed so far, and that a plan was heavy where the flag is set
pub record IsSoFar (ranks : ℕ) (hours : List Hour) (rows : List ProblemRow) (plans : List PackedDivision) (heavy : Bool) (n : ℕ) : Type 0 where
  pub weighed : AreWeighed ranks hours rows plans n
  pub flag : heavy ≡ true → HasHeavyDivision ranks hours rows plans n

-- a plan of the size that is to be weighed is added
pub more-so_far : (ranks : ℕ) (hours : List Hour) (rows : List ProblemRow) (plans : List PackedDivision) (heavy now : Bool)
    (n next heat : ℕ) (size : Size) (more : PackedDivision)
    → heat ≡ total_of_rows rows → size ≡ size_of heat n heavy → IsDivided ranks hours rows size.parts size.cap more → (n < next) × (next ≤ n + gap n + 1)
    → now ≡ (heavy || more.is_heavy) → IsSoFar ranks hours rows plans heavy n → IsSoFar ranks hours rows (plans ++ more ∷ []) now next
more-so_far ranks hours rows plans false now n next heat size more heat_is sized of step now_is before =
    let plain : IsDivided ranks hours rows n no_cap more = subst (λ (s : Size). IsDivided ranks hours rows s.parts s.cap more) sized of in
    record {
      weighed = weighed_more ranks hours rows plans n next no_cap more before.weighed step plain
          (tried_now ranks hours rows plans false n heat size more heat_is sized of before.flag);
      flag = λ set. record { fewer = n; less = step.0; k = length plans; divided = more; there = get_last plans more; of = plain; heavy = sym now_is ∙ set };
    }
more-so_far ranks hours rows plans true now n next heat size more heat_is sized of step now_is before =
    let heavy : HasHeavyDivision ranks hours rows plans n = before.flag refl in
    let capped : IsDivided ranks hours rows n (fair_share (total_of_rows rows) n) more =
    subst (λ (h : ℕ). IsDivided ranks hours rows n (fair_share h n) more) heat_is
    (subst (λ (s : Size). IsDivided ranks hours rows s.parts s.cap more) sized of) in
    record {
      weighed = weighed_more ranks hours rows plans n next (fair_share (total_of_rows rows) n) more before.weighed step capped
          (tried_now ranks hours rows plans true n heat size more heat_is sized of before.flag);
      flag = λ set. heavy_kept ranks hours rows plans more n next (later n next step.0) heavy;
    }
  where
    later : (n next : ℕ) → n < next → n ≤ next
    later n next less = omega (arith, less)

-- what is weighed below a number is so below a smaller one
pub weighed_fewer : (ranks : ℕ) (hours : List Hour) (rows : List ProblemRow) (plans : List PackedDivision) (n m : ℕ) → m ≤ n
    → AreWeighed ranks hours rows plans n
    → AreWeighed ranks hours rows plans m
weighed_fewer ranks hours rows plans n m le are = record { all = are.all; each = λ parts low high. are.each parts low (le_trans high le) }

-- some plan was weighed
pub some_weighed : (ranks : ℕ) (hours : List Hour) (rows : List ProblemRow) (plans : List PackedDivision) (n : ℕ) → rank_count ranks < n
    → AreWeighed ranks hours rows plans n → 0 < length plans
some_weighed ranks hours rows plans n more weighed = elim (weighed.each (rank_count ranks) (le_refl (rank_count ranks)) more).of [
  | inl has ↦ positive has.k (length plans) (slice_get_within plans has.k has.divided has.there)
  | inr has ↦ positive has.1.k (length plans) (slice_get_within plans has.1.k has.1.divided has.1.there)
]
  where
    positive : (k n : ℕ) → k < n → 0 < n
    positive k n inside = omega arith

-- none is weighed before the first
none_weighed : (ranks : ℕ) (hours : List Hour) (rows : List ProblemRow) → AreWeighed ranks hours rows [] (rank_count ranks)
none_weighed ranks hours rows = record {
  all = λ k plan there. absurd (none-some plan there);
  each = λ parts low high. let none : ⊥ = omega (arith, low, high) in absurd none;
}

pub none-so_far : (ranks : ℕ) (hours : List Hour) (rows : List ProblemRow) → IsSoFar ranks hours rows [] false (rank_count ranks)
none-so_far ranks hours rows = record { weighed = none_weighed ranks hours rows; flag = λ set. absurd (both_ways false refl set) }

pub later-count : (first n next : ℕ) → first ≤ n → n < next → first ≤ next
later-count first n next from less = omega (arith, from, less)

-- once the last number is passed, it is the one that was tried: none below it leads past it
pub at-last : (n last next : ℕ) → n ≤ last → (n < last → next ≤ last) → last < next → n ≡ last
at-last n last next within until past =
    ⊎_elim (λ (less : n < last). let none : ⊥ = omega (arith, until less, past) in absurd none)
    (λ (high : last ≤ n). omega (arith, within, high)) (cases_lt n last)
