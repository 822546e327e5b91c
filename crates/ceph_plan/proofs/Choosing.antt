-- Which hours are chosen: which may be, which comes next, and one more of them.
use Rattle.std.proofs.Common.{◌≡◌, ◌≢◌, ◌∙◌, ◌⊎◌, ◌↔◌, ◌+◌, ◌*◌, ◌<◌, ◌≤◌, ◌++◌, ◌∷◌, [], ℕ, Bool, true, false, List}
use Rattle.std.proofs.Common.{ap, arith, cond, get_or, inl, inr, length, length-append, nat_lt, refl, replicate, slice_index, subst, sym, take, ⊎_elim}
use Rattle.std.proofs.lemmas.Bool.{both_ways, cases_eq, cases_lt}
use Rattle.std.proofs.lemmas.List.{get_or-replicate, take-append-le, take_all}
use Rattle.std.proofs.lemmas.Nat.{mul-le}
use Rattle.std.proofs.Math.Nat.{mul_assoc, mul_comm}
use Rattle.mds_types.specs.declared.problem.ProblemRow.{ProblemRow}
use Rattle.mds_types.specs.Sums.{count_below}
use Rattle.mds_types.proofs.SumsLemmas.{sum_below-same}
use Rattle.residual_cut.proofs.LabelLemmas.{slice_index-last, slice_index-push}
use Rattle.ceph_plan.specs.declared.choice.Wanted.{Wanted}
use Rattle.ceph_plan.specs.declared.for_hours.HoursProposal.{HoursProposal}
use Rattle.ceph_plan.specs.declared.hours.Hour.{Hour}
use Rattle.ceph_plan.specs.declared.proposal.OwnPins.{OwnPins}
use Rattle.ceph_plan.specs.ChosenHours.{AreChosenHours, AreJudged, AreNext, AreMarked, AreThose, CanChoose, HasHour, IsLittle}
use Rattle.ceph_plan.specs.ChosenHours.{IsMoreUneven, IsNextToCome, IsNextHour, IsPlanFor, MayBeChosen, MayCome, judged, load_in_hour}
use Rattle.ceph_plan.specs.HourPlans.{IsHoursProposal}
use Rattle.ceph_plan.specs.Packing.{AreLoads, greatest_of, load_in, packed_rank}
use Rattle.ceph_plan.proofs.Bounds.{greatest-same}
use Rattle.ceph_plan.proofs.HourLists.{more-numbers}
use Rattle.ceph_plan.proofs.HourPlanned.{proposal-below, proposal-size}

-- of the hours before this one that may come, the best is the most uneven
pub record IsNextBefore (keep : ℕ) (kept : List Bool) (bounds loads chosen : List ℕ) (h best : ℕ) : Type 0 where
  pub inside : best ≤ length kept
  pub comes : best < length kept → MayCome keep kept bounds loads chosen best
  pub most : best < length kept → (g : ℕ) → g < h → MayCome keep kept bounds loads chosen g → ¬ IsMoreUneven bounds loads g best
  pub none : best ≡ length kept → (g : ℕ) → g < h → ¬ MayCome keep kept bounds loads chosen g

swap : (a b y : ℕ) → a * b * y ≡ a * y * b
swap a b y = mul_assoc a b y ∙ (ap (λ (n : ℕ). a * n) (mul_comm b y) ∙ sym (mul_assoc a y b))

-- where g isn't more uneven than the best, and h is, g isn't more so than h
passed : (lg bg best bound lh bh : ℕ) → ¬ (best * bg < lg * bound) → best * bh < lh * bound → ¬ (lh * bg < lg * bh)
passed lg bg best bound lh bh not more = λ less.
    let le : lg * bound ≤ best * bg = ⊎_elim (λ (no : best * bg < lg * bound). absurd (not no)) (λ (yes : lg * bound ≤ best * bg). yes)
    (cases_lt (best * bg) (lg * bound)) in
    let one : lg * bound * bh ≤ best * bg * bh = mul-le (lg * bound) bh (best * bg) bh le (omega arith) in
    let two : best * bh * bg ≤ lh * bound * bg = mul-le (best * bh) bg (lh * bound) bg (omega (arith, more)) (omega arith) in
    let all : lg * bh * bound ≤ lh * bg * bound = omega (arith, one, two, swap lg bound bh, swap best bg bh, swap lh bound bg) in
    ⊎_elim (λ (zero : bound ≡ 0). let none : ⊥ = omega (arith, more, ap (λ (n : ℕ). lh * n) zero) in none)
    (λ (some : bound ≢ 0).
    let next : lh * bg + 1 ≤ lg * bh = omega (arith, less) in
    let times : (lh * bg + 1) * bound ≤ lg * bh * bound = mul-le (lh * bg + 1) bound (lg * bh) bound next (omega arith) in
    let split : (lh * bg + 1) * bound ≡ lh * bg * bound + bound = grind arith in
    let none : ⊥ = omega (arith, times, split, all, some) in none)
    (cases_eq bound 0)

module _ (keep : ℕ) (kept : List Bool) (bounds loads chosen : List ℕ) (h best : ℕ) (inside : h < length kept)
    (old : IsNextBefore keep kept bounds loads chosen h best) where
  -- the next one is better
  pub next-new : MayCome keep kept bounds loads chosen h → (best ≡ length kept) ⊎ IsMoreUneven bounds loads h best
      → IsNextBefore keep kept bounds loads chosen (h + 1) h
  next-new comes better = record {
    inside = omega (arith, inside);
    comes = λ l. comes;
    most = λ l g lg may.
        ⊎_elim (λ (this : g ≡ h). subst (λ (n : ℕ). ¬ IsMoreUneven bounds loads n h) (sym this) (λ less. let none : ⊥ = omega (arith, less) in none))
        (λ (other : g ≢ h).
        let before : g < h = omega (arith, lg, other) in
        ⊎_elim (λ (first : best ≡ length kept). absurd (old.none first g before may))
        (λ (more : IsMoreUneven bounds loads h best).
        ⊎_elim (λ (first : best ≡ length kept). absurd (old.none first g before may))
        (λ (some : best ≢ length kept).
        passed (slice_index loads g) (slice_index bounds g) (slice_index loads best) (slice_index bounds best) (slice_index loads h) (slice_index bounds h)
        (old.most (omega (arith, old.inside, some)) g before may) more)
        (cases_eq best (length kept)))
        better)
        (cases_eq g h);
    none = λ all. absurd (let no : ⊥ = omega (arith, all, inside) in no);
  }

  -- the next one isn't
  pub next-old : (MayCome keep kept bounds loads chosen h → (best < length kept) × ¬ IsMoreUneven bounds loads h best)
      → IsNextBefore keep kept bounds loads chosen (h + 1) best
  next-old never = record {
    inside = old.inside;
    comes = old.comes;
    most = λ l g lg may.
        ⊎_elim (λ (this : g ≡ h).
        subst (λ (n : ℕ). ¬ IsMoreUneven bounds loads n best) (sym this) (never (subst (MayCome keep kept bounds loads chosen) this may)).1)
        (λ (other : g ≢ h). old.most l g (omega (arith, lg, other)) may) (cases_eq g h);
    none = λ all g lg may.
        ⊎_elim (λ (this : g ≡ h).
        let some = (never (subst (MayCome keep kept bounds loads chosen) this may)).0 in
        let no : ⊥ = omega (arith, all, some) in no)
        (λ (other : g ≢ h). old.none all g (omega (arith, lg, other)) may) (cases_eq g h);
  }

pub next-none : (keep : ℕ) (kept : List Bool) (bounds loads chosen : List ℕ) (n : ℕ) → n ≡ length kept → IsNextBefore keep kept bounds loads chosen 0 n
next-none keep kept bounds loads chosen n all = record {
  inside = omega (arith, all);
  comes = λ l. absurd (let none : ⊥ = omega (arith, all, l) in none);
  most = λ l g lg. absurd (let none : ⊥ = omega (arith, lg) in none);
  none = λ is g lg. absurd (let none : ⊥ = omega (arith, lg) in none);
}

pub not-before : (bounds loads : List ℕ) (h best n : ℕ) → best ≤ n → ¬ ((best ≡ n) ⊎ IsMoreUneven bounds loads h best)
    → (best < n) × ¬ IsMoreUneven bounds loads h best
not-before bounds loads h best n le never = (
  ⊎_elim (λ (same : best ≡ n). absurd (never (inl same))) (λ (other : best ≢ n). omega (arith, le, other)) (cases_eq best n),
  λ more. never (inr more),
)

pub next-all : (keep : ℕ) (kept : List Bool) (bounds loads chosen : List ℕ) (h best : ℕ) → h ≡ length kept → IsNextBefore keep kept bounds loads chosen h best
    → IsNextToCome keep kept bounds loads chosen best
next-all keep kept bounds loads chosen h best all is = record {
  inside = is.inside;
  comes = is.comes;
  most = λ l g lg. is.most l g (omega (arith, lg, all));
  none = λ none g lg. is.none none g (omega (arith, lg, all));
}

-- how many of k loads are more than ten times this one
abbrev count-of : ℕ → (ℕ → ℕ) → ℕ → ℕ
count-of k loads load = count_below k (λ g. nat_lt (load * 10) (loads g))

-- the same loads are as little
pub may-be-same : (n m : ℕ) (f g : ℕ → ℕ) (h : ℕ) → n ≡ m → ((i : ℕ) → i < m → f i ≡ g i) → h < m → MayBeChosen n f h → MayBeChosen m g h
may-be-same n m f g h size same inside is =
    ⊎_elim (λ (first : h ≡ 0). inl first)
    (λ (not : ¬ IsLittle n f (f h)). inr (λ (little : IsLittle m g (g h)).
    not (subst (λ (k : ℕ). IsLittle k f (f h)) (sym size)
    (let counts : count-of m f (f h) ≡ count-of m g (g h) =
    ap (count-of m f) (same h inside)
    ∙ sum_below-same m (λ i. cond (nat_lt (g h * 10) (f i)) 1 0) (λ i. cond (nat_lt (g h * 10) (g i)) 1 0)
    (λ i l. ap (λ (x : ℕ). cond (nat_lt (g h * 10) x) 1 0) (same i l)) in
    omega (arith, little, counts)))))
    is

-- hours that are chosen so far
pub record AreSoFar (ranks : ℕ) (hours : List Hour) (rows : List ProblemRow) (wanted : Wanted) (own : List OwnPins) (most : ℕ) (found : List ℕ) : Type 0 where
  pub some : 0 < length found
  pub first : slice_index found 0 ≡ 0
  pub few : length found ≤ most
  pub inside : (k : ℕ) → k < length found → slice_index found k < length hours
  pub once : (j k : ℕ) → j < k → k < length found → slice_index found j ≢ slice_index found k
  pub may_be : (k : ℕ) → k < length found → MayBeChosen (length hours) (load_in_hour ranks hours) (slice_index found k)
  pub next : AreNext ranks hours rows wanted own found

pub only-present : (ranks : ℕ) (hours : List Hour) (rows : List ProblemRow) (wanted : Wanted) (own : List OwnPins) (most : ℕ)
    (found : List ℕ) → found ≡ 0 ∷ [] → 0 < length hours → 0 < most
    → AreSoFar ranks hours rows wanted own most found
only-present ranks hours rows wanted own most found is some many = subst (AreSoFar ranks hours rows wanted own most) (sym is) (record {
  some = omega arith;
  first = refl;
  few = omega (arith, many);
  inside = λ k l. subst (λ (j : ℕ). slice_index (0 ∷ []) j < length hours) (let zero : 0 ≡ k = omega (arith, l) in zero) some;
  once = λ j k before l. absurd (let none : ⊥ = omega (arith, before, l) in none);
  may_be = λ k l. subst (λ (j : ℕ). MayBeChosen (length hours) (load_in_hour ranks hours) (slice_index (0 ∷ []) j))
      (let zero : 0 ≡ k = omega (arith, l) in zero) (inl refl);
  next = λ k deep l. absurd (let none : ⊥ = omega (arith, deep, l) in none);
})

-- one more
module _ (ranks : ℕ) (hours : List Hour) (rows : List ProblemRow) (wanted : Wanted) (own : List OwnPins) (most : ℕ) (found : List ℕ) (next : ℕ)
    (is : AreSoFar ranks hours rows wanted own most found) (of : IsNextHour ranks hours rows wanted own found next)
    (inside : next < length hours) (room : length found < most) where
  more : List ℕ
  more = found ++ next ∷ []

  comes : MayCome wanted.keep of.kept of.bounds of.loads found next
  comes = of.next_is.comes (omega (arith, inside, of.judged.size))

  pub so-far-more : AreSoFar ranks hours rows wanted own most (found ++ next ∷ [])
  so-far-more =
      let size : length (found ++ next ∷ []) ≡ length found + 1 = simp length-append refl in
      let last : slice_index (found ++ next ∷ []) (length found) ≡ next = slice_index-last found next in
      record {
        some = omega (arith, size);
        first = slice_index-push found next 0 is.some ∙ is.first;
        few = omega (arith, size, room);
        inside = λ k l. more-numbers (λ (j x : ℕ). x < length hours) found (found ++ next ∷ []) (length found) next refl refl inside
            is.inside k (omega (arith, l, size));
        once = λ j k before l.
            ⊎_elim (λ (end : k ≡ length found).
            let low : j < length found = omega (arith, before, end) in
            λ (same : slice_index (found ++ next ∷ []) j ≡ slice_index (found ++ next ∷ []) k).
            comes.new (j, low, sym (slice_index-push found next j low) ∙ (same ∙ (ap (slice_index (found ++ next ∷ [])) end ∙ last))))
            (λ (other : k ≢ length found).
            let lk : k < length found = omega (arith, l, other, size) in
            let lj : j < length found = omega (arith, lk, before) in
            λ (same : slice_index (found ++ next ∷ []) j ≡ slice_index (found ++ next ∷ []) k).
            is.once j k before lk (sym (slice_index-push found next j lj) ∙ (same ∙ slice_index-push found next k lk)))
            (cases_eq k (length found));
        may_be = λ k l.
            more-numbers (λ (j x : ℕ). MayBeChosen (length hours) (load_in_hour ranks hours) x) found (found ++ next ∷ []) (length found) next refl refl
            ((of.judged.kept_are next inside).0 comes.may_be) is.may_be k (omega (arith, l, size));
        next = λ k deep l.
            ⊎_elim (λ (end : k ≡ length found).
            let before : take k (found ++ next ∷ []) ≡ found =
            take-append-le k found (next ∷ []) (omega (arith, end)) ∙ take_all k found (omega (arith, end)) in
            subst (λ (xs : List ℕ). IsNextHour ranks hours rows wanted own xs (slice_index (found ++ next ∷ []) k)) (sym before)
            (subst (IsNextHour ranks hours rows wanted own found) (sym (ap (slice_index (found ++ next ∷ [])) end ∙ last)) of))
            (λ (other : k ≢ length found).
            let lk : k < length found = omega (arith, l, other, size) in
            let before : take k (found ++ next ∷ []) ≡ take k found = take-append-le k found (next ∷ []) (omega (arith, lk)) in
            subst (λ (xs : List ℕ). IsNextHour ranks hours rows wanted own xs (slice_index (found ++ next ∷ []) k)) (sym before)
            (subst (IsNextHour ranks hours rows wanted own (take k found)) (sym (slice_index-push found next k lk)) (is.next k deep lk)))
            (cases_eq k (length found));
      }

pub by-need : (ranks : ℕ) (hours : List Hour) (rows : List ProblemRow) (wanted : Wanted) (own : List OwnPins) (most : ℕ) (found : List ℕ)
    → AreSoFar ranks hours rows wanted own most found
    → (length found ≡ most) ⊎ IsNextHour ranks hours rows wanted own found (length hours) → AreChosenHours ranks hours rows wanted own most found
by-need ranks hours rows wanted own most found is ended = record {
  some = is.some;
  first = is.first;
  few = is.few;
  inside = is.inside;
  once = is.once;
  may_be = is.may_be;
  rule = inr (record { next = is.next; ended = ended });
}

-- all that may be chosen are
pub all-chosen : (ranks : ℕ) (hours : List Hour) (rows : List ProblemRow) (wanted : Wanted) (own : List OwnPins) (most : ℕ) (kept : List Bool) (found : List ℕ)
    → AreMarked kept found → length kept ≡ length hours → 0 < length hours
    → ((h : ℕ) → h < length hours → get_or kept h false ≡ true ↔ MayBeChosen (length hours) (load_in_hour ranks hours) h)
    → length found ≤ most → AreChosenHours ranks hours rows wanted own most found
all-chosen ranks hours rows wanted own most kept found are size some kept_are few =
    let present : HasHour found 0 = are.each 0 (omega (arith, size, some)) ((kept_are 0 some).1 (inl refl)) in
    record {
      some = omega (arith, present.1);
      first =
          ⊎_elim (λ (zero : present.0 ≡ 0). sym (ap (slice_index found) zero) ∙ present.2)
          (λ (deep : present.0 ≢ 0).
          absurd (let less : slice_index found 0 < slice_index found present.0 = are.rises 0 present.0 (omega (arith, deep)) present.1 in
          let none : ⊥ = omega (arith, less, present.2) in none))
          (cases_eq present.0 0);
      few = few;
      inside = λ k l. omega (arith, are.inside k l, size);
      once = λ j k before l same. let none : ⊥ = omega (arith, are.rises j k before l, same) in none;
      may_be = λ k l. (kept_are (slice_index found k) (omega (arith, are.inside k l, size))).0 (are.marks k l);
      rule = inl (λ h l may. are.each h (omega (arith, l, size)) ((kept_are h l).1 may));
    }

-- what is known of the hours, with a plan for some of them
pub plan-judged : (ranks : ℕ) (hours : List Hour) (rows : List ProblemRow) (own : List OwnPins) (bounds : List ℕ) (kept : List Bool)
    (plan : HoursProposal) (table greatest : List ℕ)
    → CanChoose ranks hours rows own bounds kept → length plan.proposal.plan.part.items ≡ length rows
    → AreLoads hours (length plan.proposal.plan.part.items) (packed_rank plan.proposal.plan.packing.rank.items plan.proposal.plan.part.items) table
    → ((h : ℕ) → h < length hours → slice_index greatest h ≡ greatest_of ranks (λ r. slice_index table (h * 64 + r)))
    → AreJudged ranks hours rows plan kept bounds greatest
plan-judged ranks hours rows own bounds kept plan table greatest can size loads are = record {
  size = can.kept_size;
  kept_are = can.kept_are;
  bounds_are = can.bounds_are;
  loads_are = λ h l.
      are h l
      ∙ (greatest-same ranks (λ r. slice_index table (h * 64 + r))
      (load_in hours (length plan.proposal.plan.part.items)
      (packed_rank plan.proposal.plan.packing.rank.items plan.proposal.plan.part.items) h) (λ r small. loads.are h r l small)
      ∙ ap (λ (n : ℕ). greatest_of ranks (load_in hours n (packed_rank plan.proposal.plan.packing.rank.items plan.proposal.plan.part.items) h)) size);
}

-- a plan for those chosen
pub plan-for : (ranks : ℕ) (hours : List Hour) (rows : List ProblemRow) (wanted : Wanted) (own : List OwnPins) (chosen weights : List ℕ)
    (those : List Hour) (plan : HoursProposal)
    → AreThose hours chosen those → weights ≡ replicate (length chosen) 100 → IsHoursProposal ranks those rows weights (judged wanted) own plan
    → IsPlanFor ranks hours rows wanted own chosen plan
plan-for ranks hours rows wanted own chosen weights those plan are full of = record {
  those = those;
  are = are;
  weights = weights;
  full = λ k l. ap (λ (xs : List ℕ). slice_index xs k) full ∙ get_or-replicate (length chosen) k 100 0 l;
  of = of;
}

pub plan-size : (ranks : ℕ) (rows : List ProblemRow) (wanted : Wanted) (own : List OwnPins) (weights : List ℕ) (those : List Hour) (plan : HoursProposal)
    → IsHoursProposal ranks those rows weights wanted own plan → length plan.proposal.plan.part.items ≡ length rows
plan-size ranks rows wanted own weights those plan of = proposal-size ranks those rows weights wanted own of.shares of.shares_are plan.proposal of.proposal

pub plan-below : (ranks : ℕ) (rows : List ProblemRow) (wanted : Wanted) (own : List OwnPins) (weights : List ℕ) (those : List Hour) (plan : HoursProposal)
    → IsHoursProposal ranks those rows weights wanted own plan
    → (i : ℕ) → i < length plan.proposal.plan.part.items → slice_index plan.proposal.plan.part.items i < length plan.proposal.plan.packing.rank.items
plan-below ranks rows wanted own weights those plan of = proposal-below ranks those rows weights wanted own of.shares of.shares_are plan.proposal of.proposal

-- which hours may be chosen is known by their loads
pub kept-known : (ranks : ℕ) (hours : List Hour) (loads : List ℕ) (kept : List Bool) → length loads ≡ length hours
    → ((h : ℕ) → h < length hours → slice_index loads h ≡ load_in_hour ranks hours h)
    → ((h : ℕ) → h < length loads → get_or kept h false ≡ true ↔ MayBeChosen (length loads) (slice_index loads) h)
    → (h : ℕ) → h < length hours → get_or kept h false ≡ true ↔ MayBeChosen (length hours) (load_in_hour ranks hours) h
kept-known ranks hours loads kept size are known h l =
    let inside : h < length loads = omega (arith, l, size) in (
      λ (is : get_or kept h false ≡ true). may-be-same (length loads) (length hours) (slice_index loads) (load_in_hour ranks hours) h size
          are l ((known h inside).0 is),
      λ (may : MayBeChosen (length hours) (load_in_hour ranks hours) h).
          (known h inside).1
          (may-be-same (length hours) (length loads) (load_in_hour ranks hours) (slice_index loads) h (sym size)
          (λ i li. sym (are i (omega (arith, li, size)))) inside may),
    )

-- the places of what is marked, of the first ones
pub record AreMarkedBefore (marked : List Bool) (h : ℕ) (found : List ℕ) : Type 0 where
  pub inside : (k : ℕ) → k < length found → slice_index found k < h
  pub rises : (j k : ℕ) → j < k → k < length found → slice_index found j < slice_index found k
  pub marks : (k : ℕ) → k < length found → get_or marked (slice_index found k) false ≡ true
  pub each : (g : ℕ) → g < h → get_or marked g false ≡ true → HasHour found g

pub marked-none : (marked : List Bool) (found : List ℕ) → found ≡ [] → AreMarkedBefore marked 0 found
marked-none marked found is =
    let none : length found ≡ 0 = ap length is in
    record {
      inside = λ k l. absurd (let no : ⊥ = omega (arith, none, l) in no);
      rises = λ j k before l. absurd (let no : ⊥ = omega (arith, none, l) in no);
      marks = λ k l. absurd (let no : ⊥ = omega (arith, none, l) in no);
      each = λ g l mark. absurd (let no : ⊥ = omega (arith, l) in no);
    }

pub marked-same : (marked : List Bool) (h : ℕ) (found more : List ℕ) → more ≡ found → get_or marked h false ≡ false
    → AreMarkedBefore marked h found → AreMarkedBefore marked (h + 1) more
marked-same marked h found more same not is = subst (AreMarkedBefore marked (h + 1)) (sym same) (record {
  inside = λ k l. omega (arith, is.inside k l);
  rises = is.rises;
  marks = is.marks;
  each = λ g l mark.
      ⊎_elim (λ (here : g ≡ h). absurd (both_ways (get_or marked h false) not (ap (λ (j : ℕ). get_or marked j false) (sym here) ∙ mark)))
      (λ (other : g ≢ h). is.each g (omega (arith, l, other)) mark) (cases_eq g h);
})

pub marked-more : (marked : List Bool) (h : ℕ) (found more : List ℕ) → more ≡ found ++ h ∷ [] → get_or marked h false ≡ true → AreMarkedBefore marked h found
    → AreMarkedBefore marked (h + 1) more
marked-more marked h found more more_is mark is = subst (AreMarkedBefore marked (h + 1)) (sym more_is) (
    let size : length (found ++ h ∷ []) ≡ length found + 1 = simp length-append refl in
    let last : slice_index (found ++ h ∷ []) (length found) ≡ h = slice_index-last found h in
    let old : (k : ℕ) → k < length found → slice_index (found ++ h ∷ []) k ≡ slice_index found k = λ k l. slice_index-push found h k l in
    record {
      inside = λ k l. more-numbers (λ (j x : ℕ). x < h + 1) found (found ++ h ∷ []) (length found) h refl refl (omega arith)
          (λ j lj. omega (arith, is.inside j lj)) k (omega (arith, l, size));
      rises = λ j k before l.
          ⊎_elim (λ (end : k ≡ length found).
          let low : j < length found = omega (arith, before, end) in
          omega (arith, old j low, is.inside j low, ap (slice_index (found ++ h ∷ [])) end, last))
          (λ (other : k ≢ length found).
          let lk : k < length found = omega (arith, l, other, size) in
          let lj : j < length found = omega (arith, lk, before) in
          omega (arith, old j lj, old k lk, is.rises j k before lk))
          (cases_eq k (length found));
      marks = λ k l. more-numbers (λ (j x : ℕ). get_or marked x false ≡ true) found (found ++ h ∷ []) (length found) h refl refl mark
          is.marks k (omega (arith, l, size));
      each = λ g l marked_g.
          ⊎_elim (λ (here : g ≡ h). (length found, omega (arith, size), last ∙ sym here))
          (λ (other : g ≢ h).
          let before : HasHour found g = is.each g (omega (arith, l, other)) marked_g in
          (before.0, omega (arith, before.1, size), old before.0 before.1 ∙ before.2))
          (cases_eq g h);
    })

pub marked-all : (marked : List Bool) (h : ℕ) (found : List ℕ) → h ≡ length marked → AreMarkedBefore marked h found → AreMarked marked found
marked-all marked h found all is = record {
  inside = λ k l. omega (arith, is.inside k l, all);
  rises = is.rises;
  marks = is.marks;
  each = λ g l. is.each g (omega (arith, l, all));
}
