-- Where the present placement is best, its ranks' rows are a certified division that can stay where it is.
use Rattle.std.proofs.Common.{◌≡◌, ◌∙◌, ◌<◌, ◌≤◌, ℕ, ℤ, pos, ◌+ℤ◌, ◌≤ℤ◌, All, Bool, true, false, cond, eqb, List}
use Rattle.std.proofs.Common.{[], ◌∷◌, ◌++◌, ◌+◌, ◌⊎◌, inl, inr, ⊎_elim, length, slice_index, refl, sym, ap, subst, arith}
use Rattle.std.proofs.lemmas.Int.{ints}
use Rattle.std.proofs.lemmas.Bool.{cases_order, eq-eqb, eqb-true}
use Rattle.std.proofs.lemmas.List.{get_or_append_left, get_or_push, length-append}
use Rattle.std.proofs.lemmas.List.Elements.{All-from_get_or}
use Rattle.mds_types.specs.declared.problem.ProblemRow.{ProblemRow}
use Rattle.mds_types.specs.declared.cut_proof.CutProof.{CutProof}
use Rattle.mds_types.specs.declared.dual_proof.DualProof.{DualProof}
use Rattle.mds_types.specs.Certificate.{AreRanks, IsCertified, IsCutProof, part_price_at, rank_price_at}
use Rattle.mds_types.specs.Connected.{IsChain}
use Rattle.mds_types.specs.Division.{IsDivision, IsEdge, IsLeast, InPart, part_heat, greatest_heat}
use Rattle.mds_types.specs.Placing.{cost, moved, moved_at}
use Rattle.mds_types.specs.Problem.{ProblemData, heat_at, now_at}
use Rattle.mds_types.specs.RankSet.{has_rank, rank_count}
use Rattle.mds_types.proofs.CertificateLemmas.{AreRanks-le, IsDivision-more, greatest_heat-more}
use Rattle.mds_types.proofs.PlacingLemmas.{has_rank-lt}
use Rattle.mds_types.proofs.SumsLemmas.{max_below-le, max_below-term, sum_below-same, sum_below-zero}
use Rattle.plan_checker.specs.Present.{IsPresentBest}
use Rattle.planner.specs.Present.{AreRanksNow, IsBestDivision, IsDistinct, IsPartOf}

-- a chain of members of one set is one of members of another that has them
chain_in :
    (rows : List ProblemRow) (Member Other : ℕ → Type 0) → ((x : ℕ) → Member x → Other x)
    → (from : ℕ) (chain : List ℕ) (to : ℕ) → IsChain (IsEdge rows) Member from chain to → IsChain (IsEdge rows) Other from chain to
chain_in rows Member Other has from [] to linked = linked
chain_in rows Member Other has from (next ∷ chain) to linked =
    (linked.0, has next linked.1, chain_in rows Member Other has next chain to linked.2)

-- the ranks that have rows are different ranks of the set
pub ranks_now :
    (problem : ProblemData) (part rank : List ℕ) → AreRanksNow problem.rows (length problem.rows) part rank
    → IsPresentBest problem → AreRanks problem.ranks (length rank) (slice_index rank)
ranks_now problem part rank are best = record {
  usable = λ p l.
      (let (i, li, is) = are.used p l in
      ap (has_rank problem.ranks) (ap (slice_index rank) (sym is) ∙ are.now i li) ∙ best.usable i li);
  distinct = are.distinct;
}

-- what a list of ranks keeps when a rank gets its part
record Grown (old new : List ℕ) (now p : ℕ) : Type 0 where
  inside : p < length new
  here : slice_index new p ≡ now
  kept : (q : ℕ) → q < length old → (q < length new) × (slice_index new q ≡ slice_index old q)
  known : (q : ℕ) → q < length new → (q < length old) ⊎ (q ≡ p)
  alone : (q : ℕ) → q < length old → slice_index old q ≡ now → q ≡ p

ends : (i n : ℕ) → i < n + 1 → (i < n) ⊎ (i ≡ n)
ends i n l =
    ⊎_elim (λ (same : i ≡ n). inr same)
    (⊎_elim (λ (before : i < n). inl before) (λ (after : n < i). absurd (omega (arith, l, after))))
    (cases_order i n)

grown : (old new : List ℕ) (now p : ℕ) → IsDistinct old → IsPartOf old new now p → Grown old new now p
grown old new now p distinct (inl (same, l, is)) = rw same record {
  inside = l;
  here = is;
  kept = λ q lq. (lq, refl);
  known = λ q lq. inl lq;
  alone = λ q lq there. distinct q p lq l (there ∙ sym is);
}
grown old new now p distinct (inr (more, is, none)) =
    let size : length (old ++ now ∷ []) ≡ length old + 1 = length-append old (now ∷ []) in
    rw more record {
      inside = omega (arith, size, is);
      here = get_or_push old now 0 p (sym is);
      kept = λ q lq. (omega (arith, size, lq), get_or_append_left old (now ∷ []) 0 q lq);
      known = λ q lq.
          ⊎_elim (λ (before : q < length old). inl before) (λ (same : q ≡ length old). inr (same ∙ sym is))
          (ends q (length old) (omega (arith, lq, size)));
      alone = λ q lq there. absurd (none q lq there);
    }

-- the list gets one rank at most
pub fewer : (old new : List ℕ) (now p : ℕ) → IsPartOf old new now p → length new ≤ length old + 1
fewer old new now p (inl (same, inside, is)) = rw same (omega arith)
fewer old new now p (inr (same, is, none)) = rw same (omega (arith, length-append old (now ∷ [])))

-- one more row
pub added :
    (rows : List ProblemRow) (n : ℕ) (part old new : List ℕ) (p : ℕ) → AreRanksNow rows n part old
    → IsPartOf old new (now_at rows n) p → AreRanksNow rows (n + 1) (part ++ p ∷ []) new
added rows n part old new p are is =
    let g = grown old new (now_at rows n) p are.distinct is in
    let size : length (part ++ p ∷ []) ≡ length part + 1 = length-append part (p ∷ []) in
    let last : slice_index (part ++ p ∷ []) n ≡ p = get_or_push part p 0 n are.size in
    let before : (i : ℕ) → i < n → slice_index (part ++ p ∷ []) i ≡ slice_index part i =
    λ i l. get_or_append_left part (p ∷ []) 0 i (omega (arith, l, are.size)) in
    let row : (P : ℕ → ℕ → Type 0) → ((i : ℕ) → i < n → P i (slice_index part i)) → P n p → (i : ℕ) → i < n + 1
    → P i (slice_index (part ++ p ∷ []) i) = λ P each there i l.
    ⊎_elim (λ (lower : i < n). subst (P i) (sym (before i lower)) (each i lower))
    (λ (same : i ≡ n). subst (λ k. P k (slice_index (part ++ p ∷ []) k)) (sym same) (subst (P n) (sym last) there))
    (ends i n l) in
    record {
      size = omega (arith, size, are.size);
      below = row (λ i q. q < length new) (λ i l. (g.kept (slice_index part i) (are.below i l)).0) g.inside;
      now = row (λ i q. slice_index new q ≡ now_at rows i)
          (λ i l. (g.kept (slice_index part i) (are.below i l)).1 ∙ are.now i l) g.here;
      used = λ q lq.
          ⊎_elim (λ (old_one : q < length old).
          let (i, li, at) = are.used q old_one in (i, omega (arith, li), before i li ∙ at))
          (λ (same : q ≡ p). (n, omega arith, last ∙ sym same))
          (g.known q lq);
      distinct = λ q r lq lr same.
          ⊎_elim (λ (q_old : q < length old).
          ⊎_elim (λ (r_old : r < length old).
          are.distinct q r q_old r_old (sym (g.kept q q_old).1 ∙ (same ∙ (g.kept r r_old).1)))
          (λ (r_is : r ≡ p).
          g.alone q q_old (sym (g.kept q q_old).1 ∙ (same ∙ (ap (slice_index new) r_is ∙ g.here))) ∙ sym r_is)
          (g.known r lr))
          (λ (q_is : q ≡ p).
          ⊎_elim (λ (r_old : r < length old).
          q_is ∙ sym (g.alone r r_old (sym (g.kept r r_old).1 ∙ (sym same ∙ (ap (slice_index new) q_is ∙ g.here)))))
          (λ (r_is : r ≡ p). q_is ∙ sym r_is)
          (g.known r lr))
          (g.known q lq);
    }

-- no row, no rank
pub none_now : (rows : List ProblemRow) → AreRanksNow rows 0 [] []
none_now rows = record {
  size = refl;
  below = λ i l. absurd (omega (arith, l));
  now = λ i l. absurd (omega (arith, l));
  used = λ p l. absurd (omega (arith, l));
  distinct = λ p q lp lq same. absurd (omega (arith, lp));
}

same_tests : (b c : Bool) → (b ≡ true → c ≡ true) → (c ≡ true → b ≡ true) → b ≡ c
same_tests true c to from = sym (to refl)
same_tests false true to from = from refl
same_tests false false to from = refl

-- a row is in a part just where it is at the part's rank
same_rows :
    (rows : List ProblemRow) (part rank : List ℕ) → AreRanksNow rows (length rows) part rank → (p i : ℕ) → p < length rank
    → i < length rows → eqb (slice_index part i) p ≡ eqb (now_at rows i) (slice_index rank p)
same_rows rows part rank are p i lp li =
    same_tests (eqb (slice_index part i) p) (eqb (now_at rows i) (slice_index rank p))
    (λ yes. eq-eqb (now_at rows i) (slice_index rank p)
    (sym (are.now i li) ∙ ap (slice_index rank) (eqb-true (slice_index part i) p yes)))
    (λ yes. eq-eqb (slice_index part i) p
    (are.distinct (slice_index part i) p (are.below i li) lp
    (are.now i li ∙ eqb-true (now_at rows i) (slice_index rank p) yes)))

-- so a part has the heat that its rank has now
same_heat :
    (rows : List ProblemRow) (part rank : List ℕ) → AreRanksNow rows (length rows) part rank → (p : ℕ) → p < length rank
    → part_heat rows (slice_index part) p ≡ part_heat rows (now_at rows) (slice_index rank p)
same_heat rows part rank are p lp =
    sum_below-same (length rows) (λ i. cond (eqb (slice_index part i) p) (heat_at rows i) 0)
    (λ i. cond (eqb (now_at rows i) (slice_index rank p)) (heat_at rows i) 0)
    (λ i li. ap (λ b. cond b (heat_at rows i) 0) (same_rows rows part rank are p i lp li))

-- the rows that ranks have now are a division into connected parts
divided :
    (problem : ProblemData) (part rank : List ℕ) → AreRanksNow problem.rows (length problem.rows) part rank
    → IsPresentBest problem → IsDivision problem.rows (length rank) (slice_index part)
divided problem part rank are best = record {
  below = are.below;
  connected = λ p i j in_i in_j.
      (let lp : p < length rank = (let below = are.below i in_i.0 in omega (arith, in_i.1)) in
      let to : (x : ℕ) → InPart problem.rows (slice_index part) p x → InPart problem.rows (now_at problem.rows) (slice_index rank p) x =
      λ x inside. (inside.0, sym (are.now x inside.0) ∙ ap (slice_index rank) inside.1) in
      let back : (x : ℕ) → InPart problem.rows (now_at problem.rows) (slice_index rank p) x → InPart problem.rows (slice_index part) p x =
      λ x inside.
      (inside.0, are.distinct (slice_index part x) p (are.below x inside.0) lp (are.now x inside.0 ∙ inside.1)) in
      let (chain, linked) = best.connected (slice_index rank p) i j (to i in_i) (to j in_j) in (
        chain,
        chain_in problem.rows (InPart problem.rows (now_at problem.rows) (slice_index rank p))
            (InPart problem.rows (slice_index part) p) back i chain j linked,
      ));
}

-- and no hotter than the ranks
no_hotter :
    (problem : ProblemData) (part rank : List ℕ) → AreRanksNow problem.rows (length problem.rows) part rank
    → AreRanks problem.ranks (length rank) (slice_index rank)
    → greatest_heat problem.rows (length rank) (slice_index part) ≤ greatest_heat problem.rows 64 (now_at problem.rows)
no_hotter problem part rank are ranks =
    max_below-le (length rank) (greatest_heat problem.rows 64 (now_at problem.rows)) (part_heat problem.rows (slice_index part))
    (λ p lp.
    let at : ℕ → ℕ = part_heat problem.rows (now_at problem.rows) in
    let most : at (slice_index rank p) ≤ greatest_heat problem.rows 64 (now_at problem.rows) =
    max_below-term 64 (slice_index rank p) at (has_rank-lt problem.ranks (slice_index rank p) (ranks.usable p lp)) in
    rw (same_heat problem.rows part rank are p lp) most)

-- the present placement is a best division
pub present_divides :
    (problem : ProblemData) (greatest : ℕ) (part rank : List ℕ) → IsLeast problem.rows (rank_count problem.ranks) greatest
    → AreRanksNow problem.rows (length problem.rows) part rank → IsPresentBest problem
    → IsBestDivision problem part (length rank) greatest
present_divides problem greatest part rank least are best =
    let k = length rank in
    let all = rank_count problem.ranks in
    let ranks = ranks_now problem part rank are best in
    let few = AreRanks-le problem.ranks k (slice_index rank) ranks in
    let division = divided problem part rank are best in
    let wide = IsDivision-more problem.rows k all (slice_index part) few division in
    let (label, other, reached) = least.reached in
    record {
      few = few;
      size = are.size;
      parts = record { division = division; used = λ p l. (let (i, li, is) = are.used p l in (i, (li, is))) };
      greatest_is = omega (
        arith,
        no_hotter problem part rank are ranks,
        best.coolest label other,
        reached,
        least.lowest (slice_index part) wide,
        greatest_heat-more problem.rows k all (slice_index part) few division,
      );
    }

-- and all its ranks are in the set
pub ranks_usable :
    (problem : ProblemData) (part rank : List ℕ) → AreRanksNow problem.rows (length problem.rows) part rank
    → IsPresentBest problem → All (λ r. has_rank problem.ranks r ≡ true) rank
ranks_usable problem part rank are best =
    All-from_get_or (λ r. has_rank problem.ranks r ≡ true) rank 0 (ranks_now problem part rank are best).usable

-- the present placement's parts have their rows where they are
pub moves_none :
    (rows : List ProblemRow) (part rank : List ℕ) → AreRanksNow rows (length rows) part rank
    → moved rows (slice_index part) (slice_index rank) ≡ 0
moves_none rows part rank are =
    sum_below-zero (length rows) (λ i. moved_at rows i (slice_index rank (slice_index part i)))
    (λ i li. rw (eq-eqb (now_at rows i) (slice_index rank (slice_index part i)) (sym (are.now i li))) refl)

costs_none_at :
    (rows : List ProblemRow) (part rank : List ℕ) → AreRanksNow rows (length rows) part rank → (p i : ℕ)
    → i < length rows → (here : Bool) → eqb (slice_index part i) p ≡ here
    → cond here (moved_at rows i (slice_index rank p)) 0 ≡ 0
costs_none_at rows part rank are p i li true is =
    rw (eq-eqb (now_at rows i) (slice_index rank p)
    (sym (are.now i li) ∙ ap (slice_index rank) (eqb-true (slice_index part i) p is))) refl
costs_none_at rows part rank are p i li false is = refl

-- so a part costs nothing at its rank
costs_none :
    (rows : List ProblemRow) (part rank : List ℕ) → AreRanksNow rows (length rows) part rank → (p : ℕ)
    → cost rows (slice_index part) p (slice_index rank p) ≡ 0
costs_none rows part rank are p =
    sum_below-zero (length rows) (λ i. cond (eqb (slice_index part i) p) (moved_at rows i (slice_index rank p)) 0)
    (λ i li. costs_none_at rows part rank are p i li (eqb (slice_index part i) p) refl)

no_price : (x y : ℤ) (cost : ℕ) → x ≡ pos 0 → y ≡ pos 0 → (x +ℤ y) ≤ℤ pos cost
no_price x y cost x_is y_is = rw (x_is, y_is) (grind (arith, ints))

same_price : (x y : ℤ) (cost : ℕ) → x ≡ pos 0 → y ≡ pos 0 → cost ≡ 0 → (x +ℤ y) ≡ pos cost
same_price x y cost x_is y_is cost_is = rw (x_is, y_is, cost_is) refl

-- with prices of 0 they are a certified plan that moves nothing
pub still_certified :
    (problem : ProblemData) (greatest : ℕ) (proof : CutProof) (part rank : List ℕ) (dual : DualProof)
    → AreRanksNow problem.rows (length problem.rows) part rank → IsBestDivision problem part (length rank) greatest
    → AreRanks problem.ranks (length rank) (slice_index rank)
    → IsCutProof problem.rows (rank_count problem.ranks) greatest proof
    → length dual.part_price ≡ length rank → length dual.rank_price ≡ rank_count problem.ranks
    → ((p : ℕ) → part_price_at dual p ≡ pos 0) → ((r : ℕ) → rank_price_at dual problem.ranks r ≡ pos 0)
    → IsCertified problem (record {
      part = part;
      rank = rank;
      greatest = greatest;
      moved = 0;
      cut = proof;
      dual = dual;
    })
still_certified problem greatest proof part rank dual are division ranks proven parts_are ranks_are no_part no_rank = record {
  size = division.size;
  parts = division.parts;
  ranks = ranks;
  greatest = division.greatest_is;
  moved_is = moves_none problem.rows part rank are;
  cut = proven;
  dual = record {
    part_prices = parts_are;
    rank_prices = ranks_are;
    below = λ p r lp has.
        no_price (part_price_at dual p) (rank_price_at dual problem.ranks r) (cost problem.rows (slice_index part) p r) (no_part p) (no_rank r);
    not_above = λ r has. rw (no_rank r) (grind (arith, ints));
    unused = λ r has free. no_rank r;
    chosen = λ p lp.
        same_price (part_price_at dual p) (rank_price_at dual problem.ranks (slice_index rank p))
        (cost problem.rows (slice_index part) p (slice_index rank p)) (no_part p) (no_rank (slice_index rank p))
        (costs_none problem.rows part rank are p);
  };
}
