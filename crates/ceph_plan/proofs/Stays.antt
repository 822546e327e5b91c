-- Where the present placement is cool enough, it is the plan.
use Rattle.std.proofs.Common.{◌≡◌, ◌∙◌, ◌<◌, ◌≤◌, ◌==◌, ℕ, zero, suc, List, Option, Some, ap, arith, cond, length, refl, subst, sym, ⊎_elim}
use Rattle.std.specs.List.{slice_get}
use Rattle.std.specs.Option.{option_map_or}
use Rattle.std.proofs.lemmas.Bool.{cases_lt, eq-eqb}
use Rattle.mds_types.specs.declared.problem.ProblemRow.{ProblemRow}
use Rattle.mds_types.specs.Problem as problem
use Rattle.mds_types.specs.Sums.{sum_below}
use Rattle.mds_types.proofs.SumsLemmas.{sum_below-zero}
use Rattle.ceph_plan.specs.declared.hours.Hour.{Hour}
use Rattle.ceph_plan.specs.declared.candidate.Candidate.{Candidate}
use Rattle.ceph_plan.specs.declared.choice.Wanted.{Wanted}
use Rattle.ceph_plan.specs.declared.proposal.OwnPins.{OwnPins}
use Rattle.ceph_plan.specs.declared.proposal.Proposal.{Proposal}
use Rattle.ceph_plan.specs.Candidates.{CanStay, IsAllowed, IsCandidate, Stays, greatest_at, heats_at, moves_at}
use Rattle.ceph_plan.specs.Packing.{greatest_load, load, packed_rank}
use Rattle.ceph_plan.specs.Proposals.{IsProposal}
use Rattle.ceph_plan.proofs.Bounds.{greatest-same}
use Rattle.ceph_plan.proofs.Proposed.{present-first}
use Rattle.ceph_plan.proofs.Regions.{load-to}

same-candidate : (one other : Candidate) → Some one ≡ Some other → one ≡ other
same-candidate one other is = ap (λ (o : Option Candidate). option_map_or (λ (c : Candidate). c) o one) is

-- what stays moves nothing
nothing-moves : (rows : List ProblemRow) (f to now : ℕ → ℕ) (n : ℕ) → ((i : ℕ) → i < n → to i ≡ now i) → sum_below n (λ i. cond (to i == now i) 0 (f i)) ≡ 0
nothing-moves rows f to now n same = sum_below-zero n (λ i. cond (to i == now i) 0 (f i)) (λ i l. rw (eq-eqb (to i) (now i) (same i l)) refl)

pub stays : (ranks : ℕ) (hours : List Hour) (rows : List ProblemRow) (wanted : Wanted) (own : List OwnPins) (found : Proposal)
    (is : IsProposal ranks hours rows wanted own found)
    → CanStay ranks rows → IsAllowed wanted is.candidates 0 → greatest_load ranks hours (length rows) (problem.now_at rows) ≤ is.limit → Stays rows found.plan
stays ranks hours rows wanted own found is can few cool =
    let one : Candidate = is.are.begun.present.0 in
    let there : slice_get is.candidates 0 ≡ Some one = present-first ranks hours rows own wanted.rests is.divided is.candidates is.are in
    let of : IsCandidate ranks hours rows own wanted.rests one = is.are.begun.each 0 one is.are.begun.present.1 in
    let to : ℕ → ℕ = packed_rank one.plan.packing.rank.items one.plan.part.items in
    let at : (i : ℕ) → i < length rows → to i ≡ problem.now_at rows i = λ i l. at-now i l in
    let moved : one.plan.moved ≡ 0 = of.placed.moved ∙ nothing-moves rows (problem.inodes_at rows) to (problem.now_at rows) (length rows) at in
    let heat : one.heat ≡ 0 = of.heat ∙ nothing-moves rows (problem.heat_at rows) to (problem.now_at rows) (length rows) at in
    let moved_is : moves_at is.candidates 0 ≡ 0 = ap (λ (o : Option Candidate). option_map_or (λ (c : Candidate). c.plan.moved) o 0) there ∙ moved in
    let heat_is : heats_at is.candidates 0 ≡ 0 = ap (λ (o : Option Candidate). option_map_or (λ (c : Candidate). c.heat) o 0) there ∙ heat in
    let greatest : greatest_at is.candidates 0 ≡ greatest_load ranks hours (length rows) (problem.now_at rows) =
    ap (λ (o : Option Candidate). option_map_or (λ (c : Candidate). c.plan.packing.greatest) o 0) there
    ∙ (of.placed.packing.greatest
    ∙ greatest-same ranks (load hours (length rows) to) (load hours (length rows) (problem.now_at rows))
    (λ r l. load-to hours (length rows) r to (problem.now_at rows) at)) in
    let first : is.k ≡ 0 =
    ⊎_elim
    (λ (later : 0 < is.k).
    ⊎_elim (λ (fewer : moves_at is.candidates is.k < moves_at is.candidates 0). absurd (omega (arith, fewer, moved_is)))
    (λ (like : (moves_at is.candidates is.k ≡ moves_at is.candidates 0) × (heats_at is.candidates is.k < heats_at is.candidates 0)). absurd
    (omega (arith, like.1, heat_is)))
    (is.picked.first 0 later (omega (arith, greatest, cool)) few))
    (λ (none : is.k ≤ 0). omega (arith, none))
    (cases_lt 0 is.k) in
    let taken : one ≡ is.taken = same-candidate one is.taken (sym there ∙ (ap (slice_get is.candidates) (sym first) ∙ is.there)) in
    let plan : one.plan ≡ found.plan = ap (λ (c : Candidate). c.plan) taken ∙ sym is.plan in
    subst (Stays rows) plan (record { moved = moved; at = at })
  where
    at-now : (i : ℕ) → i < length rows → packed_rank is.are.begun.present.0.plan.packing.rank.items is.are.begun.present.0.plan.part.items i
        ≡ problem.now_at rows i
    at-now zero l = (is.are.begun.each 0 is.are.begun.present.0 is.are.begun.present.1).placed.packing.root ∙ sym can.root
    at-now (suc i) l = is.are.begun.present.2 (suc i) (omega arith) l (can.usable (suc i) l)
