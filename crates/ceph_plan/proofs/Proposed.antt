-- What a proposal is that is picked of several plans.
use Rattle.std.proofs.Common.{◌≡◌, ◌∙◌, ◌<◌, ◌≤◌, ◌↔◌, ℕ, Bool, IsTrue, List, [], ◌∷◌, ◌++◌}
use Rattle.std.proofs.Common.{Some, ap, arith, inl, inr, length, refl, slice_index, subst, sym, ⊎_elim}
use Rattle.std.specs.List.{slice_get}
use Rattle.std.proofs.lemmas.Option.{none-some, slice_get_within}
use Rattle.mds_types.specs.declared.problem.ProblemRow.{ProblemRow}
use Rattle.mds_types.specs.Problem.{now_at}
use Rattle.mds_types.specs.RankSet.{has_rank}
use Rattle.ceph_plan.specs.declared.hours.Hour.{Hour}
use Rattle.ceph_plan.specs.declared.candidate.Candidate.{Candidate}
use Rattle.ceph_plan.specs.declared.choice.Wanted.{Wanted}
use Rattle.ceph_plan.specs.declared.plan.Planned.{Planned}
use Rattle.ceph_plan.specs.declared.plan_error.PlanError.{PlanError}
use Rattle.ceph_plan.specs.declared.proposal.OwnPins.{OwnPins}
use Rattle.ceph_plan.specs.declared.proposal.Proposal.{Proposal}
use Rattle.ceph_plan.specs.declared.row.PinRow.{PinRow}
use Rattle.ceph_plan.specs.Asked.{ArePinRows}
use Rattle.ceph_plan.specs.Candidates.{AreBegun, AreCandidates, ColdStays, IsCandidate, IsCandidateRefusal, IsPicked, IsPresent}
use Rattle.ceph_plan.specs.Changes.{AreChangesFor}
use Rattle.ceph_plan.specs.Choice.{IsLimitedChoice}
use Rattle.ceph_plan.specs.Packing.{HaveParts}
use Rattle.ceph_plan.specs.Placements.{AreAsWanted, IsPlacement, IsPlacementAt}
use Rattle.ceph_plan.specs.Plans.{IsPlan}
use Rattle.ceph_plan.specs.Proposals.{IsProposal, KeepsWithin}
use Rattle.ceph_plan.specs.Refusals.{IsPlanRefusal, IsPlannable, IsProposalRefusal}
use Rattle.ceph_plan.proofs.Weighed.{get_either, get_kept}

pub plan-placed : (ranks : ℕ) (hours : List Hour) (rows : List ProblemRow) (plan : Planned) → IsPlan ranks hours rows plan → IsPlacement ranks hours rows plan
plan-placed ranks hours rows plan is = record { forest = is.forest; size = is.size; division = is.division; packing = is.packing; moved = is.moved }

-- each row of a placement is in a part that has a rank
pub placed-parts : (ranks : ℕ) (hours : List Hour) (rows : List ProblemRow) (plan : Planned) → IsPlacement ranks hours rows plan
    → HaveParts rows plan.part.items (length plan.packing.rank.items)
placed-parts ranks hours rows plan is = record {
  forest = is.forest;
  size = is.size;
  below = λ i inside. omega (arith, is.packing.size, is.division.below i inside);
}

-- where rows keep the ranks that they have, and go to these ranks, they stay
pub present-at : (ranks : ℕ) (rows : List ProblemRow) (now goals : List ℕ) (plan : Planned) → ((i : ℕ) → i < length rows → slice_index now i ≡ now_at rows i)
    → AreAsWanted ranks now (length rows) goals → IsPlacementAt rows goals plan → IsPresent ranks rows plan
present-at ranks rows now goals plan now_is kept at = λ i deep inside has.
    at i inside ∙ (kept i deep inside (ap (has_rank ranks) (now_is i inside) ∙ has) ∙ now_is i inside)

module _ (ranks : ℕ) (hours : List Hour) (rows : List ProblemRow) (own : List OwnPins) (rests : Bool) where
  -- the first
  pub begun-first : (candidates : List Candidate) (one : Candidate) → candidates ≡ [] ++ one ∷ []
      → IsCandidate ranks hours rows own rests one → IsPresent ranks rows one.plan
      → AreBegun ranks hours rows own rests candidates
  begun-first candidates one is of present = subst (AreBegun ranks hours rows own rests) (sym is) (record {
    each = λ v other there. subst (IsCandidate ranks hours rows own rests) (first v other there) of;
    present = (one, refl, present);
    cold = λ v other later there. absurd (omega (arith, later, slice_get_within ([] ++ one ∷ []) v other there));
  })
    where
      first : (v : ℕ) (other : Candidate) → slice_get ([] ++ one ∷ []) v ≡ Some other → one ≡ other
      first v other there = ⊎_elim (λ (old : slice_get [] v ≡ Some other). absurd (none-some other old)) (λ (new : one ≡ other). new)
          (get_either [] one other v there)

  -- and one more
  pub begun-more : (candidates more : List Candidate) (one : Candidate) → more ≡ candidates ++ one ∷ [] → IsCandidate ranks hours rows own rests one
      → ColdStays ranks rows one.plan.part.items one.plan.packing.rank.items (length rows) → AreBegun ranks hours rows own rests candidates
      → AreBegun ranks hours rows own rests more
  begun-more candidates more one is of cold before = subst (AreBegun ranks hours rows own rests) (sym is) (record {
    each = λ v other there.
        ⊎_elim (λ (old : slice_get candidates v ≡ Some other). before.each v other old)
        (λ (new : one ≡ other). subst (IsCandidate ranks hours rows own rests) new of)
        (get_either candidates one other v there);
    present = (before.present.0, get_kept candidates one before.present.0 0 before.present.1, before.present.2);
    cold = λ v other later there.
        ⊎_elim (λ (old : slice_get candidates v ≡ Some other). before.cold v other later old)
        (λ (new : one ≡ other). subst (λ (c : Candidate). ColdStays ranks rows c.plan.part.items c.plan.packing.rank.items (length rows)) new cold)
        (get_either candidates one other v there);
  })

  pub candidates-are : (divided : Planned) (candidates more : List Candidate) (one : Candidate) → more ≡ candidates ++ one ∷ []
      → IsCandidate ranks hours rows own rests one
      → one.plan ≡ divided → AreBegun ranks hours rows own rests candidates → AreCandidates ranks hours rows own rests divided more
  candidates-are divided candidates more one is of plan before = record { first = candidates; begun = before; last = one; of = of; anew = plan; are = is }

  -- each is one
  pub candidate-at : (divided : Planned) (candidates : List Candidate) (v : ℕ) (one : Candidate) → AreCandidates ranks hours rows own rests divided candidates
      → slice_get candidates v ≡ Some one → IsCandidate ranks hours rows own rests one
  candidate-at divided candidates v one all there =
      ⊎_elim (λ (old : slice_get all.first v ≡ Some one). all.begun.each v one old)
      (λ (new : all.last ≡ one). subst (IsCandidate ranks hours rows own rests) new all.of)
      (get_either all.first all.last one v (sym (ap (λ (xs : List Candidate). slice_get xs v) all.are) ∙ there))

  -- the present placement is the first
  pub present-first : (divided : Planned) (candidates : List Candidate) (all : AreCandidates ranks hours rows own rests divided candidates)
      → slice_get candidates 0 ≡ Some all.begun.present.0
  present-first divided candidates all = ap (λ (xs : List Candidate). slice_get xs 0) all.are
      ∙ get_kept all.first all.last all.begun.present.0 0 all.begun.present.1

-- there is one
pub some-candidate : (ranks : ℕ) (hours : List Hour) (rows : List ProblemRow) (own : List OwnPins) (rests : Bool) (divided : Planned)
    (candidates : List Candidate)
    → AreCandidates ranks hours rows own rests divided candidates → 0 < length candidates
some-candidate ranks hours rows own rests divided [] all = absurd (none-some all.begun.present.0 (present-first ranks hours rows own rests divided [] all))
some-candidate ranks hours rows own rests divided (one ∷ candidates) all = omega arith

pub refused-proposal : (ranks : ℕ) (hours : List Hour) (rows : List ProblemRow) (wanted : Wanted) (own : List OwnPins) (error : PlanError)
    → IsPlannable ranks hours rows
    → IsCandidateRefusal own error → IsProposalRefusal ranks hours rows wanted own error
refused-proposal ranks hours rows wanted own error able is =
    elim is [ inl memory ↦ inr (subst (IsPlanRefusal ranks hours rows wanted) (sym memory) able) | inr root ↦ inl root ]

-- what is taken keeps within what is wanted where it moves few enough inodes, and leaves what is to be left
pub keeps-within : (ranks : ℕ) (hours : List Hour) (rows : List ProblemRow) (own : List OwnPins) (wanted : Wanted) (taken : Candidate) (is : Bool)
    → IsTrue is ↔ ((taken.plan.moved ≤ wanted.most_inodes) × IsTrue taken.keeps_left) → IsCandidate ranks hours rows own wanted.rests taken
    → IsTrue is ↔ KeepsWithin rows wanted own taken.plan
keeps-within ranks hours rows own wanted taken is known of = (
  λ yes. let both = known.0 yes in record { inodes = both.0; left = of.left.0 both.1 },
  λ (within : KeepsWithin rows wanted own taken.plan). known.1 (within.inodes, of.left.1 within.left),
)

pub proposed : (ranks : ℕ) (hours : List Hour) (rows : List ProblemRow) (wanted : Wanted) (own : List OwnPins) (limit k : ℕ)
    (divided : Planned) (candidates : List Candidate)
    (taken : Candidate) (found : Proposal) → IsLimitedChoice ranks hours rows wanted limit divided
    → AreCandidates ranks hours rows own wanted.rests divided candidates
    → slice_get candidates k ≡ Some taken → IsPicked limit wanted candidates k → found.plan ≡ taken.plan → found.rows.items ≡ taken.rows.items
    → AreChangesFor taken.rows.items found.changes.items
    → IsTrue found.is_within ↔ ((taken.plan.moved ≤ wanted.most_inodes) × IsTrue taken.keeps_left) → IsProposal ranks hours rows wanted own found
proposed ranks hours rows wanted own limit k divided candidates taken found choice are there picked plan asked changes within =
    let of : IsCandidate ranks hours rows own wanted.rests taken = candidate-at ranks hours rows own wanted.rests divided candidates k taken are there in
    record {
      divided = divided;
      chosen = choice.choice;
      limit = limit;
      limit_is = choice.limit_is;
      candidates = candidates;
      are = are;
      k = k;
      taken = taken;
      there = there;
      picked = picked;
      plan = plan;
      placed = subst (IsPlacement ranks hours rows) (sym plan) of.placed;
      targets = subst (λ (p : Planned). ArePinRows rows p.part.items p.packing.rank.items own (length rows) wanted.rests found.rows.items) (sym plan)
          (subst (λ (xs : List PinRow). ArePinRows rows taken.plan.part.items taken.plan.packing.rank.items own (length rows) wanted.rests
          xs) (sym asked) of.asked);
      changes = subst (λ (xs : List PinRow). AreChangesFor xs found.changes.items) (sym asked) changes;
      within = subst (λ (p : Planned). IsTrue found.is_within ↔ KeepsWithin rows wanted own p) (sym plan)
          (keeps-within ranks hours rows own wanted taken found.is_within within of);
    }
