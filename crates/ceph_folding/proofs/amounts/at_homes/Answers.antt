use Rattle.std.proofs.Common.{◌≡◌, ◌<◌, ◌≤◌, ◌+◌, ◌∙◌, ◌^◌, ℕ, List, ap, arith, length, length-set, slice_index, subst, sym, ⊎_elim}
use Rattle.std.proofs.lemmas.Bool.{cases_lt}
use Rattle.std.proofs.lemmas.List.{get_or_read}
use Rattle.ceph_snapshot.specs.Holding.{most_heat}
use Rattle.ceph_folding.proofs.Folds.{brought-more}
use Rattle.ceph_folding.proofs.PastCounts.{past_count}
use Rattle.ceph_folding.proofs.amounts.at_homes.Goals as goal

pub loop-at-preserved : goal.loop-at-preserved
loop-at-preserved c =
    let amounts : List ℕ = c.args.amounts.now in
    let sums : List ℕ = c.loop-at.sums.items in
    let at : ℕ = c.loop-at.at in
    let home : ℕ = slice_index c.args.homes.now at in
    let inside : at < length amounts = c.loop-at-test.true in
    let there : home < length amounts = c.requires.inside at inside in
    let had : c.index.result.now ≡ slice_index sums home =
    get_or_read sums home c.index.result.now (subst (λ (n : ℕ). home < n) (sym c.loop-at.invariant.size) there) c.index.ensures 0 in
    record {
      size = length-set sums home c.in-Some.sum ∙ c.loop-at.invariant.size;
      sums = brought-more (slice_index amounts) (slice_index c.args.homes.now) sums (length amounts) at c.in-Some.sum c.loop-at.invariant.size there
          (c.in-Some.ensures.1 ∙ ap (λ (k : ℕ). k + slice_index amounts at) had)
          c.loop-at.invariant.sums;
    }

pub returns-in_default-clause-many : goal.returns-in_default-clause-many
returns-in_default-clause-many c =
    let amounts : List ℕ = c.args.amounts.now in
    let sums : List ℕ = c.loop-at.sums.items in
    let at : ℕ = c.loop-at.at in
    let home : ℕ = slice_index c.args.homes.now at in
    let inside : at < length amounts = c.loop-at-test.true in
    let there : home < length amounts = c.requires.inside at inside in
    let had : c.index.result.now ≡ slice_index sums home =
    get_or_read sums home c.index.result.now (subst (λ (n : ℕ). home < n) (sym c.loop-at.invariant.size) there) c.index.ensures 0 in
    let much : most_heat < c.index.result.now + slice_index amounts at =
    ⊎_elim (λ (fits : c.index.result.now + slice_index amounts at < 2 ^ 64). absurd (c.in_default.ensures fits))
    (λ (past : 2 ^ 64 ≤ c.index.result.now + slice_index amounts at). omega (arith, past))
    (cases_lt (c.index.result.now + slice_index amounts at) (2 ^ 64)) in
    past_count (slice_index amounts) (slice_index c.args.homes.now) (length amounts) at (slice_index sums home) inside there
    (c.loop-at.invariant.sums home there) (omega (arith, much, had))
