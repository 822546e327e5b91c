use Rattle.std.proofs.Common.{arith, ◌≡◌, ◌+◌, ◌-◌, subst, ℕ}
use Rattle.mds_types.specs.Division.{IsLowerBound}
use Rattle.minmax_search.proofs.BoundLemmas.{lower_from_more, width_fits}
use Rattle.minmax_search.proofs.narrow.narrow_once.Goals as goal

pub returns-in-Fits-clause-width : goal.returns-in-Fits-clause-width
returns-in-Fits-clause-width c =
    let fits = rw c.in-Fits.is at c.in_ok-hottest.ensures.fits in
    width_fits (c.args.gap.high - c.args.gap.low) c.args.passes.now (c.in-Fits.hottest - c.args.gap.low) c.requires.passes
    c.requires.width (omega (arith, fits.1, c.next_bound-bound.ensures.below))
    (λ long. omega (arith, fits.1, c.next_bound-bound.ensures.half long))

pub returns-in-TooMany-clause-gap : goal.returns-in-TooMany-clause-gap
returns-in-TooMany-clause-gap c =
    let more = rw c.in-TooMany.is at c.in_ok-hottest.ensures.too_many in
    let same : c.in-TooMany.above - 1 + 1 ≡ c.in-TooMany.above = omega (arith, more.0) in
    let P : ℕ → Type 0 = λ bound. IsLowerBound c.args.of.rows.now c.args.of.ranks bound in
    record {
      lower = subst P same (lower_from_more c.args.of.rows.now c.args.of.ranks (c.in-TooMany.above - 1) more.1);
      few = c.requires.gap.few;
    }

pub returns-in-TooMany-clause-width : goal.returns-in-TooMany-clause-width
returns-in-TooMany-clause-width c =
    let more = rw c.in-TooMany.is at c.in_ok-hottest.ensures.too_many in
    width_fits (c.args.gap.high - c.args.gap.low) c.args.passes.now (c.args.gap.high - c.in-TooMany.above) c.requires.passes
    c.requires.width (omega (arith, more.0, c.next_bound-bound.ensures.from))
    (λ long. omega (arith, more.0, c.next_bound-bound.ensures.half long))
