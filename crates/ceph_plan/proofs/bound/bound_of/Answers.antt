use Rattle.std.proofs.Common.{◌≡◌, ◌+◌, ◌/◌, ◌%◌, ◌∙◌, min, ℕ, slice_index, arith, refl}
use Rattle.mds_types.specs.RankSet.{rank_count}
use Rattle.ceph_plan.specs.Packing.{total_of}
use Rattle.ceph_plan.proofs.Bounds.{as_great, count-positive, lower}
use Rattle.ceph_plan.proofs.bound.bound_of.Goals as goal

pub div_ceil-mean-requires : goal.div_ceil-mean-requires
div_ceil-mean-requires c = omega (arith, count-positive c.args.ranks c.requires.ranks.zero)

pub overflow_add-single : goal.overflow_add-single
overflow_add-single c =
    let least = c.least.ensures.least 0 c.requires.ranks.zero in
    let pinned = c.requires.ranks.held.small 0 0 (omega (arith, c.requires.ranks.held.size)) in
    omega (arith, least, pinned, c.requires.hottest)

pub returns-clause-lower : goal.returns-clause-lower
returns-clause-lower c = λ n heat all_is hottest_is to usable.
    let all : ℕ = c.args.all + total_of c.args.ranks (slice_index c.args.pinned.now) in
    let mean : c.div_ceil-mean.result ≡ all / rank_count c.args.ranks + min 1 (all % rank_count c.args.ranks) =
    c.div_ceil-mean.ensures ∙ (rw (c.total.ensures.total, c.from-count.ensures, c.len.ensures.count) refl) in
    let low = lower c.args.ranks c.args.pinned.now n heat c.args.all c.args.hottest c.div_ceil-mean.result c.least.result
    c.requires.ranks.zero all_is hottest_is mean
    c.least.ensures.least to usable in
    omega (arith, low, c.max.ensures, c.max-2.ensures, c.most.ensures)

pub returns-clause-three : goal.returns-clause-three
returns-clause-three c = λ n heat all_is hottest_is.
    let all : ℕ = c.args.all + total_of c.args.ranks (slice_index c.args.pinned.now) in
    let mean : c.div_ceil-mean.result ≡ all / rank_count c.args.ranks + min 1 (all % rank_count c.args.ranks) =
    c.div_ceil-mean.ensures ∙ (rw (c.total.ensures.total, c.from-count.ensures, c.len.ensures.count) refl) in
    as_great c.args.ranks c.args.pinned.now n heat c.args.all c.args.hottest c.div_ceil-mean.result c.least.result c.max-2.result
    c.requires.ranks.zero all_is hottest_is mean
    c.least.ensures.one (omega (arith, c.max.ensures, c.max-2.ensures, c.most.ensures))
