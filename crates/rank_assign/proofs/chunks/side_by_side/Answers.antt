use Rattle.std.proofs.Common.{◌≡◌, ◌+◌, ◌-◌, ◌∙◌, ap, ℕ, IfOk, length, arith}
use Rattle.std.specs.List.{range_with_len}
use Rattle.rayon.proofs.ListFacts.{IfOk-then}
use Rattle.rayon.specs.Numbers.{nat_range}
use Rattle.rank_assign.specs.Chunks.{edge, AreSummed}
use Rattle.rank_assign.proofs.ChunkLemmas.{zipped_at, zipped_size}
use Rattle.rank_assign.proofs.chunks.side_by_side.Goals as goal

pub returns-clause-size : goal.returns-clause-size
returns-clause-size g c =
    let ends = c.into_par_iter.ensures in
    let whole : c.args.batch.chunks - 0 ≡ c.args.batch.chunks = omega arith in
    IfOk-then c.collect.result _ _ c.collect.ensures (λ v h.
    let chain = rw (c.map.ensures.base, c.map.ensures.f, c.with_min_len.ensures.base) at h.1 in
    let places = chain.1 ∙ (λ i. nat_range (ends.0 i) (ends.1 i)) ∙ ap (range_with_len 0) whole in
    ap length h.2 ∙ zipped_size _ 0 c.args.batch.chunks h.0 (rw places at chain.2))

pub returns-clause-sums : goal.returns-clause-sums
returns-clause-sums g c =
    let ends = c.into_par_iter.ensures in
    let whole : c.args.batch.chunks - 0 ≡ c.args.batch.chunks = omega arith in
    let n : ℕ = length c.args.of.rows.now in
    IfOk-then c.collect.result _ _ c.collect.ensures (λ v h.
    let chain = rw (c.map.ensures.base, c.map.ensures.f, c.with_min_len.ensures.base) at h.1 in
    let places = chain.1 ∙ (λ i. nat_range (ends.0 i) (ends.1 i)) ∙ ap (range_with_len 0) whole in
    λ k d l.
    rw h.2
    (zipped_at
    (λ i r.
    IfOk r (λ sums.
    AreSummed c.args.of.rows.now c.args.of.part.now c.args.of.count (edge n c.args.batch.first c.args.batch.chunk i)
    (edge n c.args.batch.first c.args.batch.chunk (i + 1)) sums.items))
    0 c.args.batch.chunks h.0 (rw places at chain.2) k k d l (omega arith)))
