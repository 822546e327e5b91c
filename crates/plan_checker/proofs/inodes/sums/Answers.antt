use Rattle.std.proofs.Common.{◌≡◌, ◌*◌, ℕ, slice_index, length, arith, rules, replicate}
use Rattle.std.proofs.lemmas.List.{get_or-replicate, length-replicate}
use Rattle.plan_checker.proofs.BetweenLemmas.{no_sums, no_rows}
use Rattle.plan_checker.proofs.inodes.sums.Goals as goal

pub loop-i-init : goal.loop-i-init
loop-i-init c =
    let cells : ℕ = c.args.count * 64 in
    let zeros : c.in_ok-sums.sums.items ≡ replicate cells 0 = c.in_ok-sums.ensures.items_if_clones_equal (λ y e. e) in
    let size : length (replicate cells 0) ≡ c.args.count * 64 = length-replicate cells 0 in
    let none = no_sums c.args.rows.now (slice_index c.args.part.now) c.args.count c.args.from (replicate cells 0) size
    (λ j d l. get_or-replicate cells j 0 d (omega (arith, l, size))) in
    rw zeros (record {
      from = omega arith;
      size = search rules;
      sums = none.cells;
      small = none.small;
      rows = no_rows c.args.rows.now c.args.from;
    })
