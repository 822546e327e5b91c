use Rattle.std.proofs.Common.{◌≤◌, length, arith, ap, ◌-◌}
use Rattle.std.proofs.lemmas.List.{get_or_default}
use Rattle.std.proofs.lemmas.List.Sorted.{All-permutation, IsPermutation-trans}
use Rattle.residual_cut.specs.declared.child.Child.{Child}
use Rattle.residual_cut.proofs.HottestLemmas.{turned_hot, turned_cool, turned_among}
use Rattle.residual_cut.proofs.hottest.put_hottest_first.Goals as goal

pub returns-clause-hottest : goal.returns-clause-hottest
returns-clause-hottest c =
    let first = length c.sort_unstable.new.self - c.args.most in
    turned_hot c.sort_unstable.new.self c.rotate_left.new.self c.args.most first _
    (omega (arith, c.requires.enough, c.sort_unstable.ensures.len)) c.rotate_left.ensures.after
    (λ d. ap (λ (y : Child). y.rest)
    (get_or_default c.sort_unstable.new.self first d _
    (omega (arith, c.requires.enough, c.requires.some, c.sort_unstable.ensures.len))))
    c.requires.some c.sort_unstable.ensures.sorted

pub returns-clause-others : goal.returns-clause-others
returns-clause-others c =
    let first = length c.sort_unstable.new.self - c.args.most in
    turned_cool c.sort_unstable.new.self c.rotate_left.new.self c.args.most first _
    (omega (arith, c.requires.enough, c.sort_unstable.ensures.len)) c.rotate_left.ensures.after
    (λ d. ap (λ (y : Child). y.rest)
    (get_or_default c.sort_unstable.new.self first d _
    (omega (arith, c.requires.enough, c.requires.some, c.sort_unstable.ensures.len))))
    c.requires.some c.sort_unstable.ensures.sorted

pub returns-clause-among : goal.returns-clause-among
returns-clause-among c =
    λ rest all.
    (let first = length c.sort_unstable.new.self - c.args.most in
    turned_among c.sort_unstable.new.self c.rotate_left.new.self c.args.most first _
    (omega (arith, c.requires.enough, c.sort_unstable.ensures.len)) c.rotate_left.ensures.after
    (λ d. ap (λ (y : Child). y.rest)
    (get_or_default c.sort_unstable.new.self first d _
    (omega (arith, c.requires.enough, c.requires.some, c.sort_unstable.ensures.len))))
    c.requires.some c.sort_unstable.ensures.sorted rest
    (All-permutation (λ (y : Child). rest ≤ y.rest) c.args.children.now c.sort_unstable.new.self c.sort_unstable.ensures.permutation all))

pub returns-clause-permutation : goal.returns-clause-permutation
returns-clause-permutation c =
    IsPermutation-trans c.args.children.now c.sort_unstable.new.self c.rotate_left.new.self c.sort_unstable.ensures.permutation
    c.rotate_left.ensures.permutation
