use Rattle.std.proofs.Common.{◌≤◌, arith, length}
use Rattle.ceph_folding.proofs.Keys.{enough, fewer-below}
use Rattle.ceph_folding.proofs.coldest.last_key.Goals as goal

pub returns-clause-enough : goal.returns-clause-enough
returns-clause-enough c =
    let inside : c.args.count ≤ length c.args.keys.items = omega arith in
    enough c.args.keys.items c.sort.new.self.items c.args.count c.index.result.now c.requires inside c.in_ok-sort.ensures.permutation
    c.in_ok-sort.ensures.sorted c.index.ensures

pub returns-clause-needed : goal.returns-clause-needed
returns-clause-needed c =
    let inside : c.args.count ≤ length c.args.keys.items = omega arith in
    fewer-below c.args.keys.items c.sort.new.self.items c.args.count c.index.result.now c.requires inside c.in_ok-sort.ensures.permutation
    c.in_ok-sort.ensures.sorted c.index.ensures
