use Rattle.std.proofs.Common.{◌∙◌, ◌<◌, ◌≤◌, List, ap, arith, length, map, sym, take_all}
use Rattle.ceph_dumps.specs.Loads.{fragment_data, limited}
use Rattle.ceph_dumps.specs.declared.loads.FragmentHeat.{FragmentHeat}
use Rattle.ceph_dumps.proofs.Limiting.{all_heat, all_writes, one_limited, rest_kept}
use Rattle.ceph_dumps.proofs.loads.limit.Goals as goal

pub loop-fragment-preserved : goal.loop-fragment-preserved
loop-fragment-preserved c =
    let l = c.loop-fragment in
    let within : l.fragment-index < length c.args.fragments.now = c.loop-fragment-test.true in
    let inside : l.fragment-index < length l.fragment-items = omega (arith, within, l.auto.fragment-items) in
    record {
      done = one_limited l.fragment-items c.args.fragments.now l.fragment-index c.fragment-item.result c.limit_one.new.fragment inside within
          c.limit_one.ensures l.invariant.rest l.invariant.done;
      rest = rest_kept l.fragment-items c.args.fragments.now l.fragment-index c.limit_one.new.fragment l.invariant.rest;
    }

pub returns-clause-is : goal.returns-clause-is
returns-clause-is c =
    let l = c.loop-fragment in
    let size : length c.args.fragments.now ≤ l.fragment-index = omega (arith, c.loop-fragment-test.false) in
    ap (map fragment_data) (sym (take_all l.fragment-index l.fragment-items (omega (arith, size, l.auto.fragment-items))))
    ∙ l.invariant.done
    ∙ ap (λ (list : List FragmentHeat). map limited (map fragment_data list)) (take_all l.fragment-index c.args.fragments.now size)

pub returns-clause-heat : goal.returns-clause-heat
returns-clause-heat c = all_heat c.loop-fragment.fragment-items c.args.fragments.now (returns-clause-is c)

pub returns-clause-writes : goal.returns-clause-writes
returns-clause-writes c = all_writes c.loop-fragment.fragment-items c.args.fragments.now (returns-clause-is c)
