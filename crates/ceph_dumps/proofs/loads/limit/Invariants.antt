use Rattle.std.proofs.Common.{◌≡◌, drop, map, take}
use Rattle.ceph_dumps.specs.Loads.{fragment_data, limited}
use Rattle.ceph_dumps.proofs.loads.limit.Given as goal

-- those before are limited, the others are as they were
abbrev pub invariant-loop-fragment : goal.invariant-loop-fragment
invariant-loop-fragment l = record {
  done : map fragment_data (take l.fragment-index l.fragment-items)
      ≡ map limited (map fragment_data (take l.fragment-index l.initial.fragment-items));
  rest : drop l.fragment-index l.fragment-items ≡ drop l.fragment-index l.initial.fragment-items;
}
