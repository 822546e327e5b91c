use Rattle.std.proofs.Common.{◌≡◌, ◌∙◌, List, Some, ap, arith, codes, length, map, sym}
use Rattle.ceph_dumps.specs.DumpText.{said_in}
use Rattle.ceph_dumps.specs.Loads.{fragment_data, fragment_in}
use Rattle.ceph_dumps.specs.Members.{list_in}
use Rattle.ceph_dumps.specs.declared.loads.FragmentHeat.{FragmentHeat}
use Rattle.ceph_dumps.proofs.Limiting.{all_limited, written_back}
use Rattle.ceph_dumps.proofs.loads.read_loads.Goals as goal

pub returns-in-None-clause-is : goal.returns-in-None-clause-is
returns-in-None-clause-is c =
    let before : List FragmentHeat = c.deref_mut.result.now in
    let after : List FragmentHeat = c.limit.new.fragments in
    let size : c.in_ok-found.field-0.0.len ≡ length after = omega (arith, c.limit.auto.fragments, c.deref_mut.ensures.len) in
    let same : c.deref.result.now ≡ after = c.deref.ensures.value ∙ written_back after _ c.in_ok-found.field-0.0.len size in
    all_limited (said_in (list_in fragment_in (codes "dirfrags")) c.args.bytes.now) before after c.deref.result.now
    (c.in_ok-found.ensures.is ∙ ap (λ (list : List FragmentHeat). Some (map fragment_data list)) (sym c.deref_mut.ensures.value))
    c.limit.ensures.is same (c.odd_entry.ensures.clean c.in-None.is)
    ∙ ap (λ (list : List FragmentHeat). Some (map fragment_data list)) c.deref.ensures.value
