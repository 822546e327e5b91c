use Rattle.std.proofs.Common.{◌≡◌, ◌∙◌, All, List, Some, ap, map, option_and_then, refl, subst, true}
use Rattle.ceph_dumps.specs.Paths.{is_clean_path}
use Rattle.ceph_dumps.specs.Subtrees.{if_clean, root_data}
use Rattle.ceph_dumps.specs.declared.subtrees.SubtreeRoot.{SubtreeRoot}
use Rattle.ceph_dumps.proofs.Clean.{each_passes}
use Rattle.ceph_dumps.proofs.subtrees.read_subtrees.Goals as goal

clean_all : (list : List SubtreeRoot) → All (λ root. is_clean_path root.path.items ≡ true) list
    → if_clean (map root_data list) ≡ Some (map root_data list)
clean_all list all = rw (each_passes root_data (λ root. is_clean_path root.path) list all) refl

pub returns-in-None-clause-is : goal.returns-in-None-clause-is
returns-in-None-clause-is c =
    let clean : List SubtreeRoot → Type 0 = All (λ root. is_clean_path root.path.items ≡ true) in
    ap (option_and_then if_clean) c.in_ok-roots.ensures.is
    ∙ clean_all c.in_ok-roots.field-0.0.items (subst clean c.deref.ensures.value (c.odd_entry.ensures.clean c.in-None.is))
