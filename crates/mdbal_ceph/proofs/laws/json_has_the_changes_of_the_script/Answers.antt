use Rattle.std.proofs.Common.{◌≡◌, Option, Some, None, IfSome, true}
use Rattle.mdbal_ceph.specs.Writing.{ArePinFiles, HaveSameChanges, IsWritten, proposed_changes}
use Rattle.mdbal_ceph.specs.declared.outcome.Outcome.{Outcome}
use Rattle.mdbal_ceph.specs.declared.settings.PlanSettings.{PlanSettings}
use Rattle.mdbal_ceph.specs.declared.writing.PinFiles.{PinFiles}
use Rattle.mdbal_ceph.specs.declared.writing.PlanOutput.{PlanOutput}
use Rattle.mdbal_ceph.proofs.laws.json_has_the_changes_of_the_script.Goals as goal

same_changes : (settings : PlanSettings) (outcome : Outcome) (output : PlanOutput) → IsWritten settings outcome output
    → settings.is_json ≡ true → (files : Option PinFiles)
    → IfSome files (ArePinFiles settings outcome (proposed_changes outcome output.is_proposed))
    → IfSome files (HaveSameChanges settings outcome output.text.items output.is_proposed)
same_changes settings outcome output is json None are = tt
same_changes settings outcome output is json (Some files) are = record {
  changes = proposed_changes outcome output.is_proposed;
  facts = is.text.facts;
  told = rw json at is.text.told;
  script = are.script;
  back = are.back;
}

pub returns : goal.returns
returns c = λ settings outcome output is json. same_changes settings outcome output is json output.pins is.pins
