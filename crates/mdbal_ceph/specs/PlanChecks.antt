-- How the pins of a cluster are compared: with the plan that a driver stored, or with a list.
use Rattle.std.specs.Prelude.{◌≡◌, ◌⊎◌, ℕ, Bool, List, Option, None, Some, codes, false, length, nat_eq, true}
use Rattle.std.specs.List.{starts_with}
use Rattle.ceph_report.specs.PlanCheck.{does_plan_hold, plan_check_text}
use Rattle.ceph_report.specs.declared.check.PinCheck.{PinCheck}
use Rattle.pin_driver.specs.Driven.{IsMark}
use Rattle.pin_driver.specs.StoredText.{stored_text}
use Rattle.pin_driver.specs.declared.stored_reader.StoredPlan.{StoredPlan}
use Rattle.mdbal_ceph.specs.declared.collected.Collected.{Collected}
use Rattle.mdbal_ceph.specs.Collections.{HasOurPins, IsCollected}
use Rattle.mdbal_ceph.specs.Dumps.{DumpValue}
use Rattle.mdbal_ceph.specs.Folder.{Bytes, FileContent, Missing}
use Rattle.mdbal_ceph.specs.Options.{IsChecked}

-- whether these bytes are for a driver of pins, and no list of pins
abbrev pub is_driver_text : List ℕ → Bool
is_driver_text bytes = starts_with nat_eq bytes (codes "mdbal_pins ")

-- the file of this name is the text that a driver stores of this plan, with how far it is
pub record IsStoredIn (reads : List ℕ → FileContent → Type 0) (name : List ℕ) (stored : StoredPlan) : Type 0 where
  pub text : reads name (Bytes (stored_text stored.plan stored.mark))
  pub begins : is_driver_text (stored_text stored.plan stored.mark) ≡ true
  pub sound : IsMark stored.mark (length stored.plan.changes)

-- the plan of such a file; or none, where there is no file of this name for a driver
abbrev pub IsPlanIn : (List ℕ → FileContent → Type 0) → List ℕ → Option StoredPlan → Type 0
IsPlanIn reads name None =
    reads name Missing ⊎ ((bytes : List ℕ) × reads name (Bytes bytes) × (is_driver_text bytes ≡ false))
IsPlanIn reads name (Some stored) = IsStoredIn reads name stored

-- what is reported is how the plan that a driver stored in the file of this name holds in what was collected, which is
-- read with no list of pins
pub record IsPlanChecked (reads : List ℕ → FileContent → Type 0) (says : List ℕ → DumpValue → Type 0)
    (folder : List ℕ) (name : List ℕ) (found : PinCheck) : Type 0 where
  pub stored : StoredPlan
  pub collected : Collected
  pub file : IsStoredIn reads name stored
  pub read : IsCollected reads says folder None collected
  pub ours : HasOurPins collected
  pub text : found.text.items
      ≡ plan_check_text collected.snapshot.directories.items collected.cluster.ranks stored.plan
  pub holds : found.all_hold
      ≡ does_plan_hold collected.snapshot.directories.items collected.cluster.ranks stored.plan

-- a file for a driver is compared as a plan, and any other as a list of pins
abbrev pub IsCompared : (List ℕ → FileContent → Type 0) → (List ℕ → DumpValue → Type 0) → List ℕ → List ℕ → PinCheck
    → Type 0
IsCompared reads says folder name found =
    IsPlanChecked reads says folder name found
    ⊎ (IsPlanIn reads name None × IsChecked reads says folder name found)
