-- Which lists of directories are connected: any two members are joined by a chain of members, each next one the parent
-- or a child of the one before.
use Rattle.std.specs.Prelude.{◌≡◌, ◌≢◌, ◌<◌, ◌↔◌, ℕ, true, List, length, Option, None, Some, Contains, AllPairs}
use Rattle.mds_types.specs.Connected.{IsConnected, IsParentOrChild}
use Rattle.export_protocol.specs.declared.event.Event.TheVariants.{Start}
use Rattle.export_protocol.specs.declared.step_error.StepError.TheVariants.{NotConnected}
use Rattle.export_protocol.specs.Cluster.{World}
use Rattle.export_protocol.specs.Step.{is_connected, refusal}
use Rattle.export_protocol.specs.Roots.{parent_of}

-- the parent of d. What isn't there names itself, as the root does: that joins it to nothing
abbrev pub named_parent : ℕ → Option ℕ → ℕ
named_parent d None = d
named_parent d (Some p) = p

abbrev pub parent_in : World → ℕ → ℕ
parent_in w d = named_parent d (parent_of w d)

-- some directory, none twice, and any two joined by a chain of them
pub record HangsTogether (parent : ℕ → ℕ) (dirs : List ℕ) : Type 0 where
  pub some : 0 < length dirs
  pub once : AllPairs (λ c d. c ≢ d) dirs
  pub joined : IsConnected (IsParentOrChild parent) (Contains dirs)

-- the test of `Start` is this
abbrev pub TestsConnected : World → Type 0
TestsConnected w = (dirs : List ℕ) → (is_connected w dirs ≡ true) ↔ HangsTogether (parent_in w) dirs

-- these are the parents of the directories, which are there
abbrev pub AreParents : World → List ℕ → (ℕ → ℕ) → Type 0
AreParents w dirs parent = (d : ℕ) → Contains dirs d → parent_of w d ≡ Some (parent d)

-- a list that is connected by such parents passes the test, so `Start` isn't refused for it
pub record AcceptsConnected (w : World) (dirs : List ℕ) : Type 0 where
  pub passes : is_connected w dirs ≡ true
  pub accepted : (from to : ℕ) → refusal w (Start from to dirs) ≢ Some NotConnected
