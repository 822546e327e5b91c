use Rattle.std.proofs.Common.{◌≤◌, ℕ, if◌then◌else◌}
use Rattle.authority_map.specs.Operations.{names}
use Rattle.authority_map.specs.Runs.{AreFirstRuns, ComeBefore, Hold, HoldFirst}
use Rattle.authority_map.proofs.rewriting.make_anew.Given as goal

-- the runs of the directories before this one are made, which are those up to the last listed one
abbrev pub invariant-loop-place : goal.invariant-loop-place
invariant-loop-place l = record {
  some : 1 ≤ l.done;
  within : l.done ≤ l.limit;
  listed : ComeBefore l.dirs l.place l.done;
  made : AreFirstRuns l.limit l.done l.made;
  cells : (old : ℕ → ℕ) → Hold l.limit l.runs old 0 0 → HoldFirst l.done l.made (λ d. if names l.dirs d then l.cell else old d);
}
