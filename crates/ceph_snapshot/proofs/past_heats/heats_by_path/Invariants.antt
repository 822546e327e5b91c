use Rattle.std.proofs.Common.{◌≡◌, ◌≤◌, ℕ, List, drop, length}
use Rattle.std.specs.HashMap.{get_by}
use Rattle.std.specs.Option.{unwrap_or}
use Rattle.std.specs.Str.{bytes_eq}
use Rattle.ceph_snapshot.specs.Hours.{heat_then}
use Rattle.ceph_snapshot.proofs.past_heats.heats_by_path.Given as goal

-- the entries from this place on are noted
abbrev pub invariant-loop-at : goal.invariant-loop-at
invariant-loop-at l = record {
  inside : l.at ≤ length l.past;
  heats : (path : List ℕ) → unwrap_or (get_by (λ key. bytes_eq path key.items) l.heats) 0 ≡ heat_then (drop l.at l.past) path;
}
