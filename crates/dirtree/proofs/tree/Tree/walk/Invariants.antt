use Rattle.std.proofs.Common.{◌≡◌, ◌==◌, length}
use denote.Text.{Utf8}
use denote.Shadow.{shadow}
use Rattle.std.specs.List.{slice_split}
use Rattle.dirtree.specs.Path.{walk}
use Rattle.dirtree.proofs.tree.Tree.walk.Given as goal

-- the names that are left lead from here to where all names lead from the root
abbrev pub invariant-loop-name : goal.invariant-loop-name
invariant-loop-name l = shadow (Utf8 l.rest)
    × (walk l.self.entries l.at (slice_split (λ c. c == 47) l.rest) ≡ walk l.self.entries 0 (slice_split (λ c. c == 47) l.fn.names))

abbrev pub decreases-loop-name : goal.decreases-loop-name
decreases-loop-name l = length l.rest
