use Rattle.std.proofs.Common.{◌≡◌, ◌++◌, [], ◌∷◌, take, length}
use Rattle.std.specs.Prelude.{decimal, string_bytes}
use Rattle.std.specs.List.{flat_map}
use Rattle.plan_text.specs.Text.{line}
use Rattle.plan_text.proofs.writer.push_table.Given as goal

-- the lines so far
abbrev pub invariant-loop-item : goal.invariant-loop-item
invariant-loop-item g l =
    string_bytes l.out ≡ (string_bytes l.fn.out ++ line l.name (decimal (length l.items) ∷ [])) ++ flat_map g.T.Line.line (take l.item-index l.items)
