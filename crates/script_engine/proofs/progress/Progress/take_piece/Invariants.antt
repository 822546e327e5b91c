use Rattle.std.proofs.Common.{◌≡◌, ℕ, ◌+◌, ◌≤◌, List, ◌++◌, length}
use Rattle.std.specs.Io.KnownBytes.{Appends}
use Rattle.script_engine.specs.Progress.{Stands}
use Rattle.script_engine.proofs.progress.Progress.take_piece.Given as goal

abbrev pub invariant-loop-end : goal.invariant-loop-end
invariant-loop-end g l =
    (l.self.number + length l.rest ≤ l.fn.self.number + length l.piece)
    × (read : List ℕ) × (read ++ l.rest ≡ l.piece)
    × ((start : g.row.I.Denot) (bytes text : List ℕ) → Stands g.I.Interpreter.answers l.strict start bytes text l.fn.interpreter l.fn.self
    → (more : List ℕ) × Stands g.I.Interpreter.answers l.strict start (bytes ++ read) (text ++ more) l.interpreter l.self
    × Appends (g.W.Write.contents l.fn.writer) (g.W.Write.contents l.writer) more)

abbrev pub decreases-loop-end : goal.decreases-loop-end
decreases-loop-end g l = length l.rest
