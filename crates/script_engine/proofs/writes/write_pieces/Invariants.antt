use Rattle.std.proofs.Common.{◌≡◌, ◌++◌, List, ℕ, flat_map, take}
use Rattle.std.specs.Io.KnownBytes.{Appends}
use Rattle.script_engine.proofs.writes.write_pieces.Given as goal

-- of the pieces so far a beginning was written, and the rest waits
abbrev pub invariant-loop-piece : goal.invariant-loop-piece
invariant-loop-piece g l =
    (front : List ℕ) × (flat_map (λ piece. piece.now) (take l.piece-index l.pieces) ≡ front ++ l.waiting.items)
    × Appends (g.W.Write.contents l.fn.writer) (g.W.Write.contents l.writer) front
