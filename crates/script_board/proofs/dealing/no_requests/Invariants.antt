use Rattle.std.proofs.Common.{◌≡◌, ℕ, [], length, map}
use Rattle.script_board.specs.Serve.{script_at}
use Rattle.script_board.proofs.dealing.no_requests.Given as goal

-- no script so far has a request
abbrev pub invariant-loop-rank : goal.invariant-loop-rank
invariant-loop-rank l = record {
  as_many : length l.scripts.items ≡ l._rank;
  none : (rank : ℕ) → script_at (map (λ s. s.items) l.scripts.items) rank ≡ [];
}
