use Rattle.std.proofs.Common.{◌≡◌, ◌≤◌, ◌<◌, ◌++◌, ℕ, List, None, Some, slice_get}
use Rattle.std.specs.Prelude.{IsOk}
use Rattle.export_protocol.specs.Authority.{request_of}
use Rattle.mds_board.specs.declared.entry.Entry.{Entry}
use Rattle.phased_board.specs.Begun.{IsEndMet}
use Rattle.phased_board.proofs.Ended.{IsOver}
use Rattle.phased_board.proofs.phased.Phased.end_all.Given as goal

-- the requests that the entries so far began are over, or a refusal is reported
abbrev pub invariant-loop-number : goal.invariant-loop-number
invariant-loop-number g l = record {
  over : IsOk l.ended → (k : ℕ) (e : Entry) → l.first ≤ k → k < l.number → slice_get l.initial.self.history k ≡ Some e → IsOver l.self e;
  others : (t : ℕ) → request_of l.initial.self.state.cluster t ≡ None → request_of l.self.state.cluster t ≡ None;
  history : (more : List Entry) × (l.self.history ≡ l.initial.self.history ++ more);
  refused : IsEndMet g.K.Phase.before l.self.history l.ended;
}
