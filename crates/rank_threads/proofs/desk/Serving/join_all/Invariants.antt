use Rattle.std.proofs.Common.{◌≡◌, ◌≤◌, ◌+◌, List, length, map, vec_len, vec_capacity}
use Rattle.std.specs.List.{All}
use Rattle.std.specs.Prelude.{IsOk}
use Rattle.heat_ledger.specs.Ledger.{IsClean}
use Rattle.rank_threads.specs.declared.work.Work.{Work}
use Rattle.rank_threads.specs.Answered.{IsDepositTold}
use Rattle.rank_threads.specs.Asking.{askings}
use Rattle.rank_threads.specs.Ways.{Hand, hands_of}
use Rattle.rank_threads.proofs.Joining.{AreJoinedBut}
use Rattle.proof_names.specs.Numbers.{AreApart}
use Rattle.rank_threads.proofs.desk.Serving.join_all.Given as goal

-- the ranks so far have answered, and the rest is asked
abbrev pub invariant-loop-rank : goal.invariant-loop-rank
invariant-loop-rank g l = record {
  joined : (hands : List Hand) (scripts : List (List Work)) → length hands ≡ length scripts → l.fn.asked.items ≡ askings hands scripts
      → AreJoinedBut g.J.Naming.limit g.K.Phase.before l.ranks.known.seen hands scripts l.asked.items (map (λ a. a.items) l.ranks.answers.items)
      (hands_of l.ranks.shares.items (map g.W.Route.way l.ranks.ways.items)) l.ranks.known.tickets;
  even : length l.ranks.shares.items ≡ length l.ranks.ways.items;
  apart : AreApart l.ranks.known.tickets;
  clean : IsOk l.ranks.deposited → All (λ s. IsClean s) l.ranks.shares.items;
  told : IsDepositTold g.K.Phase.before l.ranks.known.seen l.ranks.deposited;
  shares : vec_len l.asked + vec_len l.ranks.shares ≤ vec_capacity l.ranks.shares;
  ways : vec_len l.asked + vec_len l.ranks.ways ≤ vec_capacity l.ranks.ways;
  answers : vec_len l.asked + vec_len l.ranks.answers ≤ vec_capacity l.ranks.answers;
}

abbrev pub decreases-loop-rank : goal.decreases-loop-rank
decreases-loop-rank g l = vec_len l.asked
