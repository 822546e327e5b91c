use Rattle.std.proofs.Common.{◌≡◌, false, length, take, true, vec_capacity}
use Rattle.std.specs.List.{All, AllZip}
use Rattle.rank_threads.specs.Answered.{IsAnswered}
use Rattle.rank_threads.specs.Serving.{IsServed, no_thread}
use Rattle.rank_threads.specs.Tickets.{tickets_of}
use Rattle.rank_threads.specs.Ways.{HoldsAsMuch}
use Rattle.rank_threads.proofs.desk.Serving.serve_script.Given as goal

-- the requests so far are served
abbrev pub invariant-loop-number : goal.invariant-loop-number
invariant-loop-number g l =
    let old = g.W.Route.way l.initial.done.way in
    let new = g.W.Route.way l.done.way in record {
      served : IsServed g.J.Naming.limit l.initial.done.share (take l.number l.script) l.done.answers.items l.done.share;
      as_many : length l.done.answers.items ≡ l.number;
      answered : l.has_thread ≡ true → AllZip (IsAnswered g.K.Phase.before l.done.known.seen old new) (take l.number l.script) l.done.answers.items;
      refused : l.has_thread ≡ false → All (λ a. a ≡ no_thread) l.done.answers.items;
      held : HoldsAsMuch old new;
      given : l.done.known.tickets ≡ tickets_of l.done.answers.items;
      room : vec_capacity l.done.answers ≡ vec_capacity l.initial.done.answers;
    }
