use Rattle.std.proofs.Common.{◌≡◌, ℕ, false, List, [], Vec, Global, length, map, refl, sym, subst, arith, ◌∙◌}
use Rattle.std.proofs.lemmas.List.{length-map}
use Rattle.heat_ledger.specs.Ledger.{ShareData}
use Rattle.rank_threads.specs.declared.work.Work.{Work}
use Rattle.rank_threads.specs.Phases.{AreRequestsServed}
use Rattle.rank_threads.specs.Ways.{own_ranks}
use Rattle.script_board.specs.declared.dealing.Seat.{Seat}
use Rattle.script_board.specs.Board.{BoardData}
use Rattle.script_board.specs.Serve.{IsDealt, IsGone, waiting}
use Rattle.script_board.proofs.DealingLemmas.{returned_length}
use Rattle.script_board.proofs.ServeLemmas.{served_by}
use Rattle.script_board.proofs.script_board.ScriptBoard.go.Goals as goal

pub whole-after-requires : goal.whole-after-requires
whole-after-requires g c =
    let inv = c.before-2.invariant in
    let same : c.in-Err-done.failed.value.items ≡ c.before-2.inside.shares.items = rw c.in-Err-done.is at c.serve_with_totals-board.ensures.memory in
    let board : c.serve_with_totals-board.result.0 ≡ c.before-2.inside.board = rw c.in-Err-done.is at c.serve_with_totals-board.ensures.unchanged in
    rw (same, board) record { fits = record { some_shares = inv.some_shares; few_shares = inv.few_shares; whole = inv.whole } }

pub invariant_of-after : goal.invariant_of-after
invariant_of-after g c =
    let inv = c.before-2.invariant in
    let some = inv.some_shares in
    let few = inv.few_shares in
    let size = returned_length g.J.Naming.limit _ _ _ _ (rw c.in-Ok-done.is at c.serve_with_totals-board.ensures.served).served.returned in
    rw c.told-shares.ensures.shares record {
      some_shares = omega (arith, size, some);
      few_shares = omega (arith, size, few);
      whole = (rw c.in-Ok-done.is at c.serve_with_totals-board.ensures.totals).whole;
    }

pub returns-clause-done : goal.returns-clause-done
returns-clause-done g c =
    let old : BoardData = record {
      world = c.before-2.inside.board;
      shares = c.before-2.inside.shares.items;
      loads = c.before-2.inside.loads.items;
      kept = c.before-2.inside.kept.items;
      stops = c.before-2.inside.stops.items;
    } in
    let as_before : old ≡ c.args.self = c.before-2.view_is in
    let new : List ShareData → BoardData = λ shares. record {
      world = c.serve_with_totals-board.result.0;
      shares = shares;
      loads = c.clear.new.self.items;
      kept = c.before-2.inside.kept.items;
      stops = c.before-2.inside.stops.items;
    } in
    let limit : g.J.Naming.limit ≡ old.world.state.directories.limit = sym c.limit-limit.ensures.named ∙ c.limit-limit.ensures.limit in
    let seats : List Seat = c.in-Ok.prepared.0.seats.items in
    let ranks = c.in-Ok-done.ranks in
    let scripts = c.deref.result.now in
    let dealt : IsDealt old.world (length old.shares) (waiting old) (map (λ (s : Vec Work Global). s.items) scripts) seats =
    subst (λ (l : List (Vec Work Global)). IsDealt old.world (length old.shares) (waiting old) (map (λ (s : Vec Work Global). s.items) l)
    seats) (sym c.deref.ensures.value)
    (subst (λ (b : BoardData). IsDealt b.world (length b.shares) (waiting b)
    (map (λ (s : Vec Work Global). s.items) c.in-Ok.prepared.0.scripts.items) seats) (sym as_before) c.in-Ok.ensures.dealt) in
    let many : length scripts ≡ length old.shares = sym (length-map scripts (λ (s : Vec Work Global). s.items)) ∙ dealt.as_many in
    let now = c.serve_with_totals-board.result.0 in
    let served = subst (λ (n : ℕ). AreRequestsServed g.J.Naming.limit old.world now old.shares (own_ranks 0 n) scripts ranks (own_ranks 0 n)) many
    (rw c.in-Ok-done.is at c.serve_with_totals-board.ensures.served) in
    subst (λ (shares : List ShareData). IsGone c.args.self c.told-shares.result.1.items (new shares)) (sym c.told-shares.ensures.shares)
    (subst (λ (b : BoardData). IsGone b c.told-shares.result.1.items (new ranks.shares.items)) as_before (
      served_by false [] g.J.Naming.limit (own_ranks 0 (length old.shares)) (own_ranks 0 (length old.shares)) old now c.clear.new.self.items
          c.before-2.inside.kept.items c.before-2.inside.stops.items c.told-shares.result.1.items scripts seats ranks limit dealt served
          (rw c.in-Ok-done.is at c.serve_with_totals-board.ensures.totals) c.serve_with_totals-board.ensures.board c.told-shares.ensures.told,
      c.clear.ensures.items,
      refl,
      refl,
    ))
