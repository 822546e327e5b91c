use Rattle.std.proofs.Common.{◌≡◌, ◌+◌, ◌++◌, ℕ, List, Vec, Global, Option, append-nil, append_assoc, ap, arith, get_or, map, sym, take, ◌∙◌}
use Rattle.rank_threads.specs.declared.work.WorkAnswer.{WorkAnswer}
use Rattle.script_board.specs.declared.dealing.Seat.{Seat}
use Rattle.script_board.specs.declared.fault.Fault.{Fault}
use Rattle.script_board.specs.Serve.{met, refusal_at, refusals}
use Rattle.script_board.proofs.DealingLemmas.{refusals_more}
use Rattle.script_board.proofs.script_board.ScriptBoard.tell.Goals as goal
use Rattle.script_board.proofs.script_board.ScriptBoard.tell.Goals.{in-Some, in_default}

pub loop-seat-preserved : goal.loop-seat-preserved
loop-seat-preserved g c =
    let inv = c.loop-seat.invariant in
    let i : ℕ = c.loop-seat.seat-index in
    let answers : List (List WorkAnswer) = map (λ (a : Vec WorkAnswer Global). a.items) c.args.answers.now in
    let before : List Fault = c.args.refused.now.items in
    let nowhere : Seat = record { rank = 0; number = 0 } in
    let fault : Option Fault = refusal_at answers (get_or c.args.seats.now i nowhere) in
    let all : c.loop-seat.refused.items ++ met c.fault_at.result ≡ before ++ refusals answers (take (i + 1) c.args.seats.now) =
    ap (λ (o : Option Fault). c.loop-seat.refused.items ++ met o) c.fault_at.ensures
    ∙ (ap (λ (l : List Fault). l ++ met fault) inv.told
    ∙ (append_assoc before (refusals answers (take i c.args.seats.now)) (met fault)
    ∙ ap (λ (l : List Fault). before ++ l) (sym (refusals_more answers c.args.seats.now i nowhere c.loop-seat-test.true)))) in
    elim c.match-fault_at.branch [
      | in-Some w ↦ record {
        told = ap (λ (v : Vec Fault Global). v.items) w.refused-is
            ∙ (w.push_reserved.ensures.items ∙ (ap (λ (o : Option Fault). c.loop-seat.refused.items ++ met o) (sym w.in-Some.is) ∙ all));
        few = rw w.refused-is (omega (arith, inv.few, w.push_reserved.ensures.len));
        room = rw w.refused-is (w.push_reserved.ensures.capacity ∙ inv.room);
      }
      | in_default w ↦ record {
        told = ap (λ (v : Vec Fault Global). v.items) w.refused-is
            ∙ (sym (append-nil c.loop-seat.refused.items)
            ∙ (ap (λ (o : Option Fault). c.loop-seat.refused.items ++ met o) (sym w.in_default.is) ∙ all));
        few = rw w.refused-is (omega (arith, inv.few));
        room = rw w.refused-is inv.room;
      }
    ]
