use Rattle.std.proofs.Common.{◌≡◌, ◌<◌, ◌==◌, ◌+◌, ◌++◌, ◌∷◌, ◌∙◌, [], ℕ, Bool, true, false, cond, length, sym, ap, subst, refl, append-nil}
use Rattle.std.specs.Prelude.{filter}
use Rattle.std.proofs.lemmas.Bool.{eq-eqb, ne_eqb}
use Rattle.dir_pins.specs.Pins.{below}
use Rattle.dir_pins.proofs.NearestPin.{below_more}
use Rattle.export_protocol.specs.Cluster.{World as Exports}
use Rattle.export_protocol.specs.Step.{about}
use Rattle.heat_ledger.proofs.Closings.{all_more}
use Rattle.script_board.specs.Looks.{is_message_of}
use Rattle.script_board.proofs.looks.messages_of.Goals as goal
use Rattle.script_board.proofs.looks.messages_of.Goals.{then-export+in_ok-push, else-export}

pub loop-message-preserved : goal.loop-message-preserved
loop-message-preserved g c =
    let n : ℕ = c.loop-message.message in
    let test : ℕ → Bool = is_message_of c.args.board.now c.args.export in
    let more : filter test (below (n + 1)) ≡ filter test (below n) ++ cond (test n) (n ∷ []) [] = below_more test n in
    let same : (c.export.result == c.args.export) ≡ test n = ap (λ (k : ℕ). k == c.args.export) (c.export.ensures ∙ ap about c.sent_message.ensures) in
    let sent : n < length c.args.board.now.state.cluster.sent =
    subst (λ (k : ℕ). n < k) (c.sent-message-end.ensures ∙ ap (λ (w : Exports). length w.sent) c.cluster.ensures)
    c.loop-message-test.true in
    elim c.if-export.branch [
      | then-export+in_ok-push w ↦
          let is : test n ≡ true = sym same ∙ eq-eqb c.export.result c.args.export w.if-export.true in
          record {
            messages = rw (w.found-is, w.in_ok-push.ensures.items, c.loop-message.invariant.messages, more, is) refl;
            inside = all_more (λ m. m < length c.args.board.now.state.cluster.sent) c.loop-message.found.items c.if-export.found.items n
                (rw (w.found-is, w.in_ok-push.ensures.items) refl) c.loop-message.invariant.inside sent;
          }
      | else-export w ↦
          let is : test n ≡ false = sym same ∙ ne_eqb c.export.result c.args.export w.if-export.false in
          record {
            messages = rw (w.found-is, c.loop-message.invariant.messages, more, is) (sym (append-nil (filter test (below n))));
            inside = rw w.found-is c.loop-message.invariant.inside;
          }
    ]
