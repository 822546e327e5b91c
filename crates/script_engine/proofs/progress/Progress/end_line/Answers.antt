use Rattle.std.proofs.Common.{ap, sym, Bool, ◌∙◌, ◌&&◌, ◌≡◌}
use Rattle.script_engine.proofs.progress.Progress.end_line.Goals.{then-self, else-self}
use Rattle.script_engine.proofs.progress.Progress.end_line.Goals as goal

pub returns-clause-ok : goal.returns-clause-ok
returns-clause-ok g c = λ line same.
    let answered = c.in_ok-accepted.ensures.ok line same in
    let same_before = c.in_ok-accepted.ensures.accepted in
    let joined : c.if-self.self ≡ c.args.self.now.accepted && answered.0.accepted = (elim c.if-self.branch [
      | then-self w ↦ w.self-is ∙ answered.2 ∙ sym (ap (λ (v : Bool). v && answered.0.accepted) w.if-self.true)
      | else-self w ↦ w.self-is ∙ w.if-self.false ∙ sym (ap (λ (v : Bool). v && answered.0.accepted) w.if-self.false)
    ]) ∙ ap (λ (v : Bool). v && answered.0.accepted) same_before in
    (answered.0, answered.1, joined, answered.3)
