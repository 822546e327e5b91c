-- The answer to a line shows where memory ran out.
use Rattle.std.proofs.Common.{◌≡◌, ◌==◌, ℕ, Bool, true, false, cond, List, [], ◌++◌, length, take, Ok, sym, ap, subst, ◌∙◌, append-nil, ◌⊎◌, inl, inr}
use Rattle.script_engine.specs.Answers.{Answer, fault_text}
use Rattle.script_commands.specs.Commands.{asked}
use Rattle.script_board.specs.declared.fault.Fault.TheVariants.{Memory}
use Rattle.script_session.specs.Printed.{Printed, joined}
use Rattle.script_session.specs.Fault.{words}
use Rattle.script_session.specs.Outcome.{LineOutcome, answer_to, is_sure, told}
use Rattle.script_session.specs.Session.{IsTold, SessionData, answers, published}
use Rattle.script_session.specs.Visible.{IsSeenAs, TellsNoMemory}
use Rattle.script_session.proofs.OutcomeLemmas.{done_line, fault_line}

unpublished : (x : Bool) (new mid : SessionData) → new ≡ mid → (let after : SessionData = cond x (published mid) mid in (new ≡ after) ⊎ (published new ≡ after))
unpublished true new mid h = inr (ap published h)
unpublished false new mid h = inl h

done_seen : (s new : SessionData) (number : ℕ) (p : Printed) (ample : Bool) (mid : SessionData) (a : Answer)
    → IsTold number p ample mid a new → TellsNoMemory number a → IsSeenAs a new (told s number (Ok (p, mid)))
done_seen s new number p ample mid a (inl (inl is)) silent = (ap (λ (x : Answer). x.text) is.0, ap (λ (x : Answer). x.accepted) is.0, inl is.1)
done_seen s new number p ample mid a (inl (inr is)) silent =
    (ap (λ (x : Answer). x.text) is.0, ap (λ (x : Answer). x.accepted) is.0, unpublished (length p.refused == 0) new mid is.1)
done_seen s new number p ample mid a (inr cut) silent =
    let text : List ℕ = fault_text number (words Memory) in
    absurd (silent (joined (take cut.0 p.lines)) [] (ap (λ (x : Answer). x.text) cut.2
    ∙ ap (λ (t : List ℕ). joined (take cut.0 p.lines) ++ t) (sym (append-nil text))))

pub seen : (old new : SessionData) (number : ℕ) (bytes : List ℕ) (a : Answer) → is_sure bytes ≡ true → answers old number bytes a new
    → TellsNoMemory number a → IsSeenAs a new (answer_to old number bytes)
seen old new number bytes a sure (inl (p, ample, mid, done, is)) silent =
    subst (λ (o : LineOutcome). IsSeenAs a new (told old number o)) (sym (done_line old (asked bytes) p ample mid sure done))
    (done_seen old new number p ample mid a is silent)
seen old new number bytes a sure (inr (inl (e, stands, is, same))) silent =
    subst (λ (o : LineOutcome). IsSeenAs a new (told old number o)) (sym (fault_line old (asked bytes) e sure stands))
    (ap (λ (x : Answer). x.text) is, ap (λ (x : Answer). x.accepted) is, inl same)
seen old new number bytes a sure (inr (inr (none, is, same))) silent =
    absurd (silent [] [] (ap (λ (x : Answer). x.text) is ∙ sym (append-nil (fault_text number (words Memory)))))
