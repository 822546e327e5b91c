-- A run from the beginning of a script.
use Rattle.std.proofs.Common.{◌≡◌, ℕ, Bool, List, Option, Result, IfOk, IfSome, subst}
use Rattle.std.proofs.lemmas.Option.{IfSome_then}
use Rattle.std.proofs.lemmas.Result.{IfOk-weaker}
use Rattle.script_engine.specs.Lines.{lines_of}
use Rattle.script_engine.specs.Runs.{AnswersAll}
use Rattle.script_session.specs.Script.{AllAnswered, IsKeptAt}
use Rattle.script_session.specs.Session.{SessionData, answers, beginning}

-- the session that a run ends with is one that it may end with
pub all_answered : {E : Type 0} (limit : ℕ) (strict : Bool) (start last : SessionData) (r : Result Bool E) (known u w : Option (List ℕ))
    → IsKeptAt last.board → start ≡ beginning limit
    → IfOk r (λ accepted. IfSome known (λ all. AnswersAll answers strict start (lines_of all) last accepted u w))
    → IfOk r (λ accepted. IfSome known (λ all. AllAnswered limit strict (lines_of all) accepted u w))
all_answered limit strict start last r known u w kept begins told =
    IfOk-weaker r (λ accepted. IfSome known (λ all. AnswersAll answers strict start (lines_of all) last accepted u w))
    (λ accepted. IfSome known (λ all. AllAnswered limit strict (lines_of all) accepted u w))
    (λ accepted some. IfSome_then known some
    (λ all done. (last, subst (λ (s : SessionData). AnswersAll answers strict s (lines_of all) last accepted u w) begins done, kept)))
    told
