use Rattle.std.proofs.Common.{◌≡◌, ◌∙◌, ⊎_elim, List, Result, Ok, Err, ℕ, false, sym, true}
use Rattle.std.proofs.lemmas.Bool.{cases_Bool}
use Rattle.std.proofs.lemmas.Str.{IsUtf8-from_is_utf8, is_utf8-from_IsUtf8}
use Rattle.std.specs.Result.{MatchResult, is_ok}
use Rattle.std.specs.Str.{IsUtf8, is_utf8}
use Rattle.ceph_report.proofs.text.is_text.Goals as goal

told : {X E : Type 0} (P : X → Type 0) (Q : E → Type 0) (bytes : List ℕ) (r : Result X E)
    → MatchResult r (λ s. P s × IsUtf8 bytes) (λ e. ¬ (IsUtf8 bytes) × Q e) → is_ok r ≡ is_utf8 bytes
told P Q bytes (Ok s) is = sym (is_utf8-from_IsUtf8 bytes is.1)
told P Q bytes (Err e) is = ⊎_elim (λ (so : is_utf8 bytes ≡ true). absurd (is.0 (IsUtf8-from_is_utf8 bytes so)))
    (λ (so : is_utf8 bytes ≡ false). sym so) (cases_Bool (is_utf8 bytes))

pub returns : goal.returns
returns c = c.is_ok.ensures.value ∙ told _ _ c.args.bytes.now c.from_utf8.result c.from_utf8.ensures.cases
