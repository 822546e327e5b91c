use Rattle.std.proofs.Common.{◌∙◌, ◌++◌, List, ℕ, inr, subst, sym}
use Rattle.drive_lines.specs.Dialogue.{HasTaken}
use Rattle.drive_lines.specs.Outcomes.{dot_line}
use Rattle.drive_lines.proofs.running.run.Goals as goal

pub returns-in-Ok : goal.returns-in-Ok
returns-in-Ok g c =
    let found = c.in_ok-found.found in
    let text = c.in_ok-text.ensures.text in
    let is = sym c.as_slice.ensures.value ∙ c.in_ok-found.ensures.same in
    let whole = c.in-Ok.ensures.done in (
      found.plan,
      found.mark,
      c.read_text.new.host,
      whole.0,
      whole.1,
      subst
          (λ (t : List ℕ). HasTaken g.R.Read.remaining c.args.host.now c.read_text.new.host (t ++ dot_line)) is text.0,
      whole.2,
      whole.3,
    )

pub returns : goal.returns
returns g c =
    let found = c.in_ok-found.found in
    let text = c.in_ok-text.ensures.text in
    let is = sym c.as_slice.ensures.value ∙ c.in_ok-found.ensures.same in
    let cut = c.in-Err.ensures.cut in
    inr (
      found.plan,
      found.mark,
      c.read_text.new.host,
      cut.0,
      cut.1,
      subst
          (λ (t : List ℕ). HasTaken g.R.Read.remaining c.args.host.now c.read_text.new.host (t ++ dot_line)) is text.0,
      cut.2,
      cut.3,
    )
