use Rattle.std.proofs.Common.{◌≡◌, ◌≢◌, ◌++◌, List, ℕ, codes, rules, subst}
use Rattle.pin_driver.specs.StoredText.{last_text}
use Rattle.drive_lines.specs.Dialogue.{HasTaken, IsHostLine}
use Rattle.drive_lines.specs.declared.host.HostLine.{HostLine}
use Rattle.drive_lines.proofs.Heard.{one_line_more, taken_more}
use Rattle.drive_lines.proofs.plan_input.read_text.Goals as goal

pub loop-preserved : goal.loop-preserved
loop-preserved g c =
    let got = subst
    (λ (l : HostLine). (bytes : List ℕ) × HasTaken g.R.Read.remaining c.loop.host c.next_line.new.self bytes × IsHostLine
    (g.R.Read.remaining c.next_line.new.self.reader) bytes l)
    c.in-Whole.is c.in_ok-line.ensures.ok in
    let other : c.in-Whole.line.items ≢ codes "." = search rules in
    let items : c.push_line.new.text.items ≡ c.loop.text.items ++ last_text c.in-Whole.line.items = search rules in
    let took = taken_more g.R.Read.remaining c.args.host.now c.loop.host c.next_line.new.self c.loop.text.items got.0 c.loop.invariant.0 got.1 in
    rw items (
      subst (λ (bytes : List ℕ). HasTaken g.R.Read.remaining c.args.host.now c.next_line.new.self (c.loop.text.items ++ bytes)) got.2.0 took,
      one_line_more c.loop.text.items c.in-Whole.line.items c.loop.invariant.1 got.2.1 other,
    )
