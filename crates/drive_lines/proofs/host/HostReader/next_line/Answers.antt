use Rattle.std.proofs.Common.{◌≢◌, ◌++◌, ◌∷◌, [], rules, arith, ℕ, List, Option, IfSome, subst}
use Rattle.std.proofs.lemmas.List.Elements.{All-push}
use Rattle.drive_lines.specs.Dialogue.{HasTaken}
use Rattle.drive_lines.proofs.Heard.{on_err, taken_more}
use Rattle.drive_lines.proofs.host.HostReader.next_line.Goals as goal

pub returns-in_err-push-in-Some-clause-err : goal.returns-in_err-push-in-Some-clause-err
returns-in_err-push-in-Some-clause-err g c =
    let took = subst (λ (o : Option ℕ). IfSome o (λ byte. HasTaken g.R.Read.remaining c.loop.self c.next_byte.new.self (byte ∷ []))) c.in-Some.is
    c.in_ok-next_byte.ensures.byte in
    let all : (bytes : List ℕ) × HasTaken g.R.Read.remaining c.args.self.now c.next_byte.new.self bytes = (
      c.loop.line.items ++ c.in-Some.byte ∷ [],
      taken_more g.R.Read.remaining c.args.self.now c.loop.self c.next_byte.new.self c.loop.line.items (c.in-Some.byte ∷ []) c.loop.invariant.0 took,
    ) in
    on_err _ _ all

pub loop-preserved : goal.loop-preserved
loop-preserved g c =
    let took = subst (λ (o : Option ℕ). IfSome o (λ byte. HasTaken g.R.Read.remaining c.loop.self c.next_byte.new.self (byte ∷ []))) c.in-Some.is
    c.in_ok-next_byte.ensures.byte in
    let items = c.in_ok-push-in-Some.ensures.items in
    let other : c.in-Some.byte ≢ 10 = search rules in
    rw items (
      taken_more g.R.Read.remaining c.args.self.now c.loop.self c.next_byte.new.self c.loop.line.items (c.in-Some.byte ∷ []) c.loop.invariant.0 took,
      All-push (λ x. x ≢ 10) c.loop.line.items c.in-Some.byte c.loop.invariant.1 other,
      grind arith,
    )
