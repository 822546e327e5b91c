use Rattle.std.proofs.Common.{◌≡◌, ◌∙◌, ◌<◌, ◌++◌, ◌∷◌, [], All, Bor, ℕ, List, ap, arith, length, map, subst, sym, take}
use Rattle.std.specs.List.{flat_map}
use Rattle.std.proofs.Math.Seq.{take-length}
use Rattle.std.proofs.lemmas.List.{flat_map_more, length-map, take_more}
use Rattle.std.proofs.lemmas.List.Elements.{All-more}
use Rattle.ceph_dumps.specs.HourRecord.{IsHeatLine, line_at, line_heats}
use Rattle.ceph_dumps.proofs.hour_record.read_heats.Goals as goal

abbrev texts : List (Bor (List ℕ)) → List (List ℕ)
texts lines = map (λ (line : Bor (List ℕ)). line.now) lines

pub loop-at-preserved : goal.loop-at-preserved
loop-at-preserved c =
    let lines : List (List ℕ) = texts c.args.lines.now in
    let at : ℕ = c.loop-at.at in
    let line : List ℕ = c.line_at.result.now in
    let is : line ≡ line_at lines at = c.line_at.ensures in
    let inside : at < length lines = omega (arith, c.loop-at-test.true, length-map c.args.lines.now (λ (line : Bor (List ℕ)). line.now)) in
    record {
      lines = All-more IsHeatLine lines at [] inside c.loop-at.invariant.lines (subst IsHeatLine is c.in_ok-push_heat.ensures.line);
      heats = c.in_ok-push_heat.ensures.heats
          ∙ (ap (λ before. before ++ line_heats line) c.loop-at.invariant.heats
          ∙ (flat_map_more line_heats [] (take at lines) line
          ∙ ap (flat_map line_heats) (sym (take_more lines at [] inside ∙ ap (λ (one : List ℕ). take at lines ++ one ∷ []) (sym is)))));
    }

end : (lines : List (Bor (List ℕ))) (at : ℕ) → at ≡ length lines → take at (texts lines) ≡ texts lines
end lines at is = ap (λ (n : ℕ). take n (texts lines)) (is ∙ sym (length-map lines (λ (line : Bor (List ℕ)). line.now))) ∙ take-length (texts lines)

pub returns-clause-lines : goal.returns-clause-lines
returns-clause-lines c =
    let all : take c.loop-at.at (texts c.args.lines.now) ≡ texts c.args.lines.now =
    end c.args.lines.now c.loop-at.at (omega (arith, c.loop-at-test.false, c.loop-at.auto.at-end)) in
    subst (All IsHeatLine) all c.loop-at.invariant.lines

pub returns-clause-heats : goal.returns-clause-heats
returns-clause-heats c =
    let all : take c.loop-at.at (texts c.args.lines.now) ≡ texts c.args.lines.now =
    end c.args.lines.now c.loop-at.at (omega (arith, c.loop-at-test.false, c.loop-at.auto.at-end)) in
    c.loop-at.invariant.heats ∙ ap (flat_map line_heats) all
