use Rattle.std.proofs.Common.{◌≡◌, ◌∙◌, ◌<◌, ◌+◌, ◌++◌, ◌∷◌, [], All, Bor, ℕ, List, ap, arith, length, subst, sym, take, ⊎_elim}
use Rattle.std.proofs.Math.Seq.{take-length}
use Rattle.std.specs.List.{flat_map}
use Rattle.std.proofs.lemmas.List.{take_more, flat_map_more}
use Rattle.std.proofs.lemmas.List.Elements.{All-map, All-more}
use Rattle.std.proofs.lemmas.List.Folds.{flat_map-map}
use Rattle.std.proofs.lemmas.Result.{err_from_is_err_and}
use Rattle.ceph_dumps.specs.OwnList.{IsPinLine, IsPinListError, line_pins, list_lines}
use Rattle.ceph_dumps.specs.declared.dump_error.DumpError.{DumpError}
use Rattle.ceph_dumps.specs.declared.dump_error.DumpError.TheVariants.{Memory, Own}
use Rattle.ceph_dumps.proofs.FirstLine.{first_broken}
use Rattle.ceph_dumps.proofs.own_list.read_own_list.Goals as goal

pub loop-at-preserved : goal.loop-at-preserved
loop-at-preserved c =
    let lines : List (Bor (List ℕ)) = c.in_ok-lines.lines.items in
    let at : ℕ = c.loop-at.at in
    let line : Bor (List ℕ) = c.index.result.now in
    let inside : at < length lines = omega (arith, c.loop-at-test.true, c.len-at-end.ensures) in
    record {
      lines = All-more (λ (one : Bor (List ℕ)). IsPinLine one.now) lines at line inside c.loop-at.invariant.lines
          (subst (λ (one : Bor (List ℕ)). IsPinLine one.now) c.index.ensures c.in_ok-push_pin.ensures.line);
      pins = c.in_ok-push_pin.ensures.pins
          ∙ (ap (λ before. before ++ line_pins line.now) c.loop-at.invariant.pins
          ∙ (flat_map_more (λ (one : Bor (List ℕ)). line_pins one.now) [] (take at lines) line
          ∙ ap (flat_map (λ (one : Bor (List ℕ)). line_pins one.now))
          (sym (take_more lines at line inside ∙ ap (λ (one : Bor (List ℕ)). take at lines ++ one ∷ []) (sym c.index.ensures)))));
    }

pub returns-clause-pins : goal.returns-clause-pins
returns-clause-pins c =
    let lines : List (Bor (List ℕ)) = c.in_ok-lines.lines.items in
    let end : take c.loop-at.at lines ≡ lines =
    ap (λ (n : ℕ). take n lines) (let same : c.loop-at.at
    ≡ length lines = omega (arith, c.loop-at-test.false, c.loop-at.auto.at-end, c.len-at-end.ensures) in same) ∙ take-length lines in
    record {
      lines = subst (All IsPinLine) c.in_ok-lines.ensures
          (All-map IsPinLine (λ (line : Bor (List ℕ)). line.now) lines
          (subst (All (λ (line : Bor (List ℕ)). IsPinLine line.now)) end c.loop-at.invariant.lines));
      each = c.loop-at.invariant.pins
          ∙ (ap (flat_map (λ (line : Bor (List ℕ)). line_pins line.now)) end
          ∙ (sym (flat_map-map line_pins (λ (line : Bor (List ℕ)). line.now) lines)
          ∙ ap (flat_map line_pins) c.in_ok-lines.ensures));
    }

pub returns-in_err-push_pin-clause-refused : goal.returns-in_err-push_pin-clause-refused
returns-in_err-push_pin-clause-refused c =
    let bytes : List ℕ = c.args.bytes.now in
    let lines : List (Bor (List ℕ)) = c.in_ok-lines.lines.items in
    let at : ℕ = c.loop-at.at in
    let line : Bor (List ℕ) = c.index.result.now in
    let inside : at < length lines = omega (arith, c.loop-at-test.true, c.len-at-end.ensures) in
    let error : DumpError = c.in_err-push_pin.field-0.0 in
    let e = err_from_is_err_and c.from_residual-in_err-push_pin.result c.from_residual-in_err-push_pin.ensures.1 in
    rw (e.1, e.2) (⊎_elim (λ (memory : error ≡ Memory). subst (IsPinListError bytes) (sym memory) tt)
    (λ (broken : (error ≡ Own (at + 1)) × (IsPinLine line.now → ⊥)).
    subst (IsPinListError bytes) (sym broken.0)
    (first_broken IsPinLine lines (list_lines bytes) at line c.in_ok-lines.ensures c.index.ensures inside c.loop-at.invariant.lines broken.1))
    c.in_err-push_pin.ensures.refused)
