use Rattle.std.proofs.Common.{◌≡◌, ◌∙◌, ◌<◌, ◌+◌, ◌++◌, ◌∷◌, [], All, Bor, ℕ, List, ap, arith, length, subst, sym, take, ⊎_elim}
use Rattle.std.proofs.Math.Seq.{take-length}
use Rattle.std.specs.List.{flat_map}
use Rattle.std.proofs.lemmas.List.{take_more, flat_map_more}
use Rattle.std.proofs.lemmas.List.Elements.{All-map, All-more}
use Rattle.std.proofs.lemmas.List.Folds.{flat_map-map}
use Rattle.std.proofs.lemmas.Result.{err_from_is_err_and}
use Rattle.ceph_dumps.specs.PathList.{IsPathLine, IsPathListError, line_paths}
use Rattle.ceph_dumps.specs.OwnList.{list_lines}
use Rattle.ceph_dumps.specs.declared.dump_error.DumpError.{DumpError}
use Rattle.ceph_dumps.specs.declared.dump_error.DumpError.TheVariants.{Memory, Path}
use Rattle.ceph_dumps.proofs.FirstLine.{first_broken}
use Rattle.ceph_dumps.proofs.path_list.read_path_list.Goals as goal

pub loop-at-preserved : goal.loop-at-preserved
loop-at-preserved c =
    let lines : List (Bor (List ℕ)) = c.in_ok-lines.lines.items in
    let at : ℕ = c.loop-at.at in
    let line : Bor (List ℕ) = c.index.result.now in
    let inside : at < length lines = omega (arith, c.loop-at-test.true, c.len-at-end.ensures) in
    record {
      lines = All-more (λ (one : Bor (List ℕ)). IsPathLine one.now) lines at line inside c.loop-at.invariant.lines
          (subst (λ (one : Bor (List ℕ)). IsPathLine one.now) c.index.ensures c.in_ok-push_path.ensures.line);
      paths = c.in_ok-push_path.ensures.paths
          ∙ (ap (λ before. before ++ line_paths line.now) c.loop-at.invariant.paths
          ∙ (flat_map_more (λ (one : Bor (List ℕ)). line_paths one.now) [] (take at lines) line
          ∙ ap (flat_map (λ (one : Bor (List ℕ)). line_paths one.now))
          (sym (take_more lines at line inside ∙ ap (λ (one : Bor (List ℕ)). take at lines ++ one ∷ []) (sym c.index.ensures)))));
    }

pub returns-clause-paths : goal.returns-clause-paths
returns-clause-paths c =
    let lines : List (Bor (List ℕ)) = c.in_ok-lines.lines.items in
    let end : take c.loop-at.at lines ≡ lines =
    ap (λ (n : ℕ). take n lines) (let same : c.loop-at.at
    ≡ length lines = omega (arith, c.loop-at-test.false, c.loop-at.auto.at-end, c.len-at-end.ensures) in same) ∙ take-length lines in
    record {
      lines = subst (All IsPathLine) c.in_ok-lines.ensures
          (All-map IsPathLine (λ (line : Bor (List ℕ)). line.now) lines
          (subst (All (λ (line : Bor (List ℕ)). IsPathLine line.now)) end c.loop-at.invariant.lines));
      each = c.loop-at.invariant.paths
          ∙ (ap (flat_map (λ (line : Bor (List ℕ)). line_paths line.now)) end
          ∙ (sym (flat_map-map line_paths (λ (line : Bor (List ℕ)). line.now) lines)
          ∙ ap (flat_map line_paths) c.in_ok-lines.ensures));
    }

pub returns-in_err-push_path-clause-refused : goal.returns-in_err-push_path-clause-refused
returns-in_err-push_path-clause-refused c =
    let bytes : List ℕ = c.args.bytes.now in
    let lines : List (Bor (List ℕ)) = c.in_ok-lines.lines.items in
    let at : ℕ = c.loop-at.at in
    let line : Bor (List ℕ) = c.index.result.now in
    let inside : at < length lines = omega (arith, c.loop-at-test.true, c.len-at-end.ensures) in
    let error : DumpError = c.in_err-push_path.field-0.0 in
    let e = err_from_is_err_and c.from_residual-in_err-push_path.result c.from_residual-in_err-push_path.ensures.1 in
    rw (e.1, e.2) (⊎_elim (λ (memory : error ≡ Memory). subst (IsPathListError bytes) (sym memory) tt)
    (λ (broken : (error ≡ Path (at + 1)) × (IsPathLine line.now → ⊥)).
    subst (IsPathListError bytes) (sym broken.0)
    (first_broken IsPathLine lines (list_lines bytes) at line c.in_ok-lines.ensures c.index.ensures inside c.loop-at.invariant.lines broken.1))
    c.in_err-push_path.ensures.refused)
