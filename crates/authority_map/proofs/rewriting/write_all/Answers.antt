use Rattle.std.proofs.Common.{◌≡◌, ◌+◌, ◌<◌, ◌==◌, ◌||◌, ℕ, Bool, true, false, List, []}
use Rattle.std.proofs.Common.{◌∷◌, drop, length, get_or, if◌then◌else◌, refl, sym, ap, ◌∙◌, arith, subst}
use Rattle.std.proofs.lemmas.List.{drop_more, drop_all, get_or_read}
use Rattle.std.proofs.lemmas.Bool.Decides.{nat_tests}
use Rattle.authority_map.specs.Operations.{names}
use Rattle.authority_map.specs.Runs.{Hold}
use Rattle.authority_map.specs.declared.runs.Runs.{Runs}
use Rattle.authority_map.proofs.RunLemmas.{few_runs, same_cells}
use Rattle.authority_map.proofs.rewriting.write_all.Invariants.{IsWritten}
use Rattle.authority_map.proofs.rewriting.write_all.Goals as goal

either_way : (b c : Bool) (x y : ℕ) → (if c then x else (if b then x else y)) ≡ (if (b || c) then x else y)
either_way true true x y = refl
either_way true false x y = refl
either_way false true x y = refl
either_way false false x y = refl

turned : (d e : ℕ) → (d == e) ≡ (e == d)
turned d e = grind (arith, nat_tests)

-- the first of those that are left is written
next_written : (limit : ℕ) (runs new : Runs) (dirs left : List ℕ) (dir cell : ℕ) (old : ℕ → ℕ) → IsWritten limit runs dirs (dir ∷ left) cell old
    → ((now : ℕ → ℕ) → Hold limit runs now 0 0 → Hold limit new (λ d. if d == dir then cell else now d) 0 0) → IsWritten limit new dirs left cell old
next_written limit runs new dirs left dir cell old was writes = record {
  now = λ d. if d == dir then cell else was.now d;
  has = writes was.now was.has;
  rest = λ d. ap (λ (b : Bool). (if names left d then cell else (if b then cell else was.now d))) (turned d dir)
      ∙ either_way (dir == d) (names left d) cell (was.now d) ∙ was.rest d;
}

pub loop-dir-preserved : goal.loop-dir-preserved
loop-dir-preserved c =
    let dirs = c.args.dirs.now in
    let i = c.loop-dir.dir-index in
    let here : i < length dirs = c.loop-dir-test.true in
    let at : c.number.result ≡ get_or dirs i 0 = c.number.ensures ∙ get_or_read dirs i c.dir-item.result here c.dir-item.is 0 in
    let cut : drop i dirs ≡ c.number.result ∷ drop (i + 1) dirs = drop_more dirs i 0 here ∙ ap (λ (d : ℕ). d ∷ drop (i + 1) dirs) (sym at) in
    record {
      table = c.write.ensures.table;
      cells = λ old has. next_written c.args.limit c.loop-dir.runs c.write.new.runs dirs (drop (i + 1) dirs) c.number.result c.args.cell old
          (subst (λ (l : List ℕ). IsWritten c.args.limit c.loop-dir.runs dirs l c.args.cell old) cut (c.loop-dir.invariant.cells old has))
          c.write.ensures.cells;
    }

pub returns-clause-cells : goal.returns-clause-cells
returns-clause-cells c old has =
    let dirs = c.args.dirs.now in
    let none : drop c.loop-dir.dir-index dirs ≡ [] = drop_all c.loop-dir.dir-index dirs c.loop-dir-test.false in
    let done = subst (λ (l : List ℕ). IsWritten c.args.limit c.loop-dir.runs dirs l c.args.cell old) none (c.loop-dir.invariant.cells old has) in
    same_cells c.args.limit c.loop-dir.runs.starts.items c.loop-dir.runs.cells.items done.now
    (λ d. if names dirs d then c.args.cell else old d) 0 0 done.has done.rest

pub index_again-requires-clause-few : goal.index_again-requires-clause-few
index_again-requires-clause-few c =
    rw c.deref-then-is_rising.ensures.value
    (few_runs c.args.limit c.make_anew.new.made.starts.items c.make_anew.new.made.cells.items c.make_anew.ensures.made.shape)
