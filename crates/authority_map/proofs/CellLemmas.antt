-- The runs' cells follow the operations.
use Rattle.std.proofs.Common.{◌≡◌, ℕ, zero, suc, ◌+◌, ◌-◌, ◌*◌, ◌/◌, ◌<◌, ◌≤◌, ◌≢◌, Bool, true, false, ◌==◌, ◌||◌, if◌then◌else◌}
use Rattle.std.proofs.Common.{List, [], ◌∷◌, ◌++◌, length, get_or, replicate, refl, sym, ap, ◌∙◌, arith, Option, Some, None, All}
use Rattle.std.proofs.lemmas.List.{length-replicate, get_or-replicate}
use Rattle.std.proofs.lemmas.List.Sums.{fold-append}
use Rattle.std.proofs.lemmas.Bool.Decides.{nat_tests}
use Rattle.authority_map.specs.Operations.{Operation, SetTo, Clear, names, entry_after, rank_after}
use Rattle.authority_map.specs.Runs.{AreRuns, IsIn, IsIndex, Hold}
use Rattle.authority_map.specs.declared.runs.Runs.{Runs}
use Rattle.authority_map.specs.Cells.{AreCells, cell_of}
use Rattle.authority_map.proofs.RunLemmas.{same_cells}

pub rank_after-snoc : (xs : List Operation) (x : Operation) (dir : ℕ) → rank_after (xs ++ x ∷ []) dir ≡ entry_after dir (rank_after xs dir) x
unfolding rank_after
rank_after-snoc xs x dir = fold-append (entry_after dir) None xs (x ∷ [])

pub rank_after-none : (dir : ℕ) → rank_after [] dir ≡ None
unfolding rank_after
rank_after-none dir = refl

cell_of_if : (b : Bool) (rank : ℕ) (entry : Option ℕ) → cell_of (if b then Some rank else entry) ≡ (if b then rank + 1 else cell_of entry)
cell_of_if true rank entry = refl
cell_of_if false rank entry = refl

cell_of_clear : (b : Bool) (entry : Option ℕ) → cell_of (if b then None else entry) ≡ (if b then 0 else cell_of entry)
cell_of_clear true entry = refl
cell_of_clear false entry = refl

or_false : (b : Bool) → (b || false) ≡ b
or_false true = refl
or_false false = refl

differs : (d e : ℕ) → d ≢ e → (d == e) ≡ false
differs d e n = grind (arith, nat_tests)

-- a list doesn't name what differs from all that is in it
pub not_named : (dirs : List ℕ) (d : ℕ) → ((k : ℕ) → k < length dirs → get_or dirs k 0 ≢ d) → names dirs d ≡ false
not_named [] d h = refl
not_named (x ∷ xs) d h = rw (differs x d (h 0 (omega arith)), not_named xs d (λ k l. h (suc k) (omega arith))) refl

-- what one operation does to the cells
pub cell_set : (ops : List Operation) (dirs : List ℕ) (rank d : ℕ)
    → cell_of (rank_after (ops ++ SetTo dirs rank ∷ []) d) ≡ (if names dirs d then rank + 1 else cell_of (rank_after ops d))
cell_set ops dirs rank d = ap cell_of (rank_after-snoc ops (SetTo dirs rank) d) ∙ cell_of_if (names dirs d) rank (rank_after ops d)

pub cell_cleared : (ops : List Operation) (dir d : ℕ)
    → cell_of (rank_after (ops ++ Clear dir ∷ []) d) ≡ (if names (dir ∷ []) d then 0 else cell_of (rank_after ops d))
cell_cleared ops dir d =
    ap cell_of (rank_after-snoc ops (Clear dir) d) ∙ cell_of_clear (dir == d) (rank_after ops d)
    ∙ ap (λ (b : Bool). (if b then 0 else cell_of (rank_after ops d))) (sym (or_false (dir == d)))

no_cell : (entry : Option ℕ) → cell_of entry ≡ 0 → entry ≡ None
no_cell None e = refl
no_cell (Some rank) e = absurd (omega arith)

-- the cells after an operation that writes those of the listed directories
pub cells_written : (limit : ℕ) (runs : Runs) (dirs : List ℕ) (cell : ℕ) (ops after : List Operation) → All (λ d. d < limit) dirs
    → Hold limit runs (λ d. if names dirs d then cell else cell_of (rank_after ops d)) 0 0
    → ((d : ℕ) → cell_of (rank_after after d) ≡ (if names dirs d then cell else cell_of (rank_after ops d)))
    → ((d : ℕ) → limit ≤ d → rank_after ops d ≡ None) → AreCells limit runs after
cells_written limit runs dirs cell ops after below new step past = record {
  held = same_cells limit runs.starts.items runs.cells.items (λ d. if names dirs d then cell else cell_of (rank_after ops d))
      (λ d. cell_of (rank_after after d)) 0 0 new (λ d. sym (step d));
  past = λ d h. no_cell (rank_after after d)
      (step d ∙ ap (λ (b : Bool). (if b then cell else cell_of (rank_after ops d)))
      (not_named dirs d (λ k inside e. absurd (omega (arith, below k 0 inside, e, h)))) ∙ ap cell_of (past d h));
}

lone : (x k : ℕ) → get_or (x ∷ []) k x ≡ x
lone x zero = refl
lone x (suc k) = refl

-- one run without a rank
pub runs_none : (limit : ℕ) → 1 ≤ limit → AreRuns limit (0 ∷ []) (0 ∷ [])
runs_none limit some = record {
  order = record { some = omega arith; first = refl; rising = λ run h. absurd (omega arith) };
  sized = refl;
  below = λ run h. omega (arith, lone 0 run);
  small = λ run. omega (arith, lone 0 run);
}

pub index_none : (limit : ℕ) → IsIndex limit (0 ∷ []) (replicate (limit / 256 + 2) 0)
index_none limit = record {
  sized = length-replicate (limit / 256 + 2) 0;
  each = λ block h. first _ (256 * block)
      (get_or-replicate (limit / 256 + 2) block 0 0 (omega (arith, h, length-replicate {A = ℕ} (limit / 256 + 2) 0)));
}
  where
    first : (run dir : ℕ) → run ≡ 0 → IsIn (0 ∷ []) run dir
    first run dir none = rw none (record { there = omega arith; from = omega arith; until = λ h. absurd (omega arith) })

pub cells_none : (limit : ℕ) (runs : Runs) → runs.starts.items ≡ 0 ∷ [] → runs.cells.items ≡ 0 ∷ [] → AreCells limit runs []
cells_none limit runs starts cells = record {
  held = rw (starts, cells) (record { each = λ run d h i. lone 0 run ∙ sym (ap cell_of (rank_after-none d)); apart = λ run h a b. absurd (omega arith) });
  past = λ d h. rank_after-none d;
}

-- a cell with a rank in it
pub rank_is : (cell : ℕ) (entry : Option ℕ) → cell ≡ cell_of entry → cell ≢ 0 → Some (cell - 1) ≡ entry
rank_is cell None e n = absurd (n e)
rank_is cell (Some rank) e n = let p : cell - 1 ≡ rank = omega arith in ap (λ (k : ℕ). Some k) p

pub rank_none : (cell : ℕ) (entry : Option ℕ) → cell ≡ cell_of entry → cell ≡ 0 → None ≡ entry
rank_none cell None e n = refl
rank_none cell (Some rank) e n = absurd (omega arith)
