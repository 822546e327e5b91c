use Rattle.std.proofs.Common.{◌≡◌, ◌<◌, ◌≤◌, ◌∙◌, ℕ, List, Option, Bool, true, false, refl, ap, sym, arith, length, length-set, get_or, inl, inr}
use Rattle.std.proofs.lemmas.Bool.{cases_lt, false≢true}
use Rattle.dirtree.specs.Tree.{Entry, IsTree, parent_of}
use Rattle.tree_parts.specs.Parts.{Marks, is_top, top_of}
use Rattle.tree_parts.proofs.Passes.{above_more, read, set_more, top_of-other, top_of-top}
use Rattle.tree_parts.proofs.division.nearest_tops.Goals as goal
use Rattle.tree_parts.proofs.division.nearest_tops.Goals.{then-is_top-number, else-is_top-number}

-- the top that is written for n, by the mark of n and the top of its parent
record IsFound (es : List (Option Entry)) (marks : List Bool) (found : List ℕ) (n v : ℕ) : Type 0 where
  low : v ≤ n
  nearest : (tops : List ℕ) → Marks marks tops → ((d : ℕ) → d < n → get_or found d 0 ≡ top_of es tops d) → v ≡ top_of es tops n

found_top : (es : List (Option Entry)) (marks : List Bool) (found : List ℕ) (n v : ℕ) → n < length marks → get_or marks n false ≡ true
    → v ≡ n → IsFound es marks found n v
found_top es marks found n v inside marked is = record {
  low = omega (arith, is);
  nearest = λ tops marks_tops before. is ∙ sym (top_of-top es tops n (sym (marks_tops n inside) ∙ marked));
}

parent_low : (n p : ℕ) → (0 < n → p < n) → (n ≡ 0 → p ≡ 0) → p ≤ n
parent_low n p above root = elim (cases_lt 0 n) [
  | inl some ↦ omega (arith, above some)
  | inr none ↦ omega (arith, root (omega arith))
]

found_above : (es : List (Option Entry)) (marks : List Bool) (found : List ℕ) (n v p : ℕ) → IsTree es → n < length marks
    → get_or marks n false ≡ false → p ≡ parent_of es n → (0 < n → p < n) → p ≤ n → ((d : ℕ) → get_or found d 0 ≤ d) → v ≡ get_or found p 0
    → IsFound es marks found n v
found_above es marks found n v p tree inside unmarked parent above small lows is = record {
  low = omega (arith, is, lows p, small);
  nearest = λ tops marks_tops before. elim (cases_lt 0 n) [
    | inl some ↦ is ∙ before p (above some) ∙ ap (top_of es tops) parent ∙ sym (top_of-other es tops n tree (sym (marks_tops n inside) ∙ unmarked))
    | inr none ↦
        let zero_ : n ≡ 0 = omega arith in
        let top : is_top tops n ≡ true = ap (is_top tops) zero_ in
        absurd (false≢true (sym unmarked ∙ marks_tops n inside ∙ top))
  ];
}

pub loop-number-preserved : goal.loop-number-preserved
loop-number-preserved c =
    let es : List (Option Entry) = c.args.tree.now.entries in
    let marks : List Bool = c.args.is_top.now in
    let n : ℕ = c.loop-number.number in
    let found : List ℕ = c.loop-number.found.items in
    let inside : n < length es = omega (arith, c.loop-number-test.true, c.numbers-number-end.ensures.value) in
    let marked : n < length marks = omega (arith, inside, c.requires) in
    let within : n < length found = omega (arith, inside, c.loop-number.invariant.size) in
    let parent : c.parent.result ≡ parent_of es n = c.parent.ensures.value ∙ rw c.new-dir.ensures refl in
    let above : 0 < n → c.parent.result < n =
    λ some. (let less : c.parent.result < c.new-dir.result = c.parent.ensures.above (rw c.new-dir.ensures some) in
    omega (arith, less, c.new-dir.ensures)) in
    let low : c.parent.result ≤ n = parent_low n c.parent.result above (λ none. c.parent.ensures.root (c.new-dir.ensures ∙ none)) in
    let seen : c.index-above.result.now ≡ get_or found c.parent.result 0 =
    read found c.number.result c.index-above.result.now 0 (omega (arith, c.number.ensures, low, within)) c.index-above.ensures
    ∙ ap (λ k. get_or found k 0) c.number.ensures in
    let is : IsFound es marks found n c.if-is_top-number.nearest = elim c.if-is_top-number.branch [
      | then-is_top-number w ↦ found_top es marks found n c.if-is_top-number.nearest marked w.if-is_top-number.true (w.nearest-is ∙ c.new-dir.ensures)
      | else-is_top-number w ↦ found_above es marks found n c.if-is_top-number.nearest c.parent.result c.numbers-number-end.ensures.tree
          marked w.if-is_top-number.false parent above low c.loop-number.invariant.above (w.nearest-is ∙ seen)
    ] in
    record {
      size = simp length-set c.loop-number.invariant.size;
      above = above_more found n c.if-is_top-number.nearest within is.low c.loop-number.invariant.above;
      nearest = λ tops marks_tops. set_more found 0 (top_of es tops) n c.if-is_top-number.nearest within
          (is.nearest tops marks_tops (c.loop-number.invariant.nearest tops marks_tops)) (c.loop-number.invariant.nearest tops marks_tops);
    }
