use Rattle.std.proofs.Common.{◌≡◌, ◌∙◌, ◌<◌, ◌+◌, ◌++◌, ◌∷◌, ◌==◌, [], Bor, List, None, Option, Some, ℕ}
use Rattle.std.proofs.Common.{ap, append-nil, append_assoc, arith, drop, get_or, length, map, refl, rules, subst, sym, take, tests}
use Rattle.std.specs.List.{enumerate_from, fold}
use Rattle.std.specs.Iterator.{Yields}
use Rattle.std.proofs.lemmas.Iterator.{YieldsList}
use Rattle.std.proofs.lemmas.Iterator.Consumers.{YieldsList-at, YieldsList-end, YieldsList-from_enumerate, YieldsList-so_far, YieldsList-turn}
use Rattle.std.proofs.lemmas.Iterator.Splits.{YieldsList-from_slice_split}
use Rattle.std.proofs.lemmas.List.{drop_more, length-map, map-append, take-append-drop, take-map}
use Rattle.std.proofs.lemmas.List.FromFn.{get_or-enumerate_from, length-enumerate_from}
use Rattle.std.proofs.lemmas.List.Sums.{fold-append}
use Rattle.std.proofs.lemmas.Result.{err_from_is_err_and}
use Rattle.std.proofs.lemmas.Simd.{map-map}
use Rattle.ceph_dumps.specs.Listing.{IsBrokenListing, IsLineError, IsListedAs, IsListingError, line_below, name_after, value_lines}
use Rattle.ceph_dumps.specs.OneForOne.{AreOneForOne}
use Rattle.ceph_dumps.specs.OwnList.{list_lines}
use Rattle.ceph_dumps.specs.declared.dump_error.DumpError.{DumpError}
use Rattle.ceph_dumps.specs.declared.dump_error.DumpError.TheVariants.{Memory}
use Rattle.ceph_dumps.proofs.listing.read_listing.Goals as goal

value_more : (name : Option (List ℕ)) (lines : List (List ℕ)) (line : List ℕ)
    → value_lines name (lines ++ line ∷ []) ≡ value_lines name lines ++ line_below (fold name_after name lines) line
value_more name [] line = append-nil (line_below name line)
value_more name (first ∷ lines) line =
    ap (λ more. line_below name first ++ more) (value_more (name_after name first) lines line)
    ∙ sym (append_assoc (line_below name first) (value_lines (name_after name first) lines) (line_below (fold name_after (name_after name first) lines) line))

seconds : {X : Type 0} (n : ℕ) (xs : List X) → map (λ (p : ℕ × X). p.1) (enumerate_from n xs) ≡ xs
seconds n [] = refl
seconds n (x ∷ xs) = ap (λ more. x ∷ more) (seconds (n + 1) xs)

abbrev now : ℕ × Bor (List ℕ) → List ℕ
now at = at.1.now

abbrev both : ℕ × Bor (List ℕ) → ℕ × List ℕ
both at = (at.0, at.1.now)

abbrev second : ℕ × List ℕ → List ℕ
second at = at.1

this_turn : {S : Type 0} {steps : S → Option (ℕ × Bor (List ℕ)) → S → Type 0} {s : S} {all : List (ℕ × List ℕ)}
    (e : YieldsList steps (λ p. (p.0, p.1.now)) s all) (xs : List (ℕ × Bor (List ℕ))) (t : S) → Yields steps s xs t
    → (r : Option (ℕ × Bor (List ℕ))) (u : S) (x : ℕ × Bor (List ℕ)) → r ≡ Some x → steps t r u
    → (map both xs ≡ take (length xs) all) × (length xs < length all) × (both x ≡ get_or all (length xs) (both x))
this_turn e xs t y r u x is step =
    let turn = YieldsList-turn e xs t y r u x is step in
    (YieldsList-so_far e xs t y, turn.0, turn.1)

-- the lines so far, that of this turn, and those after it
turn_parts : (lines : List (List ℕ)) (yielded : List (ℕ × Bor (List ℕ))) (at : ℕ × List ℕ)
    → map both yielded ≡ take (length yielded) (enumerate_from 0 lines) → length yielded < length (enumerate_from 0 lines)
    → at ≡ get_or (enumerate_from 0 lines) (length yielded) at
    → (lines ≡ map now yielded ++ at.1 ∷ drop (length yielded + 1) lines) × (at.0 ≡ length yielded)
turn_parts lines yielded at so_far inside turn =
    let n : ℕ = length yielded in
    let few : n < length lines = omega (arith, inside, length-enumerate_from 0 lines) in
    let here : at ≡ (0 + n, get_or lines n at.1) = turn ∙ get_or-enumerate_from 0 lines n at few in
    let number : at.0 ≡ 0 + n = ap (λ (p : ℕ × List ℕ). p.0) here in
    let line : at.1 ≡ get_or lines n at.1 = ap second here in
    let front : map now yielded ≡ take n lines =
    sym (map-map second both yielded) ∙ (ap (map second) so_far ∙ (sym (take-map second n (enumerate_from 0 lines)) ∙ ap (take n) (seconds 0 lines))) in (
      sym (take-append-drop n lines)
          ∙ (ap (λ (rest : List (List ℕ)). take n lines ++ rest) (drop_more lines n at.1 few ∙ ap (λ (one : List ℕ). one ∷ drop (n + 1) lines) (sym line))
          ∙ ap (λ (before : List (List ℕ)). before ++ at.1 ∷ drop (n + 1) lines) (sym front)),
      omega (arith, number),
    )

listing_error : (bytes : List ℕ) (error : DumpError) → IsBrokenListing bytes error → IsListingError bytes error
listing_error bytes Memory broken = tt
listing_error bytes other broken = broken

pub loop-at-preserved : goal.loop-at-preserved
loop-at-preserved c =
    let line : List ℕ = c.in-Some.line.now in
    let before : List (List ℕ) = map now c.loop-at.yielded in
    let name : Option (List ℕ) = fold name_after None before in
    let more : map now (c.loop-at.yielded ++ (c.in-Some.at, c.in-Some.line) ∷ []) ≡ before
    ++ line ∷ [] = map-append now c.loop-at.yielded ((c.in-Some.at, c.in-Some.line) ∷ []) in
    let above : fold name_after None (before ++ line ∷ []) ≡ name_after name line = fold-append name_after None before (line ∷ []) in
    record {
      name = c.in_ok-name.ensures.name
          ∙ (ap (λ (one : Option (List ℕ)). name_after one line) c.loop-at.invariant.name ∙ sym (ap (fold name_after None) more ∙ above));
      lines = subst (λ lines. AreOneForOne IsListedAs lines c.add_line.new.found.items) (sym (ap (value_lines None) more ∙ value_more None before line))
          (subst (λ (one : Option (List ℕ)). AreOneForOne IsListedAs (value_lines None before ++ line_below one line)
          c.add_line.new.found.items) c.loop-at.invariant.name
          (c.in_ok-name.ensures.lines (value_lines None before) c.loop-at.invariant.lines));
    }

pub returns-clause-values : goal.returns-clause-values
returns-clause-values c =
    let lines : List (List ℕ) = list_lines c.args.bytes.now in
    let end = YieldsList-end
    (YieldsList-at c.into_iter-at-iterator.ensures.into_iter_gives (YieldsList-from_enumerate
    (YieldsList-at c.enumerate-at-items.ensures.source
    (YieldsList-from_slice_split _ (λ byte. byte == 10) c.args.bytes.now c.split.ensures.rest c.split.ensures.done
    c.split.ensures.closure (λ x r q k. search (rules, tests))))
    c.enumerate-at-items.ensures.count))
    c.loop-at.yielded _ c.loop-at.yielded_by _ _ c.in-None.is c.next.ensures.steps in
    let all : map now c.loop-at.yielded ≡ lines =
    sym (map-map (λ (p : ℕ × List ℕ). p.1) both c.loop-at.yielded) ∙ (ap (map (λ (p : ℕ × List ℕ). p.1)) end.0 ∙ seconds 0 lines) in
    subst (λ (those : List (List ℕ)). AreOneForOne IsListedAs (value_lines None those) c.loop-at.found.items) all c.loop-at.invariant.lines

pub returns-in_err-name-clause-refused : goal.returns-in_err-name-clause-refused
returns-in_err-name-clause-refused c =
    let lines : List (List ℕ) = list_lines c.args.bytes.now in
    let yielded : List (ℕ × Bor (List ℕ)) = c.loop-at.yielded in
    let at : ℕ = c.in-Some.at in
    let line : List ℕ = c.in-Some.line.now in
    let before : List (List ℕ) = map now yielded in
    let name : Option (List ℕ) = fold name_after None before in
    let error : DumpError = c.in_err-name.field-0.0 in
    let turn = this_turn
    (YieldsList-at c.into_iter-at-iterator.ensures.into_iter_gives (YieldsList-from_enumerate
    (YieldsList-at c.enumerate-at-items.ensures.source
    (YieldsList-from_slice_split _ (λ byte. byte == 10) c.args.bytes.now c.split.ensures.rest c.split.ensures.done
    c.split.ensures.closure (λ x r q k. search (rules, tests))))
    c.enumerate-at-items.ensures.count))
    c.loop-at.yielded _ c.loop-at.yielded_by _ _ (c.in-Some.at, c.in-Some.line) c.in-Some.is c.next.ensures.steps in
    let parts = turn_parts lines yielded (at, line) turn.0 turn.1 turn.2 in
    let number : at + 1 ≡ length before + 1 = omega (arith, parts.1, length-map yielded now) in
    let e = err_from_is_err_and c.from_residual.result c.from_residual.ensures.1 in
    rw (e.1, e.2) (listing_error c.args.bytes.now error (record {
      before = before;
      line = line;
      behind = drop (length yielded + 1) lines;
      whole = parts.0;
      found = c.loop-at.found.items;
      fine = c.loop-at.invariant.lines;
      said = c.in_err-name.ensures.said;
      why = subst (λ (k : ℕ). IsLineError (name, line) k error) number
          (subst (λ (above : Option (List ℕ)). IsLineError (above, line) (at + 1) error) c.loop-at.invariant.name c.in_err-name.ensures.refused);
    }))
