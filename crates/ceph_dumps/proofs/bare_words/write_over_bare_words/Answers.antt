use Rattle.std.proofs.Common.{◌≡◌, ◌∙◌, ◌<◌, ◌+◌, ◌-◌, ◌++◌, List, ℕ, ap, arith, drop, drop-set-lt, length, length-drop}
use Rattle.std.proofs.Common.{length-set, subst, take, take_all}
use Rattle.ceph_dumps.specs.DumpText.{IsWordless, over_byte, place_behind, word_left, written_over}
use Rattle.ceph_dumps.specs.declared.bare_words.Place.TheVariants.{Bare}
use Rattle.ceph_dumps.proofs.WordsOver.{over_turn, pass_over, rest_on}
use Rattle.ceph_dumps.proofs.bare_words.write_over_bare_words.Goals as goal

pub loop-at-preserved-then-looked-at : goal.loop-at-preserved-then-looked-at
loop-at-preserved-then-looked-at c =
    let l = c.loop-at in
    let old = c.args.text.now in
    let whole : List ℕ = written_over 0 Bare old in
    let inside : l.at < length l.text = omega (arith, c.loop-at-test.true) in
    let rest : take (length l.text - l.at) (drop l.at l.text) ≡ drop l.at l.text =
    take_all (length l.text - l.at) (drop l.at l.text) (omega (arith, length-drop l.at l.text)) in
    let wordless : IsWordless (drop l.at l.text) c.pass_over-count.result.0 =
    subst (λ (t : List ℕ). IsWordless t c.pass_over-count.result.0) rest c.pass_over-count.ensures.wordless in
    let behind : c.pass_over-count.result.1 ≡ place_behind l.place (take c.pass_over-count.result.0 (drop l.at l.text)) =
    c.pass_over-count.ensures.place ∙ ap (λ (t : List ℕ). place_behind l.place (take c.pass_over-count.result.0 t)) rest in
    let none : l.left ≡ 0 = c.if-left-eq0.true in
    let passed = pass_over old l.text whole l.at c.pass_over-count.result.0 l.place (omega (arith, inside)) wordless l.invariant.rest
    (subst (λ (n : ℕ). whole ≡ take l.at l.text ++ written_over n l.place (drop l.at old)) none l.invariant.written) in
    rw (none, behind) (record {
      written = passed.0;
      rest = passed.1;
      size = l.invariant.size;
      within = omega (arith, inside, wordless.within, length-drop l.at l.text);
    })

pub loop-at-preserved : goal.loop-at-preserved
loop-at-preserved c =
    let l = c.loop-at in
    let old = c.args.text.now in
    let whole : List ℕ = written_over 0 Bare old in
    let inside : l.at < length l.text = omega (arith, c.loop-at-test.true) in
    let is : c.word_left-coming.result ≡ word_left l.left l.place (drop l.at l.text) =
    c.word_left-coming.ensures
    ∙ ap (λ (t : List ℕ). word_left l.left l.place t) (take_all (length l.text - l.at) (drop l.at l.text) (omega (arith, length-drop l.at l.text))) in
    rw c.over_byte.ensures (record {
      written = over_turn old l.text whole l.at l.left l.place inside l.invariant.rest l.invariant.written
          c.word_left-coming.result is c.if-coming-eq0.false;
      rest = drop-set-lt (l.at + 1) l.text l.at _ (omega arith)
          ∙ rest_on old l.text whole l.at l.left l.place inside l.invariant.rest l.invariant.written;
      size = length-set l.text l.at _ ∙ l.invariant.size;
      within = omega (arith, inside, length-set l.text l.at (over_byte (c.word_left-coming.result - 1)));
    })
