use Rattle.std.proofs.Common.{◌≡◌, ◌∙◌, ◌<◌, ◌++◌, ◌∷◌, [], All, Bor, ℕ, List, ap, arith, length, map, subst, sym, take}
use Rattle.std.specs.Str.Parse.{digits_value}
use Rattle.std.proofs.Math.Seq.{take-length}
use Rattle.std.proofs.lemmas.List.{get_or-map, length-map, map_more}
use Rattle.std.proofs.lemmas.Simd.{map-map}
use Rattle.std.proofs.lemmas.List.Elements.{All-get_or, All-map, All-more}
use Rattle.ceph_dumps.specs.HourRecord.{IsHeatText}
use Rattle.ceph_dumps.proofs.hour_record.read_spread.Goals as goal

pub loop-at-preserved : goal.loop-at-preserved
loop-at-preserved c =
    let words : List (Bor (List ℕ)) = c.in_ok-words.words.items in
    let at : ℕ = c.loop-at.at in
    let word : Bor (List ℕ) = c.index.result.now in
    let inside : at < length words = omega (arith, c.loop-at-test.true, c.len-at-end.ensures) in
    record {
      numbers = All-more (λ (one : Bor (List ℕ)). IsHeatText one.now) words at word inside c.loop-at.invariant.numbers
          (subst (λ (one : Bor (List ℕ)). IsHeatText one.now) c.index.ensures c.in-Some.ensures.0);
      heats = c.in_ok-push.ensures.items
          ∙ (ap (λ (before : List ℕ). before ++ c.in-Some.heat ∷ []) c.loop-at.invariant.heats
          ∙ (ap (λ (heat : ℕ). map (λ (one : Bor (List ℕ)). digits_value 10 one.now) (take at words) ++ heat ∷ [])
          (c.in-Some.ensures.1 ∙ ap (λ (one : Bor (List ℕ)). digits_value 10 one.now) c.index.ensures)
          ∙ sym (map_more (λ (one : Bor (List ℕ)). digits_value 10 one.now) words at word inside)));
    }

pub returns-in_default-clause-refused : goal.returns-in_default-clause-refused
returns-in_default-clause-refused c = λ number is. (
  cc,
  λ fine.
      let words : List (Bor (List ℕ)) = c.in_ok-words.words.items in
      let at : ℕ = c.loop-at.at in
      let inside : at < length words = omega (arith, c.loop-at-test.true, c.len-at-end.ensures) in
      let there : at < length (map (λ (one : Bor (List ℕ)). one.now) words) = omega (arith, inside, length-map words (λ (one : Bor (List ℕ)). one.now)) in
      let all : All IsHeatText (map (λ (one : Bor (List ℕ)). one.now) words) = subst (All IsHeatText) (sym c.in_ok-words.ensures) fine.numbers in
      c.in_default.ensures (subst IsHeatText (get_or-map (λ (one : Bor (List ℕ)). one.now) words at c.index.result.now [] inside
      ∙ ap (λ (one : Bor (List ℕ)). one.now) (sym c.index.ensures))
      (All-get_or IsHeatText (map (λ (one : Bor (List ℕ)). one.now) words) at [] there all)),
)

end : (words : List (Bor (List ℕ))) (at : ℕ) → at ≡ length words → take at words ≡ words
end words at is = ap (λ (n : ℕ). take n words) is ∙ take-length words

pub returns-clause-line : goal.returns-clause-line
returns-clause-line c =
    let words : List (Bor (List ℕ)) = c.in_ok-words.words.items in
    let all : take c.loop-at.at words ≡ words = end words c.loop-at.at (omega (arith, c.loop-at-test.false, c.loop-at.auto.at-end, c.len-at-end.ensures)) in
    record {
      ranks = sym (ap length c.in_ok-words.ensures)
          ∙ (length-map words (λ (one : Bor (List ℕ)). one.now)
          ∙ (let is : length words ≡ 64 = omega (arith, c.if-len-from.false, c.len.ensures, c.from.ensures) in is));
      numbers = subst (All IsHeatText) c.in_ok-words.ensures
          (All-map IsHeatText (λ (one : Bor (List ℕ)). one.now) words
          (subst (All (λ (one : Bor (List ℕ)). IsHeatText one.now)) all c.loop-at.invariant.numbers));
    }

pub returns-clause-heats : goal.returns-clause-heats
returns-clause-heats c =
    let words : List (Bor (List ℕ)) = c.in_ok-words.words.items in
    let all : take c.loop-at.at words ≡ words = end words c.loop-at.at (omega (arith, c.loop-at-test.false, c.loop-at.auto.at-end, c.len-at-end.ensures)) in
    c.loop-at.invariant.heats
    ∙ (ap (map (λ (one : Bor (List ℕ)). digits_value 10 one.now)) all
    ∙ (sym (map-map (digits_value 10) (λ (one : Bor (List ℕ)). one.now) words)
    ∙ ap (map (digits_value 10)) c.in_ok-words.ensures))
