-- The first line that isn't what it has to be, by its place.
use Rattle.std.proofs.Common.{◌≡◌, ◌∙◌, ◌<◌, ◌+◌, ◌++◌, ◌∷◌, ℕ, All, Bor, List, ap, arith, drop, get_or, length, map, sym, take}
use Rattle.std.proofs.lemmas.List.{drop_more, length-map, length-take-le, map-append, take-append-drop}
use Rattle.std.proofs.lemmas.List.Elements.{All-map}
use Rattle.ceph_dumps.specs.FirstBroken.{IsFirstBroken}

abbrev text : Bor (List ℕ) → List ℕ
text line = line.now

module _ (Is : List ℕ → Type 0) (lines : List (Bor (List ℕ))) (texts : List (List ℕ)) where
  pub first_broken : (at : ℕ) (line : Bor (List ℕ)) → map (λ one. one.now) lines ≡ texts → line ≡ get_or lines at line → at < length lines
      → All (λ one. Is one.now) (take at lines) → (Is line.now → ⊥) → IsFirstBroken Is texts (at + 1)
  first_broken at line are is inside fine none =
      let parts : take at lines ++ line ∷ drop (at + 1) lines ≡ lines =
      ap (λ (rest : List (Bor (List ℕ))). take at lines ++ rest)
      (ap (λ (one : Bor (List ℕ)). one ∷ drop (at + 1) lines) is ∙ sym (drop_more lines at line inside))
      ∙ take-append-drop at lines in
      record {
        before = map text (take at lines);
        line = line.now;
        behind = map text (drop (at + 1) lines);
        whole = sym are ∙ (ap (map text) (sym parts) ∙ map-append text (take at lines) (line ∷ drop (at + 1) lines));
        counted = omega (arith, length-map (take at lines) text, length-take-le at lines (omega (arith, inside)));
        fine = All-map Is text (take at lines) fine;
        none = none;
      }
