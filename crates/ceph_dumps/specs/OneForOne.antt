-- Two lists of which each has what the other has, one for one.
use Rattle.std.specs.Prelude.{⊤, List, [], ◌∷◌}

abbrev pub AreOneForOne : {A B : Type 0} → (A → B → Type 0) → List A → List B → Type 0
AreOneForOne R [] [] = ⊤
AreOneForOne R [] (y ∷ ys) = ⊥
AreOneForOne R (x ∷ xs) [] = ⊥
AreOneForOne R (x ∷ xs) (y ∷ ys) = R x y × AreOneForOne R xs ys
