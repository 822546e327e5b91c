-- Two lists, place by place.
use Rattle.std.specs.Prelude.{List, [], ◌∷◌}

-- the lists are equally long, and the relation holds of the elements at each place
abbrev pub AreEach : {A B : Type 0} → (A → B → Type 0) → List A → List B → Type 0
AreEach R [] [] = Unit {0}
AreEach R (a ∷ xs) (b ∷ ys) = R a b × AreEach R xs ys
AreEach R _ _ = ⊥
