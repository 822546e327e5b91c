-- A line that is written piece by piece.
use Rattle.std.proofs.Common.{◌≡◌, ◌∙◌, ℕ, ◌-◌, List, ◌++◌, length, take, drop, ap, append_assoc, take-append-drop}
use Rattle.std.specs.Prelude.{Option, Some, None}
use Rattle.std.specs.Io.KnownBytes.{Appends, Keeps}
use Rattle.std.proofs.lemmas.List.{take_rest}

appends_more : (a b c : Option (List ℕ)) (xs ys : List ℕ) → Appends a b xs → Appends b c ys → Appends a c (xs ++ ys)
appends_more None b c xs ys h k = tt
appends_more (Some xa) (Some xb) (Some xc) xs ys h k = k ∙ (ap (λ (t : List ℕ). t ++ ys) h ∙ append_assoc xa xs ys)
appends_more (Some xa) (Some xb) None xs ys h k = k
appends_more (Some xa) None c xs ys h k = absurd h

pub kept : (a b c : Option (List ℕ)) (xs : List ℕ) → Appends a b xs → Keeps b c → Appends a c xs
kept None b c xs h k = tt
kept (Some xa) (Some xb) (Some xc) xs h k = k ∙ h
kept (Some xa) (Some xb) None xs h k = k
kept (Some xa) None c xs h k = absurd h

-- what is left of a line, and what was written of it
abbrev pub IsLeft : Option (List ℕ) → Option (List ℕ) → List ℕ → List ℕ → Type 0
IsLeft old new line rest = (front : List ℕ) × (front ++ rest ≡ line) × Appends old new front

pub one_piece : (a b c : Option (List ℕ)) (line rest more : List ℕ) (n : ℕ) → IsLeft a b line rest → Appends b c (take n rest)
    → more ≡ take (length rest - n) (drop n rest) → IsLeft a c line more
one_piece a b c line rest more n is grown left =
    let tail : more ≡ drop n rest = left ∙ take_rest rest n in (
      is.0 ++ take n rest,
      append_assoc is.0 (take n rest) more
          ∙ (ap (λ (t : List ℕ). is.0 ++ (take n rest ++ t)) tail ∙ (ap (λ (t : List ℕ). is.0 ++ t) (take-append-drop n rest) ∙ is.1)),
      appends_more a b c is.0 (take n rest) is.2 grown,
    )

pub no_piece : (a b c : Option (List ℕ)) (line rest more : List ℕ) → IsLeft a b line rest → Keeps b c → more ≡ rest → IsLeft a c line more
no_piece a b c line rest more is same left = (is.0, ap (λ (t : List ℕ). is.0 ++ t) left ∙ is.1, kept a b c is.0 is.2 same)
