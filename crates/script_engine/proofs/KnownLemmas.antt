-- Writes, one after another, the last of which may fail.
use denote.Ref.{Bor}
use Rattle.std.proofs.Common.{◌≡◌, ℕ, ◌+◌, ◌-◌, ◌<◌, ◌≤◌, List, [], ◌∷◌, ◌++◌, codes, flat_map}
use Rattle.std.proofs.Common.{get_or, length, take, drop, Option, sym, ap, ◌∙◌, subst, append-nil, append_assoc, arith}
use Rattle.std.proofs.lemmas.List.{take-append-drop, take_more}
use Rattle.std.proofs.lemmas.List.Concat.{flat_map-append}
use Rattle.std.specs.Io.KnownBytes.{Appends}
use Rattle.std.proofs.KnownBytes.{Appends-trans}
use Rattle.std.proofs.lemmas.Grind.{common_steps}
use Rattle.script_engine.specs.Known.{AppendsFront}

pub front_more : (bytes front rest : List ℕ) (n m : ℕ) → n ≤ length rest → m ≡ length rest - n → bytes ≡ front ++ rest
    → bytes ≡ (front ++ take n rest) ++ take m (drop n rest)
front_more bytes front rest n m within is e = grind (arith, common_steps)

-- a text that was written, and a beginning of the next
pub front_after : (old mid new : Option (List ℕ)) (a b : List ℕ) → Appends old mid a → AppendsFront mid new b → AppendsFront old new (a ++ b)
front_after old mid new a b whole part = (
  a ++ part.0,
  part.1,
  ap (λ (t : List ℕ). a ++ t) part.2 ∙ sym (append_assoc a part.0 part.1),
  Appends-trans old mid new a part.0 whole part.3,
)

-- a beginning of a text begins each longer one
pub front_wider : (old new : Option (List ℕ)) (a b : List ℕ) → AppendsFront old new a → AppendsFront old new (a ++ b)
front_wider old new a b part = (part.0, part.1 ++ b, ap (λ (t : List ℕ). t ++ b) part.2 ∙ append_assoc part.0 part.1 b, part.3)

-- a beginning of a text, which is that of another where they are the same
pub front_same : (old new : Option (List ℕ)) (a b : List ℕ) → a ≡ b → AppendsFront old new a → AppendsFront old new b
front_same old new a b is part = subst (λ (t : List ℕ). AppendsFront old new t) is part

-- the texts of the pieces, one after another
abbrev pub whole_of : List (Bor (List ℕ)) → List ℕ
whole_of pieces = flat_map (λ piece. piece.now) pieces

-- one piece more
pub whole_more : (pieces : List (Bor (List ℕ))) (i : ℕ) (d : Bor (List ℕ)) → i < length pieces
    → whole_of (take (i + 1) pieces) ≡ whole_of (take i pieces) ++ (get_or pieces i d).now
whole_more pieces i d inside =
    ap whole_of (take_more pieces i d inside)
    ∙ (flat_map-append (λ (piece : Bor (List ℕ)). piece.now) (take i pieces) (get_or pieces i d ∷ [])
    ∙ ap (λ (t : List ℕ). whole_of (take i pieces) ++ t) (append-nil (get_or pieces i d).now))

-- a beginning of the first pieces begins them all
pub front_of_some : (old new : Option (List ℕ)) (pieces : List (Bor (List ℕ))) (i : ℕ) → AppendsFront old new (whole_of (take i pieces))
    → AppendsFront old new (whole_of pieces)
front_of_some old new pieces i part =
    front_same old new (whole_of (take i pieces) ++ whole_of (drop i pieces)) (whole_of pieces)
    (sym (flat_map-append (λ (piece : Bor (List ℕ)). piece.now) (take i pieces) (drop i pieces)) ∙ ap whole_of (take-append-drop i pieces))
    (front_wider old new (whole_of (take i pieces)) (whole_of (drop i pieces)) part)

-- of the first pieces a beginning was written, and the rest waits
abbrev pub Written : Option (List ℕ) → Option (List ℕ) → List ℕ → List ℕ → Type 0
Written old new bytes waiting = (front : List ℕ) × (bytes ≡ front ++ waiting) × Appends old new front

module _ (u m v : Option (List ℕ)) (pieces : List (Bor (List ℕ))) (i : ℕ) (d : Bor (List ℕ)) (inside : i < length pieces) (waiting : List ℕ)
    (before : Written u m (whole_of (take i pieces)) waiting) where
  so_far : before.0 ++ (waiting ++ (get_or pieces i d).now) ≡ whole_of (take (i + 1) pieces)
  so_far =
      sym (append_assoc before.0 waiting (get_or pieces i d).now)
      ∙ (ap (λ (t : List ℕ). t ++ (get_or pieces i d).now) (sym before.1) ∙ sym (whole_more pieces i d inside))

  pub one_written : (rest : List ℕ) → Written m v (waiting ++ (get_or pieces i d).now) rest → Written u v (whole_of (take (i + 1) pieces)) rest
  one_written rest added = (
    before.0 ++ added.0,
    sym so_far ∙ (ap (λ (t : List ℕ). before.0 ++ t) added.1 ∙ sym (append_assoc before.0 added.0 rest)),
    Appends-trans u m v before.0 added.0 before.2 added.2,
  )

  pub one_fails : AppendsFront m v (waiting ++ (get_or pieces i d).now) → AppendsFront u v (whole_of pieces)
  one_fails part =
      front_of_some u v pieces (i + 1)
      (front_same u v (before.0 ++ (waiting ++ (get_or pieces i d).now)) (whole_of (take (i + 1) pieces)) so_far
      (front_after u m v before.0 (waiting ++ (get_or pieces i d).now) before.2 part))

-- the pieces of a faulty line
pub fault_pieces : (digits number said why : List ℕ) → digits ≡ number → said ≡ why
    → codes "line " ++ (digits ++ (codes ": " ++ (said ++ (10 ∷ [])))) ≡ codes "line " ++ number ++ codes ": " ++ why ++ 10 ∷ []
fault_pieces digits number said why is_number is_why = grind (arith, common_steps)

-- the pieces of a refused one
pub refused_pieces : (digits number a b c name gap value : List ℕ) → digits ≡ number → a ≡ name → b ≡ gap → c ≡ value
    → codes "line " ++ (digits ++ (codes ": refused " ++ (a ++ (b ++ (c ++ (10 ∷ [])))))) ≡ codes "line " ++ number ++ codes ": "
    ++ (codes "refused " ++ (name ++ (gap ++ value))) ++ 10 ∷ []
refused_pieces digits number a b c name gap value is_number is_name is_gap is_value = grind (arith, common_steps)
