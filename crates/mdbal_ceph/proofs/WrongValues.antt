-- Which value is the first that is wrong.
use Rattle.std.proofs.Common.{◌≡◌, ◌≢◌, ◌∙◌, ◌-◌, ◌++◌, ◌∷◌, ℕ, Bor, List, [], All, Option, Some, None, ap, append_assoc, arith}
use Rattle.std.proofs.Common.{get_or, length, map, refl, slice_index_or, subst, sym}
use Rattle.std.specs.Prelude.{IfSome}
use Rattle.std.specs.Option.{unwrap_or}
use Rattle.std.proofs.Math.Seq.{get_or-append_seam}
use Rattle.std.proofs.lemmas.List.{length_push, map-append}
use Rattle.std.proofs.lemmas.List.Elements.{All-append}
use Rattle.clap.specs.Words.{Row, first_of}
use Rattle.mdbal_ceph.specs.Options.{value_or}
use Rattle.mdbal_ceph.specs.WrongValues.{IsFirstWrong, IsGivenWrong, IsRight, IsWrong, Takes, option_name}
use Rattle.mdbal_ceph.specs.declared.wrong_value.ValueOption.{ValueOption}
use Rattle.mdbal_ceph.specs.declared.wrong_value.WrongValue.{WrongValue}
use Rattle.mdbal_ceph.specs.declared.wrong_value.WrongValue.TheVariants.{Of}

-- a value that isn't taken is there
some_wrong : (P : List ℕ → Type 0) (o : Option (List ℕ)) → (IfSome o P → ⊥) → (value : List ℕ) × (o ≡ Some value) × (P value → ⊥)
some_wrong P None bad = absurd (bad tt)
some_wrong P (Some value) bad = (value, refl, bad)

-- it isn't the one that stands for one that isn't there, where that is taken
other_wrong : (P : List ℕ → Type 0) (o : Option (List ℕ)) (other : List ℕ) → P other → (P (unwrap_or o other) → ⊥) → IfSome o P → ⊥
other_wrong P None other good bad = λ _. bad good
other_wrong P (Some value) other good bad = bad

other_right : (P : List ℕ → Type 0) (o : Option (List ℕ)) (other : List ℕ) → P (unwrap_or o other) → IfSome o P
other_right P None other good = tt
other_right P (Some value) other good = good

-- an option's value, if it has one
pub given_if : (rows : List Row) (option : ValueOption) (o : Option (List ℕ)) → o ≡ first_of (option_name option) rows
    → (IfSome o (Takes option) → ⊥) → IsGivenWrong rows option
given_if rows option o is bad =
    let found = some_wrong (Takes option) o bad in
    record { value = found.0; given = sym is ∙ found.1; wrong = found.2 }

-- and this text where it has none
pub given_or : (rows : List Row) (option : ValueOption) (other text : List ℕ) → text ≡ value_or rows (option_name option) other
    → Takes option other → (Takes option text → ⊥) → IsGivenWrong rows option
given_or rows option other text is good bad =
    given_if rows option (first_of (option_name option) rows) refl
    (other_wrong (Takes option) (first_of (option_name option) rows) other good (λ taken. bad (subst (Takes option) (sym is) taken)))

pub right_or : (rows : List Row) (option : ValueOption) (other text : List ℕ) → text ≡ value_or rows (option_name option) other
    → Takes option text → IsRight rows (Of option)
right_or rows option other text is good =
    other_right (Takes option) (first_of (option_name option) rows) other (subst (Takes option) is good)

-- it is the first, where those before it are right
pub first_at : (rows : List Row) (before : List WrongValue) (one wrong : WrongValue) (after : List WrongValue)
    → wrong ≡ one → All (IsRight rows) before → IsWrong rows one → IsFirstWrong rows (before ++ one ∷ after) wrong
first_at rows before one wrong after is right bad =
    subst (IsFirstWrong rows (before ++ one ∷ after)) (sym is)
    (record { is = bad; before = before; after = after; order_is = refl; right = right })

-- and so is the first of some, where those before them are right
pub first_in : (rows : List Row) (before some after : List WrongValue) (wrong : WrongValue)
    → All (IsRight rows) before → IsFirstWrong rows some wrong → IsFirstWrong rows (before ++ (some ++ after)) wrong
first_in rows before some after wrong right first =
    record {
      is = first.is;
      before = before ++ first.before;
      after = first.after ++ after;
      order_is =
          ap (λ (those : List WrongValue). before ++ (those ++ after)) first.order_is
          ∙ ap (λ (those : List WrongValue). before ++ those) (append_assoc first.before (wrong ∷ first.after) after)
          ∙ sym (append_assoc before first.before (wrong ∷ first.after ++ after));
      right = All-append (IsRight rows) before first.before right first.right;
    }

-- the last of some folders, and those before it
pub folders_split : (named : List (List ℕ)) (all earlier : List (Bor (List ℕ))) (last : Bor (List ℕ)) → map (λ text. text.now) all ≡ named
    → all ≡ earlier ++ last ∷ [] → named ≡ map (λ text. text.now) earlier ++ last.now ∷ []
folders_split named all earlier last same is =
    sym same ∙ (ap (map (λ (text : Bor (List ℕ)). text.now)) is ∙ map-append (λ (text : Bor (List ℕ)). text.now) earlier (last ∷ []))

pub last_named : (named earlier : List (List ℕ)) (last : List ℕ) → named ≡ earlier ++ last ∷ []
    → slice_index_or named (length named - 1) [] ≡ last
last_named named earlier last is =
    let count : length (earlier ++ last ∷ []) - 1 ≡ length earlier = omega (arith, length_push earlier last) in
    rw is (ap (λ (n : ℕ). get_or (earlier ++ last ∷ []) n []) count ∙ get_or-append_seam earlier last [] [])

pub some_named : (named earlier : List (List ℕ)) (last : List ℕ) → named ≡ earlier ++ last ∷ [] → named ≢ []
some_named named earlier last is none =
    let count : length (earlier ++ last ∷ []) ≡ 0 = ap length (sym is ∙ none) in
    omega (arith, count, length_push earlier last)
