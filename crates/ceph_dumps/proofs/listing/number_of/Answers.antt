use Rattle.std.proofs.Common.{◌≡◌, ◌==◌, ◌<◌, ◌∷◌, ℕ, zero, suc, false, true, List, [], arith, lit<, refl, subst, ⊎_elim}
use Rattle.std.proofs.lemmas.Bool.{cases_Bool, eqb-true}
use Rattle.std.proofs.lemmas.Fmt.{IsAscii-from_digits}
use Rattle.std.proofs.lemmas.Str.{IsUtf8-from_ascii}
use Rattle.std.specs.Str.{IsAscii}
use Rattle.std.specs.Str.Parse.{AllDigits, without_leading_plus}
use Rattle.ceph_dumps.proofs.listing.number_of.Goals as goal

behind_first : (c : ℕ) (cs : List ℕ) → c < 128 → IsAscii cs → IsAscii (c ∷ cs)
behind_first c cs small rest zero = small
behind_first c cs small rest (suc i) = rest i

-- digits are ASCII, and so is a plus before them
number_ascii : (text : List ℕ) → AllDigits 10 (without_leading_plus text) → IsAscii text
number_ascii [] digits = λ i. lit< tt
number_ascii (c ∷ cs) digits =
    ⊎_elim
    (λ (is : (c == 43) ≡ true).
    behind_first c cs (let plus : c ≡ 43 = eqb-true c 43 is in omega (arith, plus))
    (IsAscii-from_digits cs (let front : without_leading_plus (c ∷ cs) ≡ cs = rw is refl in subst (AllDigits 10) front digits)))
    (λ (is : (c == 43) ≡ false).
    IsAscii-from_digits (c ∷ cs) (let front : without_leading_plus (c ∷ cs) ≡ c ∷ cs = rw is refl in subst (AllDigits 10) front digits))
    (cases_Bool (c == 43))

pub returns-in_default : goal.returns-in_default
returns-in_default c = λ is. c.in_default.ensures.cases.0 (IsUtf8-from_ascii c.args.digits.now (number_ascii c.args.digits.now is.numeral.1))
