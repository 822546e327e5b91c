-- Which words a record has, and where a record ends.
use Rattle.std.proofs.Common.{◌≡◌, ◌∙◌, ◌++◌, ◌∷◌, ◌==◌, [], ℕ, false, List, ap, arith, drop, length, refl, sym, take}
use Rattle.std.proofs.Math.Seq.{drop-append_seam, take-append_seam}
use Rattle.std.proofs.lemmas.Bool.{eq-eqb, false≢true, or_parts}
use Rattle.std.proofs.lemmas.Bool.Decides.{nat_tests}
use Rattle.std.proofs.lemmas.Str.Parse.{digit_from_value}
use Rattle.std.specs.Str.Parse.{AllDigits}
use Rattle.ceph_dumps.specs.Inodes.{IsNumberAndName, has_nul, with_nul}
use Rattle.ceph_dumps.specs.OneForOne.{AreOneForOne}
use Rattle.ceph_dumps.specs.OwnList.{digit_count}

-- the digits of a record are those before its first blank
digits_end : (ds name : List ℕ) → AllDigits 10 ds → digit_count (ds ++ 32 ∷ name) ≡ length ds
digits_end [] name all = refl
digits_end (c ∷ cs) name all =
    let digit = digit_from_value c all.0 in
    let more = digits_end cs name all.1 in
    grind (arith, nat_tests, digit, more)

pub words_end : (text name : List ℕ) (number : ℕ) (is : IsNumberAndName text number name) → digit_count text ≡ length is.digits
words_end text name number is = ap digit_count is.whole ∙ digits_end is.digits name is.is.numeral.1

pub words_front : (text name : List ℕ) (number : ℕ) (is : IsNumberAndName text number name) → take (digit_count text) text ≡ is.digits
words_front text name number is =
    ap (λ (k : ℕ). take k text) (words_end text name number is)
    ∙ (ap (take (length is.digits)) is.whole ∙ take-append_seam is.digits (32 ∷ name))

pub words_behind : (text name : List ℕ) (number : ℕ) → IsNumberAndName text number name → drop (digit_count text) text ≡ 32 ∷ name
words_behind text name number is =
    ap (λ (k : ℕ). drop k text) (words_end text name number is)
    ∙ (ap (drop (length is.digits)) is.whole ∙ drop-append_seam is.digits (32 ∷ name))

pub same_name : (text name other : List ℕ) (number more : ℕ) → IsNumberAndName text number name → IsNumberAndName text more other → name ≡ other
same_name text name other number more one two =
    let is : 32 ∷ name ≡ 32 ∷ other = sym (words_behind text name number one) ∙ words_behind text other more two in
    cc

-- what comes before the first NUL
pub first_nul : (a b x y : List ℕ) → has_nul a ≡ false → has_nul b ≡ false → with_nul a ++ x ≡ with_nul b ++ y → a ≡ b
first_nul [] [] x y one two is = refl
first_nul [] (d ∷ b) x y one two is =
    let nul : d ≡ 0 = cc in
    absurd (false≢true (sym (or_parts (d == 0) (has_nul b) two).0 ∙ eq-eqb d 0 nul))
first_nul (c ∷ a) [] x y one two is =
    let nul : c ≡ 0 = cc in
    absurd (false≢true (sym (or_parts (c == 0) (has_nul a) one).0 ∙ eq-eqb c 0 nul))
first_nul (c ∷ a) (d ∷ b) x y one two is =
    let head : c ≡ d = cc in
    let tail : with_nul a ++ x ≡ with_nul b ++ y = cc in
    let rest : a ≡ b = first_nul a b x y (or_parts (c == 0) (has_nul a) one).1 (or_parts (d == 0) (has_nul b) two).1 tail in
    cc

-- one more of each
pub one_more : {A B : Type 0} (R : A → B → Type 0) (xs : List A) (ys : List B) (x : A) (y : B) → AreOneForOne R xs ys → R x y
    → AreOneForOne R (xs ++ x ∷ []) (ys ++ y ∷ [])
one_more R [] [] x y so here = (here, tt)
one_more R [] (v ∷ ys) x y so here = absurd so
one_more R (u ∷ xs) [] x y so here = absurd so
one_more R (u ∷ xs) (v ∷ ys) x y so here = (so.0, one_more R xs ys x y so.1 here)
