-- A line can be read in one way only, whatever comes after it.
use Rattle.std.proofs.Common.{◌≡◌, ◌∙◌, ℕ, suc, ◌<◌, ◌≤◌, ◌^◌, Bool, true, false, List, [], ◌∷◌, ◌++◌, drop, get_or, refl, ap, sym, subst, arith, append_assoc}
use Rattle.std.specs.Prelude.{⊤, nat_lt, decimal, ℤ, pos, negsuc}
use Rattle.std.specs.Int.Signed.{mag}
use Rattle.std.specs.Char.{digit_value}
use Rattle.std.specs.Fmt.{digits, signed_decimal}
use Rattle.std.specs.List.{list_all}
use Rattle.std.specs.Str.Parse.{AllDigits}
use Rattle.std.proofs.lemmas.Bool.{and_from, and_parts}
use Rattle.std.proofs.lemmas.Bool.Decides.{nat_tests}
use Rattle.std.proofs.lemmas.Fmt.{digits_is_IsNumeral}
use Rattle.plan_text.specs.Text.{behind, line}

-- a byte that neither a blank nor a newline is
abbrev pub is_inside : ℕ → Bool
is_inside c = nat_lt 32 c

abbrev pub IsField : List ℕ → Type 0
IsField field = list_all is_inside field ≡ true

abbrev pub AreFields : List (List ℕ) → Type 0
AreFields [] = ⊤
AreFields (field ∷ fields) = IsField field × AreFields fields

-- a blank or a newline comes first
abbrev pub Parts : List ℕ → Type 0
Parts [] = ⊥
Parts (c ∷ text) = c ≤ 32

pub differ : (m n : ℕ) → m < n → m ≡ n → ⊥
differ m n less same = omega arith

inside_above : (c : ℕ) → is_inside c ≡ true → 32 < c
inside_above c h = grind (arith, nat_tests)

not_inside : (c : ℕ) (field text : List ℕ) → IsField (c ∷ field) → Parts (c ∷ text) → ⊥
not_inside c field text f p = let above : 32 < c = inside_above c (and_parts (is_inside c) (list_all is_inside field) f).0 in omega (arith, above, p)

parted_ends : (c : ℕ) (field text more : List ℕ) → IsField (c ∷ field) → Parts more → more ≡ c ∷ text → ⊥
parted_ends c field text more f p h = not_inside c field text f (subst Parts h p)

pub field_same : (x y t u : List ℕ) → IsField x → IsField y → Parts t → Parts u → x ++ t ≡ y ++ u → (x ≡ y) × (t ≡ u)
field_same [] [] t u f g p q h = (refl, h)
field_same [] (c ∷ y) t u f g p q h = absurd (parted_ends c y (y ++ u) t g p h)
field_same (c ∷ x) [] t u f g p q h = absurd (parted_ends c x (x ++ t) u f q (sym h))
field_same (c ∷ x) (d ∷ y) t u f g p q h =
    let rest : x ++ t ≡ y ++ u = ap (drop 1) h in
    let first : c ≡ d = cc in
    let more = field_same x y t u (and_parts (is_inside c) (list_all is_inside x) f).1 (and_parts (is_inside d) (list_all is_inside y) g).1 p q rest in
    (cc (first, more.0), more.1)

behind_parts : (fields : List (List ℕ)) (r : List ℕ) → Parts (behind fields ++ r)
behind_parts [] r = omega arith
behind_parts (field ∷ fields) r = omega arith

behind_same : (xs ys : List (List ℕ)) (r s : List ℕ) → AreFields xs → AreFields ys → behind xs ++ r ≡ behind ys ++ s → (xs ≡ ys) × (r ≡ s)
behind_same [] [] r s f g h = (refl, ap (drop 1) h)
behind_same [] (y ∷ ys) r s f g h = absurd (differ 10 32 (omega arith) (ap (λ (t : List ℕ). get_or t 0 0) h))
behind_same (x ∷ xs) [] r s f g h = absurd (differ 10 32 (omega arith) (sym (ap (λ (t : List ℕ). get_or t 0 0) h)))
behind_same (x ∷ xs) (y ∷ ys) r s f g h =
    let rest : (x ++ behind xs) ++ r ≡ (y ++ behind ys) ++ s = ap (drop 1) h in
    let one = field_same x y (behind xs ++ r) (behind ys ++ s) f.0 g.0 (behind_parts xs r) (behind_parts ys s)
    (sym (append_assoc x (behind xs) r) ∙ (rest ∙ append_assoc y (behind ys) s)) in
    let more = behind_same xs ys r s f.1 g.1 one.1 in
    (cc (one.0, more.0), more.1)

-- its word, its other fields, and what comes after it
pub line_same : (w v : List ℕ) (xs ys : List (List ℕ)) (r s : List ℕ) → IsField w → IsField v → AreFields xs → AreFields ys
    → line w xs ++ r ≡ line v ys ++ s → (w ≡ v) × (xs ≡ ys) × (r ≡ s)
line_same w v xs ys r s fw fv fx fy h =
    let one = field_same w v (behind xs ++ r) (behind ys ++ s) fw fv (behind_parts xs r) (behind_parts ys s)
    (sym (append_assoc w (behind xs) r) ∙ (h ∙ append_assoc v (behind ys) s)) in
    let more = behind_same xs ys r s fx fy one.1 in
    (one.0, more.0, more.1)

digit_inside : (c : ℕ) → digit_value c < 16 → is_inside c ≡ true
digit_inside c h = grind (arith, nat_tests)

digits_inside : (base : ℕ) (ds : List ℕ) → base ≤ 16 → AllDigits base ds → IsField ds
digits_inside base [] low all = refl
digits_inside base (c ∷ ds) low all = let small : digit_value c < 16 = omega (arith, all.0) in
    and_from (is_inside c) (list_all is_inside ds) (digit_inside c small) (digits_inside base ds low all.1)

pub decimal_field : (n : ℕ) → n < 2 ^ 64 → IsField (decimal n)
decimal_field n h = digits_inside 10 (decimal n) (omega arith) (digits_is_IsNumeral 10 false (omega arith) (omega arith) n (omega arith)).0.1

pub hex_field : (n : ℕ) → n < 2 ^ 64 → IsField (digits 16 false n)
hex_field n h = digits_inside 16 (digits 16 false n) (omega arith) (digits_is_IsNumeral 16 false (omega arith) (omega arith) n (omega arith)).0.1

pub signed_field : (z : ℤ) → mag z < 2 ^ 63 → IsField (signed_decimal z)
signed_field (pos n) h = decimal_field n (omega arith)
signed_field (negsuc n) h = decimal_field (suc n) (omega arith)
