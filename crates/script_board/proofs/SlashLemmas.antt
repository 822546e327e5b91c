-- The last slash of a path.
use Rattle.std.proofs.Common.{◌≡◌, ◌≢◌, ◌==◌, ℕ, suc, ◌<◌, List, [], ◌∷◌, ◌++◌, length, take, drop, get_or, Some, None, refl, sym, ap, ◌∙◌, arith, lit<}
use Rattle.std.proofs.lemmas.Bool.{ne_eqb}
use Rattle.std.proofs.lemmas.List.{take-append-drop}
use Rattle.std.proofs.lemmas.Str.Pattern.{NoCharPasses-char, drop_at_char}
use Rattle.std.specs.Str.{NoCharPasses}
use Rattle.std.specs.Str.Pattern.{RFindsChar}
use Rattle.script_board.specs.Commands.{last_slash}

-- no byte is a slash
abbrev HasNone : List ℕ → Type 0
HasNone bs = (i : ℕ) → i < length bs → get_or bs i 0 ≢ 47

pub no_slash : (bs : List ℕ) → HasNone bs → last_slash bs ≡ None
no_slash [] h = refl
no_slash (b ∷ bs) h = rw (no_slash bs (λ i below. h (suc i) (omega (arith, below))), ne_eqb b 47 (h 0 (omega arith))) refl

split_last : (above name : List ℕ) → HasNone name → last_slash (above ++ 47 ∷ name) ≡ Some (above, name)
split_last [] name h = rw (no_slash name h) refl
split_last (b ∷ above) name h = rw (split_last above name h) refl

none_passes : (bs : List ℕ) → NoCharPasses (λ d. d == 47) bs → HasNone bs
none_passes bs h i below = NoCharPasses-char 47 bs i h (lit< tt) below

pub no_slash_passes : (bs : List ℕ) → NoCharPasses (λ d. d == 47) bs → last_slash bs ≡ None
no_slash_passes bs h = no_slash bs (none_passes bs h)

pub slash_found : (bs above name : List ℕ) (i j : ℕ) → RFindsChar 47 bs (Some (i, j)) → above ≡ take i bs → name ≡ drop j bs
    → last_slash bs ≡ Some (above, name)
slash_found bs above name i j found front back =
    let whole : bs ≡ above ++ 47 ∷ name = sym (take-append-drop i bs) ∙ rw (drop_at_char 47 bs i j found.1 (lit< tt), ← front, ← back) refl in
    ap last_slash whole ∙ split_last above name (rw back (none_passes (drop j bs) found.0))
