-- Lines that are read one after another.
use Rattle.std.proofs.Common.{◌≡◌, ◌∙◌, ℕ, suc, List, [], ◌∷◌, ◌++◌, refl, sym, ap, append_assoc, Option, Some, None}
use Rattle.std.specs.Option.{option_and_then}
use Rattle.pin_driver.specs.StoredReading.{FailsAs, after_those, read_many}
use Rattle.pin_driver.specs.declared.text_error.TextError.{TextError}
use Rattle.pin_driver.specs.declared.text_error.TextError.TheVariants.{Memory, Version, Form}

-- one value after another
pub then_reads : {A B : Type 0} (r : Option A) (x : A) (f : A → Option B) (y : Option B) → r ≡ Some x → f x ≡ y → option_and_then f r ≡ y
then_reads r x f y e h = ap (option_and_then f) e ∙ h

pub many_next : {A : Type 0} (one : List ℕ → Option (A × List ℕ)) (front : List A) (x : A) (n m : ℕ) (text more : List ℕ) → n ≡ suc m →
    one text ≡ Some (x, more) → after_those front (read_many one n text) ≡ after_those (front ++ x ∷ []) (read_many one m more)
many_next {A} one front x n m text more count is =
    ap (λ (k : ℕ). after_those front (read_many one k text)) count
    ∙ (ap (after_those front) (then_reads (one text) (x, more) _ (after_those (x ∷ []) (read_many one m more)) is refl)
    ∙ in_front (read_many one m more))
  where
    in_front : (r : Option (List A × List ℕ)) → after_those front (after_those (x ∷ []) r) ≡ after_those (front ++ x ∷ []) r
    in_front None = refl
    in_front (Some found) = ap (λ (xs : List A). Some (xs, found.1)) (sym (append_assoc front (x ∷ []) found.0))

many_none : {A : Type 0} (one : List ℕ → Option (A × List ℕ)) (front : List A) (n m : ℕ) (text : List ℕ) → n ≡ suc m → one text ≡ None →
    after_those front (read_many one n text) ≡ None
many_none one front n m text count is =
    ap (λ (k : ℕ). after_those front (read_many one k text)) count
    ∙ ap (λ r. after_those front (option_and_then (λ first. option_and_then (λ more. Some (first.0 ∷ more.0, more.1)) (read_many one m first.1)) r)) is

-- a line that fails
pub many_fails : {A : Type 0} (one : List ℕ → Option (A × List ℕ)) (front : List A) (n m : ℕ) (text : List ℕ) (error : TextError) → n ≡ suc m →
    FailsAs error (one text) → FailsAs error (after_those front (read_many one n text))
many_fails one front n m text Memory count is = tt
many_fails one front n m text (Version v) count is = is
many_fails one front n m text Form count is = many_none one front n m text count is
