-- What a text that is written is read as.
use Rattle.std.proofs.Common.{◌≡◌, ◌∙◌, ◌≢◌, ℕ, ◌<◌, ◌^◌, List, [], ◌++◌, codes, sym, ap, arith, Option, Some, Ok, Err}
use Rattle.std.specs.Borrow.{Bor}
use Rattle.pin_driver.specs.PinPlan.{PlanParts}
use Rattle.pin_driver.specs.StoredReading.{FailsAs, HasVersion, IsOutOfMemory, read_body, read_count}
use Rattle.pin_driver.specs.StoredText.{FitsText, body_text, stored_text, version_text}
use Rattle.pin_driver.specs.declared.question.Mark.{Mark}
use Rattle.pin_driver.specs.declared.text_error.TextError.{TextError}
use Rattle.pin_driver.specs.declared.text_error.TextError.TheVariants.{Memory, Version, Form}
use Rattle.pin_driver.proofs.StoredAgain.{body_again, version_again}

abbrev Line : Type 0
Line = ℕ × List ℕ

some_is : (a b : Line) → Some a ≡ Some b → a ≡ b
some_is a b e = cc

stored_version : (text : List ℕ) (plan : PlanParts) (mark : Mark) → text ≡ stored_text plan mark →
    read_count (codes "mdbal_pins") text ≡ Some (1, body_text plan mark)
unfolding stored_text
stored_version text plan mark e = ap (read_count (codes "mdbal_pins")) e ∙ version_again 1 (body_text plan mark) (omega arith)

-- the first line is not refused
first_read : (error : TextError) (read : Option Line) (rest : List ℕ) → HasVersion (Err error) read → read ≡ Some (1, rest) → ⊥
first_read Memory read rest h e = h
first_read (Version n) read rest h e = h.0 (ap (λ (p : Line). p.0) (some_is (n, h.1.0) (1, rest) (sym h.1.1 ∙ e)))
first_read Form read rest h e = cc

-- another version is why the first line is refused
first_refused : (error : TextError) (read : Option Line) (number : ℕ) (more : List ℕ) → HasVersion (Err error) read → read ≡ Some (number, more) →
    error ≡ Version number
first_refused Memory read number more h e = absurd h
first_refused (Version n) read number more h e =
    ap (λ (m : ℕ). Version m) (ap (λ (p : Line). p.0) (some_is (n, h.1.0) (number, more) (sym h.1.1 ∙ e)))
first_refused Form read number more h e = absurd cc

pub not_refused : (error : TextError) (text : List ℕ) (plan : PlanParts) (mark : Mark) → HasVersion (Err error) (read_count (codes "mdbal_pins") text) →
    text ≡ stored_text plan mark → ⊥
not_refused error text plan mark h e = first_read error (read_count (codes "mdbal_pins") text) (body_text plan mark) h (stored_version text plan mark e)

other_version : (text : List ℕ) (number : ℕ) (more : List ℕ) → number < 2 ^ 64 → text ≡ version_text number ++ more →
    read_count (codes "mdbal_pins") text ≡ Some (number, more)
other_version text number more small e = ap (read_count (codes "mdbal_pins")) e ∙ version_again number more small

pub refused_as : (error : TextError) (text : List ℕ) (number : ℕ) (more : List ℕ) → HasVersion (Err error) (read_count (codes "mdbal_pins") text) →
    number < 2 ^ 64 → text ≡ version_text number ++ more → error ≡ Version number
refused_as error text number more h small e =
    first_refused error (read_count (codes "mdbal_pins") text) number more h (other_version text number more small e)

pub not_other : (rest : Bor (List ℕ)) (text : List ℕ) (number : ℕ) (more : List ℕ) → HasVersion (Ok rest) (read_count (codes "mdbal_pins") text) →
    number < 2 ^ 64 → number ≢ 1 → text ≡ version_text number ++ more → ⊥
not_other rest text number more h small other e =
    other (ap (λ (p : Line). p.0) (some_is (number, more) (1, rest.now) (sym (other_version text number more small e) ∙ h)))

body_is : (rest : Bor (List ℕ)) (text : List ℕ) (plan : PlanParts) (mark : Mark) → HasVersion (Ok rest) (read_count (codes "mdbal_pins") text) →
    text ≡ stored_text plan mark → rest.now ≡ body_text plan mark
body_is rest text plan mark h e =
    ap (λ (p : Line). p.1) (some_is (1, rest.now) (1, body_text plan mark) (sym h ∙ stored_version text plan mark e))

pub body_read : (rest : Bor (List ℕ)) (text : List ℕ) (plan : PlanParts) (mark : Mark) → HasVersion (Ok rest) (read_count (codes "mdbal_pins") text) →
    FitsText plan mark → text ≡ stored_text plan mark → read_body rest.now ≡ Some ((plan, mark), [])
body_read rest text plan mark h fits e = ap read_body (body_is rest text plan mark h e) ∙ body_again plan mark fits

abbrev Body : Type 0
Body = (PlanParts × Mark) × List ℕ

body_same : (a b : Body) → Some a ≡ Some b → a ≡ b
body_same a b e = cc

pub found_is : (plan found_plan : PlanParts) (mark found_mark : Mark) (more : List ℕ) (read : Option Body) → read ≡ Some ((found_plan, found_mark), more) →
    read ≡ Some ((plan, mark), []) → (found_plan ≡ plan) × (found_mark ≡ mark)
found_is plan found_plan mark found_mark more read h e =
    let same : ((found_plan, found_mark), more) ≡ ((plan, mark), []) = body_same ((found_plan, found_mark), more) ((plan, mark), []) (sym h ∙ e) in
    (ap (λ (p : Body). p.0.0) same, ap (λ (p : Body). p.0.1) same)

pub fails_for_memory : (error : TextError) (read : Option Body) (x : Body) → FailsAs error read → read ≡ Some x → IsOutOfMemory error
fails_for_memory Memory read x h e = tt
fails_for_memory (Version n) read x h e = absurd h
fails_for_memory Form read x h e = absurd cc
