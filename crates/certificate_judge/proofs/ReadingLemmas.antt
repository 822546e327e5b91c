-- What reads do to the bytes that are left.
use Rattle.std.proofs.Common.{◌≡◌, ◌≢◌, ◌∙◌, ℕ, ◌+◌, ◌-◌, ◌<◌, List, [], ◌++◌, length, take, drop, refl}
use Rattle.std.proofs.Common.{sym, ap, subst, arith, append_assoc, append-nil, length-append, Option, Some, None, Result, Ok, Err, IfSome}
use Rattle.std.specs.Io.KnownBytes.{Consumes, IsAtEnd, Keeps, ReadConsumes, prepend_known}
use Rattle.std.proofs.Math.Seq.{drop-append_seam}
use Rattle.std.proofs.lemmas.List.{drop-drop, length-take-le, take-append-drop, take_rest}
use Rattle.std.specs.Prelude.{⊤}
use Rattle.plan_text.specs.declared.read_error.Expected.{Expected}
use Rattle.plan_text.specs.declared.read_error.ReadError.{ReadError}
use Rattle.plan_text.specs.declared.read_error.ReadError.TheVariants.{Line, Memory}
use Rattle.certificate_judge.specs.Unjudged.{BeginsNone, IsFault, IsFaultOfNext}
use Rattle.certificate_judge.specs.declared.judge_error.JudgeError.{JudgeError}
use Rattle.certificate_judge.specs.declared.judge_error.JudgeError.TheVariants.{Text}

pub same : (a : Option (List ℕ)) → Keeps a a
same None = tt
same (Some x) = refl

pub still : (a b c : Option (List ℕ)) → Keeps a b → Keeps b c → Keeps a c
still None b c p q = tt
still (Some x) None c p q = absurd p
still (Some x) (Some y) None p q = absurd q
still (Some x) (Some y) (Some z) p q = q ∙ p

-- a read after one that was interrupted
pub read_again : {E : Type 0} (a b c : Option (List ℕ)) (r : Result ℕ E) (buffer : List ℕ) → Keeps a b → ReadConsumes b c r buffer → ReadConsumes a c r buffer
read_again None b c (Ok n) buffer k h = (tt, h.1)
read_again None b c (Err e) buffer k h = tt
read_again (Some x) None c r buffer k h = absurd k
read_again (Some x) (Some y) c r buffer k h = subst (λ (t : List ℕ). ReadConsumes (Some t) c r buffer) k h

-- what was read goes to the end of the buffer
pub grown : (known a b : Option (List ℕ)) (old more new : List ℕ) → Keeps known (prepend_known old a) → Consumes a b more
    → new ≡ old ++ more → Keeps known (prepend_known new b)
grown None a b old more new k h e = tt
grown (Some x) None b old more new k h e = absurd k
grown (Some x) (Some y) None old more new k h e = absurd h
grown (Some x) (Some y) (Some z) old more new k h e = ap (λ (t : List ℕ). t ++ z) e ∙ (append_assoc old more z ∙ (ap (λ (t : List ℕ). old ++ t) (sym h) ∙ k))

-- the front of the buffer is taken
pub taken : (known a : Option (List ℕ)) (old front new : List ℕ) → Keeps known (prepend_known old a) → old ≡ front ++ new
    → Consumes known (prepend_known new a) front
taken None a old front new k e = tt
taken (Some x) None old front new k e = absurd k
taken (Some x) (Some y) old front new k e = sym k ∙ (ap (λ (t : List ℕ). t ++ y) e ∙ append_assoc front new y)

-- the piece of the buffer in which a certificate is looked for
abbrev piece : List ℕ → ℕ → List ℕ
piece seen i = take (length seen - i) (drop i seen)

pub of_piece : (items seen text : List ℕ) (i : ℕ) → seen ≡ items → piece seen i ≡ text → drop i items ≡ text
of_piece items seen text i e h = ap (drop i) (sym e) ∙ (sym (take_rest seen i) ∙ h)

pub to_piece : (items seen text : List ℕ) (i : ℕ) → seen ≡ items → drop i items ≡ text → piece seen i ≡ text
to_piece items seen text i e h = take_rest seen i ∙ (ap (drop i) e ∙ h)

-- a certificate, and what comes after it
pub behind : (items seen front rest : List ℕ) (i : ℕ) → seen ≡ items → piece seen i ≡ front ++ rest
    → drop i items ≡ front ++ drop (i + (length (piece seen i) - length rest)) items
behind items seen front rest i e h =
    let size : length (piece seen i) - length rest ≡ length front = omega (arith, ap length h, length-append front rest) in
    let all : drop i items ≡ front ++ rest = of_piece items seen (front ++ rest) i e h in
    let more : drop (i + (length (piece seen i) - length rest)) items ≡ rest =
    sym (drop-drop (length (piece seen i) - length rest) i items)
    ∙ (ap (λ (n : ℕ). drop n (drop i items)) size ∙ (ap (drop (length front)) all ∙ drop-append_seam front rest)) in
    all ∙ ap (λ (t : List ℕ). front ++ t) (sym more)

abbrev IsLine : ReadError → Type 0
IsLine (Line line expected) = ⊤
IsLine Memory = ⊥

pub no_line : (e : ReadError) (line : ℕ) (expected : Expected) → e ≡ Line line expected → e ≡ Memory → ⊥
no_line e line expected is memory = subst IsLine (sym is ∙ memory) tt

pub not_nil : (items : List ℕ) (i : ℕ) → i < length items → drop i items ≢ []
not_nil items i h none = omega (
  arith,
  h,
  ap length none,
  ap length (take-append-drop i items),
  length-append (take i items) (drop i items),
  length-take-le i items (omega (arith, h)),
)

-- at the end nothing is left, or bytes that begin with no certificate
pub none_left : (known b : Option (List ℕ)) (old : List ℕ) → Keeps known (prepend_known old b) → IsAtEnd b → old ≡ [] → IsAtEnd known
none_left None b old k end none = tt
none_left (Some x) None old k end none = absurd k
none_left (Some x) (Some y) old k end none = sym k ∙ (ap (λ (t : List ℕ). t ++ y) none ∙ end)

pub some_left : (known b : Option (List ℕ)) (old : List ℕ) → Keeps known (prepend_known old b) → IsAtEnd b → old ≢ [] → BeginsNone old
    → IfSome known (λ bytes. (bytes ≢ []) × BeginsNone bytes)
some_left None b old k end some none = tt
some_left (Some x) None old k end some none = absurd k
some_left (Some x) (Some y) old k end some none =
    let all : x ≡ old = sym k ∙ (ap (λ (t : List ℕ). old ++ t) end ∙ append-nil old) in
    subst (λ (t : List ℕ). (t ≢ []) × BeginsNone t) (sym all) (some, none)

pub fault_is : (known b : Option (List ℕ)) (old : List ℕ) (fault : ReadError) (error : JudgeError) → Keeps known (prepend_known old b)
    → IsAtEnd b → (error ≡ Text fault) × (old ≢ []) → IsFaultOfNext old fault → IsFault known error
fault_is known b old Memory error k end is none = subst (IsFault known) (sym is.0) tt
fault_is known b old (Line line expected) error k end is none = subst (IsFault known) (sym is.0) (some_left known b old k end is.1 none)
