-- Each move keeps the rule of numbers.
use Rattle.std.proofs.Common.{◌≡◌, ◌≢◌, ◌≤◌, ◌+◌, ◌==◌, ℕ, zero, suc, Bool, List, [], ◌∷◌, ◌++◌, set, cond}
use Rattle.std.proofs.Common.{count_by, sum_by, true, false, true≢false, refl, sym, ap, ◌∙◌, subst, ⊎_elim, arith, eq-eqb, ne_eqb}
use Rattle.std.proofs.lemmas.List.Sums.{sum_by-append, sum_by-cons, sum_by_push}
use mathlib.Core.Logic.{dite}
use mathlib.Core.Option.{some, some-ne-none, some-injective}
use native.Mathlib.Decide.{dec_le}
use lib.ListN.{get_elem?}
use Rattle.atomic_table.specs.Table.{Step, Me, Act, Allows, Enters, Splits, Joins}
use Rattle.atomic_table.proofs.Lists.{at_set, at_snoc, set_again}
use Rattle.proof_names.specs.declared.numbers_rule.HolderState.{HolderState}
use Rattle.proof_names.specs.Numbers.{AreApart, AreGivenOnce, HasEachOnce, IsBlank, IsNew, IsNumberTable, after_giving, holding, taken_in, only, how_often}

-- which token leads

abbrev IsLed : List HolderState → ℕ → ℕ → Type 0
IsLed views token next = (by : ℕ) (v : HolderState) → get_elem? views by ≡ some v → v.leads ≡ true → (by ≡ token) × (v.next ≡ next)

led_more : (views : List HolderState) (numbers : List ℕ) (token next : ℕ) → IsLed views token next → IsLed (views ++ only numbers ∷ []) token next
led_more views numbers token next led by u e y = ⊎_elim
    (λ (old : get_elem? views by ≡ some u). led by u old y)
    (λ (new : only numbers ≡ u). absurd (true≢false (sym y ∙ ap (λ (z : HolderState). z.leads) (sym new))))
    (at_snoc views (only numbers) u by e)

led_set : (views : List HolderState) (id : ℕ) (w : HolderState) (token next : ℕ) → (w.leads ≡ true → (id ≡ token) × (w.next ≡ next))
    → ((by : ℕ) (u : HolderState) → by ≢ id → get_elem? views by ≡ some u → u.leads ≡ true → (by ≡ token) × (u.next ≡ next)) → IsLed (set views id w) token next
led_set views id w token next mine others by u e y = ⊎_elim
    (λ (x : (by ≡ id) × (w ≡ u)).
    let m = mine (ap (λ (z : HolderState). z.leads) x.1 ∙ y) in (x.0 ∙ m.0, ap (λ (z : HolderState). z.next) (sym x.1) ∙ m.1))
    (λ (x : (by ≢ id) × (get_elem? views by ≡ some u)). others by u x.0 x.1 y)
    (at_set views id by w u e)

-- how often a number was given

moved : (f : HolderState → ℕ) (views : List HolderState) (id : ℕ) (v w : HolderState) → get_elem? views id ≡ some v
    → sum_by f (set views id w) + f v ≡ sum_by f views + f w
moved f [] id v w e = absurd (some-ne-none v (sym e))
moved f (x ∷ views) zero v w e =
    let a = sum_by-cons f w views in let b = sum_by-cons f x views in let c = ap f (some-injective x v e) in omega arith
moved f (x ∷ views) (suc id) v w e =
    let h = moved f views id v w e in let a = sum_by-cons f x (set views id w) in let b = sum_by-cons f x views in omega arith

one_at_most : (number m : ℕ) → how_often number (only (m ∷ [])) ≤ 1
one_at_most number m = bounded (m == number)
  where
    bounded : (b : Bool) → 0 + cond b 1 0 ≤ 1
    bounded true = omega arith
    bounded false = omega arith

not_other : (number m : ℕ) → m ≢ number → how_often number (only (m ∷ [])) ≡ 0
not_other number m other = ap (λ (b : Bool). 0 + cond b 1 0) (ne_eqb m number other)

often_in_both : (number : ℕ) (v w : HolderState) → how_often number (taken_in v w) ≡ how_often number v + how_often number w
often_in_both number v w = sum_by-append (λ m. cond (m == number) 1 0) v.numbers w.numbers

-- numbers that were given once at most are apart

counted : (number t : ℕ) (tickets : List ℕ) → count_by (λ m. m == number) (t ∷ tickets) ≡ cond (t == number) 1 0 + count_by (λ m. m == number) tickets
counted number t tickets = sum_by-cons (λ m. cond (m == number) 1 0) t tickets

counted_here : (number t : ℕ) (tickets : List ℕ) → number ≡ t → count_by (λ m. m == number) (t ∷ tickets) ≡ 1 + count_by (λ m. m == number) tickets
counted_here number t tickets same =
    counted number t tickets ∙ ap (λ (b : Bool). cond b 1 0 + count_by (λ m. m == number) tickets) (eq-eqb t number (sym same))

is_new : (ticket : ℕ) (tickets : List ℕ) → count_by (λ m. m == ticket) tickets ≡ 0 → IsNew ticket tickets
is_new ticket [] h = tt
is_new ticket (t ∷ tickets) h =
    let c = counted ticket t tickets in ((λ same. let e = counted_here ticket t tickets same in absurd (omega arith)), is_new ticket tickets (omega arith))

are_apart : (tickets : List ℕ) → ((number : ℕ) → count_by (λ m. m == number) tickets ≤ 1) → AreApart tickets
are_apart [] h = tt
are_apart (t ∷ tickets) h = (
  is_new t tickets (let e = counted_here t t tickets refl in let o = h t in omega arith),
  are_apart tickets (λ k. let c = counted k t tickets in let o = h k in omega arith),
)

-- the moves

pub begins : AreGivenOnce (holding true 0 [] ∷ [])
begins = record { token = 0; next = 0; leader = one; once = λ k. omega arith; below = λ k le. refl }
  where
    one : IsLed (holding true 0 [] ∷ []) 0 0
    one zero v e y = (refl, ap (λ (u : HolderState). u.next) (sym (some-injective (holding true 0 []) v e)))
    one (suc by) v e y = absurd (some-ne-none v (sym e))

-- a token without numbers
pub enters : (slots : ℕ) (me : Me ℕ HolderState) (st : Step ℕ) → Enters IsNumberTable slots 0 (λ n w. IsBlank st me n (w, []))
enters slots me st s b homes fits =
    let same : (k : ℕ) → sum_by (how_often k) (s.views ++ only [] ∷ []) ≡ sum_by (how_often k) s.views
    = λ k. sum_by_push (how_often k) s.views (only []) ∙ omega arith in (
      only [],
      record {
        token = b.token;
        next = b.next;
        leader = led_more s.views [] b.token b.next b.leader;
        once = λ k. let o = b.once k in let e = same k in omega arith;
        below = λ k le. same k ∙ b.below k le;
      },
      refl,
    )

-- a number is given
pub hands : (id : ℕ) (v : HolderState) (number : ℕ) → v.leads ≡ true → v.next ≤ number → Splits IsNumberTable id v (after_giving number v) (only (number ∷ []))
hands id v number leads above s b here =
    let views = s.views in
    let mine = b.leader id v here leads in
    let next : b.next ≤ number = let m = mine.1 in omega arith in
    let total : (k : ℕ) → sum_by (how_often k) (set views id (after_giving number v) ++ only (number ∷ []) ∷ [])
    ≡ sum_by (how_often k) views + how_often k (only (number ∷ []))
    = λ k. let p = sum_by_push (how_often k) (set views id (after_giving number v)) (only (number ∷ [])) in
    let m = moved (how_often k) views id v (after_giving number v) here in omega arith in
    record {
      token = b.token;
      next = number + 1;
      leader = led_more (set views id (after_giving number v)) (number ∷ []) b.token (number + 1)
          (led_set views id (after_giving number v) b.token (number + 1) (λ y. (mine.0, refl))
          (λ by u other e y. absurd (other ((b.leader by u e y).0 ∙ sym mine.0))));
      once = λ k. let t = total k in let o = b.once k in dite (dec_le number k)
          (λ le. let z = b.below k (omega arith) in let m = one_at_most k number in omega arith)
          (λ lt. let z = not_other k number (λ same. lt (omega arith)) in omega arith);
      below = λ k le. let t = total k in let z = b.below k (omega arith) in let m = not_other k number (λ same. omega arith) in omega arith;
    }

-- a token takes in another
pub joins : (id : ℕ) (v : HolderState) (other : ℕ) (w : HolderState) → Joins IsNumberTable id v other w (taken_in v w) (only [])
joins id v other w s b here apart there =
    let views = s.views in
    let mid = set views id (taken_in v w) in
    let total : (k : ℕ) → sum_by (how_often k) (set mid other (only [])) ≡ sum_by (how_often k) views
    = λ k. let p = moved (how_often k) views id v (taken_in v w) here in let q = moved (how_often k) mid other w (only []) there in
    let j = often_in_both k v w in omega arith in
    record {
      token = b.token;
      next = b.next;
      leader = led_set mid other (only []) b.token b.next (λ y. absurd (true≢false (sym y)))
          (λ by u _. led_set views id (taken_in v w) b.token b.next (b.leader id v here) (λ x z _. b.leader x z) by u);
      once = λ k. let t = total k in let o = b.once k in omega arith;
      below = λ k le. total k ∙ b.below k le;
    }

-- a token has no number twice
pub has_each_once : (slots id : ℕ) (me : Me ℕ HolderState) (st : Step ℕ) → Allows IsNumberTable slots id me 0 (λ n. n) (HasEachOnce st me)
has_each_once slots id me st s b homes here fits = (
  me.0,
  Act.keeps,
  tt,
  subst AreGivenOnce (sym (set_again s.views id me.0 here)) b,
  (refl, are_apart me.0.numbers (λ k. let m = moved (how_often k) s.views id me.0 (only []) here in let o = b.once k in omega arith)),
)
