-- Lists of directories: repetitions, counts and the least faulty one.
use Rattle.std.proofs.Common.{◌≡◌, ◌≢◌, ℕ, zero, suc, ◌+◌, ◌<◌, ◌≤◌, Bool, true, false, ◌&&◌, ◌||◌, not, eqb, ltb, cond, List}
use Rattle.std.proofs.Common.{[], ◌∷◌, ◌++◌, length, get_or, set, take, Option, Some, None, refl, sym, ap, ◌∙◌, inl, inr, ◌⊎◌, arith}
use Rattle.std.specs.List.{list_all}
use Rattle.std.specs.Prelude.{count_by}
use Rattle.std.proofs.lemmas.Bool.{cases_lt, and_parts, eqb-true, or_cases, or_from, or_left, or_parts, or_right}
use Rattle.std.proofs.lemmas.List.Recursion.{is_count_by}
use Rattle.export_protocol.specs.declared.event.Request.{Request}
use Rattle.export_protocol.specs.declared.step_error.StepError.{StepError}
use Rattle.export_protocol.specs.Cluster.{World}
use Rattle.export_protocol.specs.Authority.{is_among, is_present, runs_on, or_else}
use Rattle.export_protocol.specs.Step.{repeats, any_at, running_on, cannot_leave, least_fault}
use Rattle.export_machine.specs.Kept.{count_at, lesser}
use Rattle.export_protocol.proofs.Lookups.{itself}
use Rattle.export_protocol.proofs.Events.{there_near, number_of}
use Rattle.export_protocol.proofs.Lists.{among_push, take_next, among_at, none_else, no_fault}

-- members

-- in a list without repetitions no member is before its place
pub not_before : (xs : List ℕ) (i d : ℕ) → i < length xs → repeats xs ≡ false → is_among (take i xs) (get_or xs i d) ≡ false
not_before [] i d h r = absurd (omega arith)
not_before (x ∷ xs) zero d h r = refl
not_before (x ∷ xs) (suc i) d h r =
    let p : (is_among xs x ≡ false) × (repeats xs ≡ false) = or_parts (is_among xs x) (repeats xs) r in
    or_from (eqb x (get_or xs i d)) (is_among (take i xs) (get_or xs i d)) (other (eqb x (get_or xs i d)) refl p.0) (not_before xs i d (omega arith) p.1)
  where
    other : (b : Bool) → eqb x (get_or xs i d) ≡ b → is_among xs x ≡ false → b ≡ false
    other false e k = refl
    other true e k = absurd (cc (k, rw (← eqb-true x (get_or xs i d) e) at (among_at xs i d (omega arith))))

-- requests

pub counted : (p : Option Request → Bool) (ts : List (Option Request)) → count_by p ts ≡ number_of p ts
counted p ts = sym (is_count_by (number_of p) p refl (λ x xs. refl) ts)

number_within : (p : Option Request → Bool) (ts : List (Option Request)) → number_of p ts ≤ length ts
number_within p [] = omega arith
number_within p (t ∷ ts) = within (p t) (number_of p ts) (length ts) (number_within p ts)
  where
    within : (b : Bool) (m n : ℕ) → m ≤ n → cond b (1 + m) m ≤ suc n
    within true m n h = omega arith
    within false m n h = omega arith

pub count_within : (p : Option Request → Bool) (ts : List (Option Request)) → count_by p ts ≤ length ts
count_within p ts = rw (counted p ts) (number_within p ts)

run_apart : (xs : List ℕ) (d : ℕ) → is_among xs d ≡ false → (t : Option Request) →
    (runs_on (xs ++ d ∷ []) t ≡ (runs_on xs t || runs_on (d ∷ []) t)) × ((runs_on xs t && runs_on (d ∷ []) t) ≡ false)
run_apart xs d h None = (refl, refl)
run_apart xs d h (Some q) = (among_push xs d q.dir ∙ tail (is_among xs q.dir) (eqb d q.dir), go (eqb d q.dir) refl)
  where
    tail : (a b : Bool) → (a || b) ≡ (a || (b || false))
    tail a b = grind arith

    none : (a b : Bool) → a ≡ false → (a && b) ≡ false
    none a b k = grind arith

    go : (b : Bool) → eqb d q.dir ≡ b → (is_among xs q.dir && (b || false)) ≡ false
    go true e = none (is_among xs q.dir) (true || false) (rw (← eqb-true d q.dir e) h)
    go false e = last (is_among xs q.dir)
      where
        last : (a : Bool) → (a && (false || false)) ≡ false
        last a = grind arith

number_push : (xs : List ℕ) (d : ℕ) → is_among xs d ≡ false → (ts : List (Option Request)) →
    number_of (runs_on (xs ++ d ∷ [])) ts ≡ number_of (runs_on xs) ts + number_of (runs_on (d ∷ [])) ts
number_push xs d h [] = refl
number_push xs d h (t ∷ ts) =
    let a = run_apart xs d h t in
    rw a.0 (add (runs_on xs t) (runs_on (d ∷ []) t) (number_of (runs_on (xs ++ d ∷ [])) ts) (number_of (runs_on xs) ts)
    (number_of (runs_on (d ∷ [])) ts) a.1 (number_push xs d h ts))
  where
    add : (a b : Bool) (l m n : ℕ) → (a && b) ≡ false → l ≡ m + n → cond (a || b) (1 + l) l ≡ cond a (1 + m) m + cond b (1 + n) n
    add true true l m n i e = absurd (cc)
    add true false l m n i e = omega arith
    add false true l m n i e = omega arith
    add false false l m n i e = omega arith

pub running_push : (w : World) (xs : List ℕ) (d : ℕ) → is_among xs d ≡ false → running_on w (xs ++ d ∷ []) ≡ running_on w xs + running_on w (d ∷ [])
running_push w xs d h = rw (
  counted (runs_on (xs ++ d ∷ [])) w.tickets,
  counted (runs_on xs) w.tickets,
  counted (runs_on (d ∷ [])) w.tickets,
) (number_push xs d h w.tickets)

pub running_none : (w : World) → running_on w [] ≡ 0
running_none w = counted (runs_on []) w.tickets ∙ none w.tickets
  where
    none : (ts : List (Option Request)) → number_of (runs_on []) ts ≡ 0
    none [] = refl
    none (None ∷ ts) = none ts
    none (Some q ∷ ts) = none ts

-- children

pub any_counts : {A : Type 0} (test : ℕ → A → Bool) (xs : List A) (b : Bool) → any_at test xs ≡ b → not (eqb (count_at test xs) 0) ≡ b
any_counts test xs b e = count_any test xs ∙ e
  where
    more : (b : Bool) (n : ℕ) (c : Bool) → not (eqb n 0) ≡ c → not (eqb (cond b 1 0 + n) 0) ≡ (b || c)
    more true n c h = grind arith
    more false n c h = (let k : 0 + n ≡ n = omega arith in rw k h)

    count_any : {A : Type 0} (test : ℕ → A → Bool) (xs : List A) → not (eqb (count_at test xs) 0) ≡ any_at test xs
    count_any test [] = refl
    count_any test (x ∷ xs) = more (test 0 x) (count_at (λ k. test (suc k)) xs) (any_at (λ k. test (suc k)) xs) (count_any (λ k. test (suc k)) xs)

-- the least faulty directory

pub data IsLeast (w : World) (from : ℕ) (dirs : List ℕ) : Option ℕ → Type 0 where
  free : ((d : ℕ) → is_among dirs d ≡ true → cannot_leave w from d ≡ None) → IsLeast w from dirs None
  faulty : {l : ℕ} → is_among dirs l ≡ true → cannot_leave w from l ≢ None
      → ((d : ℕ) → is_among dirs d ≡ true → cannot_leave w from d ≢ None → l ≤ d) → IsLeast w from dirs (Some l)

pub least_start : (w : World) (from : ℕ) → IsLeast w from [] None
least_start w from = free (λ d h. absurd (cc))

fault_or : (o : Option StepError) → (o ≡ None) ⊎ (o ≢ None)
fault_or None = inl refl
fault_or (Some e) = inr (λ k. cc)

pushed : (xs : List ℕ) (d e : ℕ) → is_among (xs ++ d ∷ []) e ≡ true → (is_among xs e ≡ true) ⊎ (e ≡ d)
pushed xs d e h = elim (or_cases (is_among xs e) (eqb d e) (sym (among_push xs d e) ∙ h)) [ inl a ↦ inl a | inr b ↦ inr (sym (eqb-true d e b)) ]

push_old : (xs : List ℕ) (d e : ℕ) → is_among xs e ≡ true → is_among (xs ++ d ∷ []) e ≡ true
push_old xs d e h = among_push xs d e ∙ or_left (is_among xs e) (eqb d e) h

pub push_new : (xs : List ℕ) (d : ℕ) → is_among (xs ++ d ∷ []) d ≡ true
push_new xs d = among_push xs d d ∙ or_right (is_among xs d) (eqb d d) (itself d)

pub least_free : (w : World) (from : ℕ) (xs : List ℕ) (d : ℕ) (o : Option ℕ) → IsLeast w from xs o → cannot_leave w from d ≡ None
    → IsLeast w from (xs ++ d ∷ []) o
least_free w from xs d None (free f) h = free (λ e k. elim (pushed xs d e k) [ inl a ↦ f e a | inr s ↦ rw s h ])
least_free w from xs d (Some l) (faulty a n f) h =
    faulty (push_old xs d l a) n (λ e k m. elim (pushed xs d e k) [ inl b ↦ f e b m | inr s ↦ absurd (m (rw s h)) ])

pub least_faulty : (w : World) (from : ℕ) (xs : List ℕ) (d : ℕ) (o : Option ℕ) → IsLeast w from xs o → cannot_leave w from d ≢ None
    → IsLeast w from (xs ++ d ∷ []) (Some (lesser o d))
least_faulty w from xs d None (free f) h = faulty (push_new xs d) h (λ e k m. elim (pushed xs d e k) [ inl a ↦ absurd (m (f e a)) | inr s ↦ omega arith ])
least_faulty w from xs d (Some l) (faulty a n f) h = go (ltb l d) refl
  where
    below : ltb l d ≡ true → l < d
    below e = grind arith

    above : ltb l d ≡ false → d ≤ l
    above e = grind arith

    go : (b : Bool) → ltb l d ≡ b → IsLeast w from (xs ++ d ∷ []) (Some (cond b l d))
    go true e = (let k : l < d = below e in faulty (push_old xs d l a) n (λ c i m. elim (pushed xs d c i) [ inl j ↦ f c j m | inr s ↦ omega arith ]))
    go false e = (let k : d ≤ l = above e in faulty (push_new xs d) h
        (λ c i m. elim (pushed xs d c i) [ inl j ↦ (let q : l ≤ c = f c j m in omega arith) | inr s ↦ omega arith ]))

some_else : {A : Type 0} (a b : Option A) → a ≢ None → or_else a b ≡ a
some_else None b h = absurd (h refl)
some_else (Some x) b h = refl

the_fault : (w : World) (from : ℕ) (dirs : List ℕ) (l n : ℕ) → l < n → is_among dirs l ≡ true → cannot_leave w from l ≢ None →
    ((d : ℕ) → is_among dirs d ≡ true → cannot_leave w from d ≢ None → l ≤ d) → least_fault w from dirs n ≡ cannot_leave w from l
the_fault w from dirs l zero h a k f = absurd (omega arith)
the_fault w from dirs l (suc n) h a k f = elim (cases_lt l n) [
  | inl m ↦
      (let e : least_fault w from dirs n ≡ cannot_leave w from l = the_fault w from dirs l n m a k f in
      some_else (least_fault w from dirs n) (cond (is_among dirs n) (cannot_leave w from n) None) (λ i. k (sym e ∙ i)) ∙ e)
  | inr m ↦
      (let s : n ≡ l = omega arith in
      none_else (least_fault w from dirs n) (cond (is_among dirs n) (cannot_leave w from n) None) (cannot_leave w from l)
      (no_fault w from dirs n (λ d b i. elim (fault_or (cannot_leave w from d)) [ inl e ↦ e | inr j ↦ (let q : l ≤ d = f d i j in absurd (omega arith)) ]))
      (rw s (chosen (is_among dirs l) (cannot_leave w from l) a)))
]
  where
    chosen : (b : Bool) (o : Option StepError) → b ≡ true → cond b o None ≡ o
    chosen b o e = rw e refl

pub among_present : (w : World) (dirs : List ℕ) → list_all (is_present w) dirs ≡ true → (d : ℕ) → is_among dirs d ≡ true → d < length w.parents
among_present w [] h d i = absurd (cc)
among_present w (c ∷ cs) h d i = elim (or_cases (eqb c d) (is_among cs d) i) [
  | inl e ↦ there_near w d (rw (← eqb-true c d e) (and_parts (is_present w c) (list_all (is_present w) cs) h).0)
  | inr j ↦ among_present w cs (and_parts (is_present w c) (list_all (is_present w) cs) h).1 d j
]

pub least_is : (w : World) (from : ℕ) (dirs : List ℕ) (l : ℕ) → list_all (is_present w) dirs ≡ true → IsLeast w from dirs (Some l)
    → least_fault w from dirs (length w.parents) ≡ cannot_leave w from l
least_is w from dirs l p (faulty a k f) = the_fault w from dirs l (length w.parents) (among_present w dirs p l a) a k f

pub least_none : (w : World) (from : ℕ) (dirs : List ℕ) → IsLeast w from dirs None → least_fault w from dirs (length w.parents) ≡ None
least_none w from dirs (free f) = no_fault w from dirs (length w.parents) (λ d l i. f d i)

pub running_next : (w : World) (xs : List ℕ) (i d n r : ℕ) → i < length xs → d ≡ get_or xs i d → repeats xs ≡ false
    → n ≡ running_on w (take i xs) → r ≡ running_on w (d ∷ []) →
    n + r ≡ running_on w (take (i + 1) xs)
running_next w xs i d n r h e k s t =
    let a : is_among (take i xs) d ≡ false = ap (is_among (take i xs)) e ∙ not_before xs i d h k in
    rw (take_next xs i d h e, running_push w (take i xs) d a, s, t) refl

pub least_next : (w : World) (from : ℕ) (xs : List ℕ) (i d : ℕ) (o p : Option ℕ) → i < length xs → d ≡ get_or xs i d → IsLeast w from (take i xs) o →
    (cannot_leave w from d ≡ None → p ≡ o) → (cannot_leave w from d ≢ None → p ≡ Some (lesser o d)) → IsLeast w from (take (i + 1) xs) p
least_next w from xs i d o p h e l kept new = rw (take_next xs i d h e) (elim (fault_or (cannot_leave w from d)) [
  | inl k ↦ rw (kept k) (least_free w from (take i xs) d o l k)
  | inr k ↦ rw (new k) (least_faulty w from (take i xs) d o l k)
])

-- a request begins or ends

number_append : (p : Option Request → Bool) (ts : List (Option Request)) (t : Option Request) → number_of p (ts ++ t ∷ []) ≡ number_of p ts + cond (p t) 1 0
number_append p [] t = one (p t)
  where
    one : (b : Bool) → cond b (1 + 0) 0 ≡ 0 + cond b 1 0
    one b = grind arith
number_append p (u ∷ ts) t = rw (number_append p ts t) (add (p u) (number_of p ts) (cond (p t) 1 0))
  where
    add : (b : Bool) (m n : ℕ) → cond b (1 + (m + n)) (m + n) ≡ cond b (1 + m) m + n
    add true m n = omega arith
    add false m n = refl

number_ended : (p : Option Request → Bool) (ts : List (Option Request)) (t : ℕ) (q : Request) → p None ≡ false → get_or ts t None ≡ Some q →
    number_of p (set ts t None) + cond (p (Some q)) 1 0 ≡ number_of p ts
number_ended p [] t q h e = absurd (cc)
number_ended p (u ∷ ts) zero q h e = rw (h, e) (last (p (Some q)) (number_of p ts))
  where
    last : (b : Bool) (n : ℕ) → n + cond b 1 0 ≡ cond b (1 + n) n
    last true n = omega arith
    last false n = omega arith
number_ended p (u ∷ ts) (suc t) q h e = more (p u) (number_of p (set ts t None)) (number_of p ts) (cond (p (Some q)) 1 0) (number_ended p ts t q h e)
  where
    more : (b : Bool) (m n k : ℕ) → m + k ≡ n → cond b (1 + m) m + k ≡ cond b (1 + n) n
    more true m n k i = omega arith
    more false m n k i = i

abbrev pub runs_here : ℕ → ℕ → ℕ
runs_here d e = cond (eqb d e || false) 1 0

pub running_begun : (w : World) (q : Request) (e : ℕ) → count_by (runs_on (e ∷ [])) (w.tickets ++ Some q ∷ []) ≡ running_on w (e ∷ []) + runs_here e q.dir
running_begun w q e = rw (counted (runs_on (e ∷ [])) (w.tickets ++ Some q ∷ []), counted (runs_on (e ∷ [])) w.tickets)
    (number_append (runs_on (e ∷ [])) w.tickets (Some q))

pub running_ended : (w : World) (t : ℕ) (q : Request) (e : ℕ) → get_or w.tickets t None ≡ Some q
    → count_by (runs_on (e ∷ [])) (set w.tickets t None) + runs_here e q.dir ≡ running_on w (e ∷ [])
running_ended w t q e h = rw (counted (runs_on (e ∷ [])) (set w.tickets t None), counted (runs_on (e ∷ [])) w.tickets)
    (number_ended (runs_on (e ∷ [])) w.tickets t q refl h)
